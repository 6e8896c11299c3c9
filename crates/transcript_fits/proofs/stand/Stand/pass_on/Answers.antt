use Rattle.std.proofs.Common.{◌∙◌, ℕ, sym, ap, subst}
use Rattle.open_fits.specs.declared.Own.{Own}
use Rattle.stated_history.specs.Standings.{IsSoundStanding, standing_of}
use Rattle.stated_history.specs.declared.walk.Walk.{Walk}
use Rattle.transcript_fits.specs.Stands.{IsOwnOf}
use Rattle.transcript_fits.proofs.Passing.{walked_on}
use Rattle.transcript_fits.proofs.stand.Stand.pass_on.Goals as goal

pub pass_line-requires-clause-source : goal.pass_line-requires-clause-source
pass_line-requires-clause-source c = c.requires.judge.source

pub pass_line-requires-clause-place : goal.pass_line-requires-clause-place
pass_line-requires-clause-place c = c.requires.walk.low

pub pass_line-requires-clause-sound : goal.pass_line-requires-clause-sound
pass_line-requires-clause-sound c = c.requires.walk.sound

pub returns-clause-walked : goal.returns-clause-walked
returns-clause-walked c =
    walked_on c.args.judge.now c.requires.judge c.args.self.now.walk c.pass_line.new.walk c.args.place _ c.requires.walk c.in_ok-pass_line.ensures.session c.in_ok-pass_line.ensures.gone c.args.self.now c.leave.new.self (λ i. c.args.self.now.walk) c.leave.ensures.walk
    (subst (λ (w : Walk). IsSoundStanding w.standing) (sym c.leave.ensures.walk) c.in_ok-pass_line.ensures.sound)

pub returns-clause-own : goal.returns-clause-own
returns-clause-own c = λ h u is own.
    let same = ap (λ (w : Walk). (standing_of w.standing).transaction) c.leave.ensures.walk in
    subst (λ (p : ℕ × Own). IsOwnOf h p.0 u.ops p.1) (λ i. (sym c.leave.ensures.upto i, sym (c.leave.ensures.some u (sym same ∙ is)) i)) own

pub returns-clause-none : goal.returns-clause-none
returns-clause-none c = λ h is.
    let same = ap (λ (w : Walk). (standing_of w.standing).transaction) c.leave.ensures.walk in
    c.leave.ensures.none (sym same ∙ is) h c.leave.new.self.upto
