use Rattle.std.proofs.Common.{◌≡◌, ◌∙◌, ◌+◌, ◌-◌, ℕ, List, ap, subst, sym, take, arith}
use Rattle.open_fits.specs.Walls.{AreEnds}
use Rattle.open_fits.specs.Windows.{lines_before}
use Rattle.stated_history.specs.Standings.{standing_of}
use Rattle.transcript_fits.proofs.frames.Frame.window.Goals as goal

pub begun_before-begun-requires-clause-begin : goal.begun_before-begun-requires-clause-begin
begun_before-begun-requires-clause-begin c = omega arith

pub window_at-requires-clause-begun : goal.window_at-requires-clause-begun
window_at-requires-clause-begun c = let within = c.begun_before-begun.ensures.within in omega (arith, within)

pub returns : goal.returns
returns c = λ total told t ends printed begun.
    let t_stands = (standing_of c.args.stand.now.walk.standing).transaction in
    let same : (c.args.self.now.begin + c.args.at) - c.args.self.now.begin ≡ c.args.at = omega arith in
    c.window_at.ensures total told t t_stands (subst (λ (es : List ℕ). AreEnds total c.args.self.now.said.now es) (sym c.deref-2.ensures.value) ends) printed (ap (λ n. lines_before t_stands (take n told)) (sym same) ∙ c.begun_before-begun.ensures.lines told begun)
