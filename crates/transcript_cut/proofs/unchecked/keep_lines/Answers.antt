use Rattle.std.proofs.Common.{ℕ, List, Bool, true, false, refl, subst}
use Rattle.transcript_cut.specs.Keeping.{IsLineRead}
use Rattle.transcript_cut.proofs.Behind.{all_lines}
use Rattle.transcript_cut.proofs.Checked.{at_start, one_more, first_here, all_checked, all_kept}
use Rattle.transcript_cut.proofs.unchecked.keep_lines.Goals as goal

pub lines-init : goal.lines-init
lines-init c =
    at_start c.args.scripts.now c.args.commands.now.items _ c.requires.none
    (all_lines c.args.scripts.now c.first-cursor.result.session c.first-cursor.result.number c.first-cursor.result.from c.first-cursor.ensures.session c.first-cursor.ensures.number c.first-cursor.ensures.from)

pub lines-preserved : goal.lines-preserved
lines-preserved c =
    one_more c.args.scripts.now c.lines.commands.items c.keep_line.new.commands.items _ _ _ c.lines.invariant c.in-Some.ensures.some
    (subst (λ (p : List ℕ × Bool). IsLineRead p.0 c.lines.commands.items c.keep_line.new.commands.items p.1) (λ i. (c.bytes_of.ensures i, c.if-not-checked.false i)) c.in_ok-checked.ensures)

pub returns-then-not-checked-clause-some : goal.returns-then-not-checked-clause-some
returns-then-not-checked-clause-some c =
    first_here c.args.scripts.now c.lines.commands.items c.keep_line.new.commands.items _ _ _ c.lines.invariant c.in-Some.ensures.some
    (subst (λ (p : List ℕ × Bool). IsLineRead p.0 c.lines.commands.items c.keep_line.new.commands.items p.1) (λ i. (c.bytes_of.ensures i, c.if-not-checked.true i)) c.in_ok-checked.ensures)

pub returns-clause-none : goal.returns-clause-none
returns-clause-none c = all_checked c.args.scripts.now c.lines.commands.items _ c.lines.invariant (c.in_default.ensures.none refl)

pub returns-clause-kept : goal.returns-clause-kept
returns-clause-kept c = all_kept c.args.scripts.now c.lines.commands.items _ c.lines.invariant (c.in_default.ensures.none refl)
