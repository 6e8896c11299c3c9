use Rattle.std.proofs.Common.{◌∙◌, sym, subst, arith}
use Rattle.rebase_writes.proofs.MarkLaws.{staged_at-marks, marked_cell, bare_cell}
use Rattle.std.proofs.Common.{refl, get_or}
use Rattle.rebase_writes.proofs.run.marked_word.Goals as goal

pub returns-then-is_marked : goal.returns-then-is_marked
returns-then-is_marked c count full =
    sym (staged_at-marks count c.args.marks.now c.args.staged.now c.args.place full (omega (arith, full, c.requires.inside))
    ∙ marked_cell c.args.marks.now c.args.staged.now c.args.place (get_or c.args.staged.now c.args.place 0) (sym c.is_marked.ensures ∙ c.if-is_marked.true) refl)

pub returns-else-is_marked : goal.returns-else-is_marked
returns-else-is_marked c count full =
    sym (staged_at-marks count c.args.marks.now c.args.staged.now c.args.place full (omega (arith, full, c.requires.inside))
    ∙ bare_cell c.args.marks.now c.args.staged.now c.args.place (sym c.is_marked.ensures ∙ c.if-is_marked.false))
