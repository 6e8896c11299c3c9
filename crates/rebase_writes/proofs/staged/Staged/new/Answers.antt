use Rattle.std.proofs.Common.{◌≡◌, ◌+◌, ◌/◌, replicate, rules}
use Rattle.rebase_writes.proofs.MarkLaws.{staged_marks-none}
use Rattle.rebase_writes.proofs.staged.Staged.new.Goals as goal

pub returns-then-cells-le-FEW_CELLS : goal.returns-then-cells-le-FEW_CELLS
returns-then-cells-le-FEW_CELLS c =
    let marks : c.in_ok-marks.marks.items ≡ replicate (c.args.cells / 64 + 1) 0 = search rules in
    let words : c.in_ok-words.words.items ≡ replicate c.args.cells 0 = search rules in
    rw (marks, words) (staged_marks-none c.args.cells (c.args.cells / 64 + 1) 0)
