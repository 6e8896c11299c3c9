use Rattle.std.proofs.Common.{sym, ap, subst}
use Rattle.cells.specs.Dense.{DenseCells}
use Rattle.rebase_writes.specs.Staged.{AreWords}
use Rattle.chunk_laying.proofs.laying.over_fill.Goals as goal

pub lay_over-requires-clause-words : goal.lay_over-requires-clause-words
lay_over-requires-clause-words c = subst (λ t. AreWords t c.args.staged.now) (sym (ap (λ (d : DenseCells). d.dtype) c.in_ok-cells.ensures)) c.requires.words
