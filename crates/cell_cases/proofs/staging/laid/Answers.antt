use Rattle.std.proofs.Common.{sym, ap, subst}
use Rattle.cells.specs.Dense.{DenseCells}
use Rattle.rebase_writes.specs.Staged.{AreWords}
use Rattle.cell_cases.proofs.staging.laid.Goals as goal

pub shown-requires-clause-words : goal.shown-requires-clause-words
shown-requires-clause-words c = subst (λ t. AreWords t c.args.staged.now) (sym (ap (λ (d : DenseCells). d.dtype) c.in_ok-base.ensures)) c.requires.words
