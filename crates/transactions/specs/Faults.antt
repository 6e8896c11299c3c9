-- Why a view may not be read or written.
use Rattle.std.specs.Prelude.{◌≡◌, Err}
use Rattle.index_transform.specs.Cells.{count_answer}
use Rattle.index_transform.specs.declared.error.CountError.TheVariants as count
use Rattle.stack_driver.specs.Views.{look_of}
use Rattle.stack_driver.specs.declared.view.View.{View}
use Rattle.stack_targets.specs.Buffers.{all_targets}
use Rattle.stack_targets.specs.declared.error.TargetsError.TheVariants as targets
use Rattle.chunk_fetches.specs.declared.error.ViewFault.{ViewFault}
use Rattle.transactions.specs.declared.error.WriteError.{WriteError}
use Rattle.transactions.specs.declared.error.WriteError.TheVariants as write
use Rattle.chunk_fetches.specs.declared.error.ViewFault.TheVariants.{Unbounded, TooMany, OutOfRange, Uncovered}

-- it has infinitely many cells, or too many, or a cell without a target
abbrev pub IsFaultOf : View → ViewFault → Type 0
IsFaultOf v (Unbounded dim) = count_answer (look_of v).dims ≡ Err (count.Unbounded dim)
IsFaultOf v (TooMany dim) = count_answer (look_of v).dims ≡ Err (count.TooMany dim)
IsFaultOf v (OutOfRange cell dim) = all_targets v ≡ Err (targets.OutOfRange cell dim)
IsFaultOf v (Uncovered cell) = all_targets v ≡ Err (targets.Uncovered cell)

-- the same of an answer; nothing is said of want of memory
abbrev pub IsLocateFault : View → WriteError → Type 0
IsLocateFault v (write.View fault) = IsFaultOf v fault
IsLocateFault v write.Memory = Unit {0}
