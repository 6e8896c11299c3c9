use Rattle.std.specs.List.{AllByRecursion}
use Rattle.cells.specs.Numbers.{IsWord}
use Rattle.transaction_cases.proofs.txn_calls.words.Given as goal

abbrev pub invariant-loop-number : goal.invariant-loop-number
invariant-loop-number l = AllByRecursion (IsWord l.dtype) l.words.items
