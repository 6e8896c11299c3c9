use Rattle.std.proofs.Common.{arith}
use Rattle.cells.specs.Numbers.{IsWord}
use Rattle.transaction_cases.proofs.ViewLaws.{all_at}
use Rattle.transaction_cases.proofs.txn_calls.numbers.Goals as goal

pub number-requires : goal.number-requires
number-requires c = all_at (IsWord c.args.dtype) c.args.words.now c.loop-word.word-index _ c.requires.typed (omega arith)
