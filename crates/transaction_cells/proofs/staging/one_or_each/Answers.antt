use Rattle.std.proofs.Common.{refl}
use Rattle.transaction_cells.proofs.OneWord.{as_one}
use Rattle.transaction_cells.proofs.staging.one_or_each.Goals as goal

pub returns-then-is_one : goal.returns-then-is_one
returns-then-is_one c = as_one c.args.words.now (c.if-is_one.ensures.same refl)
