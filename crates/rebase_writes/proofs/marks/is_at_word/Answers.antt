use Rattle.std.proofs.Common.{◌/◌, arith}
use Rattle.rebase_writes.proofs.marks.is_at_word.Goals as goal

pub returns-then-place-eq0-clause-at : goal.returns-then-place-eq0-clause-at
returns-then-place-eq0-clause-at c _ = (c.args.place / 64, omega (arith, c.if-place-eq0.true))
