use Rattle.std.proofs.Common.{arith}
use Rattle.cells.proofs.dense.look.Goals as goal

pub returns : goal.returns
returns c = λ i. omega (arith, c.type_inv.bytes i)
