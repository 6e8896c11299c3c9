use Rattle.std.proofs.Common.{arith}
use Rattle.std.proofs.lemmas.Int.{ints}
use Rattle.output_laws.proofs.looks.look_at_integer.Goals as goal

pub returns : goal.returns
returns c = record { from_least = omega (arith, ints); to_greatest = omega (arith, ints) }
