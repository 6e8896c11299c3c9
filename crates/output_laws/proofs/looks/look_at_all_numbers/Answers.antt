use Rattle.std.proofs.Common.{◌<◌, ◌^◌, arith}
use Rattle.output_laws.proofs.Plain.{each_at}
use Rattle.output_laws.proofs.looks.look_at_all_numbers.Goals as goal

pub returns : goal.returns
returns c = each_at (λ n. n < 2 ^ 64) 0 c.args.ns.now (λ k below. omega (arith, c.type_inv.ns k))
