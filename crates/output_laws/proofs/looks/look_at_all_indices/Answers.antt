use Rattle.std.proofs.Common.{pos, arith}
use Rattle.output_laws.specs.Plain.{IsWhole}
use Rattle.output_laws.proofs.Plain.{each_at}
use Rattle.output_laws.proofs.looks.look_at_all_indices.Goals as goal

pub returns : goal.returns
returns c = each_at IsWhole (pos 0) c.args.zs.now (λ k below. c.loop-z.invariant k (omega arith))
