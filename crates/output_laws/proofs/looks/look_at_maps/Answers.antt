use Rattle.std.proofs.Common.{pos, arith}
use Rattle.index_transform.specs.declared.map.OutMap.TheVariants.{Constant}
use Rattle.output_laws.specs.Plain.{HasNumbers}
use Rattle.output_laws.proofs.Plain.{each_at}
use Rattle.output_laws.proofs.looks.look_at_maps.Goals as goal

pub returns : goal.returns
returns c = each_at HasNumbers (Constant (pos 0)) c.args.maps.now (λ k below. c.loop-map.invariant k (omega arith))
