use Rattle.std.proofs.Common.{◌<◌, ℕ, get_or, pos}
use Rattle.index_transform.specs.declared.map.OutMap.TheVariants.{Constant}
use Rattle.output_laws.specs.Plain.{HasNumbers}
use Rattle.output_laws.proofs.looks.look_at_maps.Given as goal

abbrev pub invariant-loop-map : goal.invariant-loop-map
invariant-loop-map l = (k : ℕ) → k < l.map-index → HasNumbers (get_or l.maps k (Constant (pos 0)))
