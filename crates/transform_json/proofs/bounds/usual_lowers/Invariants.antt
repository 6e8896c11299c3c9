use Rattle.std.proofs.Common.{◌≡◌, replicate}
use Rattle.transform_json.specs.Bounds.{usual_lower}
use Rattle.transform_json.proofs.bounds.usual_lowers.Given as goal

abbrev pub invariant-loop-place : goal.invariant-loop-place
invariant-loop-place l = l.lowers.items ≡ replicate l._place (usual_lower l.shaped)
