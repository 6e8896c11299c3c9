use Rattle.std.proofs.Common.{◌≡◌, [], replicate}
use Rattle.transform_json.proofs.input.no_labels.Given as goal

abbrev pub invariant-loop-place : goal.invariant-loop-place
invariant-loop-place l = l.labels.items ≡ replicate l._place []
