use Rattle.std.proofs.Common.{◌≡◌, map}
use Rattle.std.specs.List.{range_with_len}
use Rattle.dim_changes.specs.Dims.{spot_in}
use Rattle.dim_expressions.specs.Newaxis.{axis_label_by}
use Rattle.dim_expressions.proofs.newaxis.axis_labels.Given as goal

abbrev pub invariant-loop-position : goal.invariant-loop-position
invariant-loop-position l = l.news.items ≡ map (λ position. axis_label_by l.labels (spot_in l.olds position)) (range_with_len 0 l.position)
