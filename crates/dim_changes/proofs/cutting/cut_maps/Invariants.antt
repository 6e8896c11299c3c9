use Rattle.std.proofs.Common.{◌≡◌, map}
use Rattle.std.specs.List.{range_with_len}
use Rattle.dim_changes.specs.CutViews.{cut_map}
use Rattle.dim_changes.proofs.cutting.cut_maps.Given as goal

abbrev pub invariant-loop-dim : goal.invariant-loop-dim
invariant-loop-dim l = l.maps.items ≡ map (cut_map l.act l.dims l.selected) (range_with_len 0 l.dim)
