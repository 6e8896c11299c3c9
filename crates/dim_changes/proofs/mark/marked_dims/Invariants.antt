use Rattle.std.proofs.Common.{◌≡◌, map}
use Rattle.std.specs.List.{range_with_len}
use Rattle.dim_changes.specs.Marks.{marked_dim}
use Rattle.dim_changes.proofs.mark.marked_dims.Given as goal

abbrev pub invariant-loop-dim : goal.invariant-loop-dim
invariant-loop-dim l = l.news.items ≡ map (marked_dim l.dims l.selected l.lower l.upper) (range_with_len 0 l.dim)
