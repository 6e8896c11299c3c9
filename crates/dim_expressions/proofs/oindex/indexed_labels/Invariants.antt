use Rattle.std.proofs.Common.{◌≡◌, map}
use Rattle.std.specs.List.{range_with_len}
use Rattle.dim_expressions.specs.Oindex.{indexed_label}
use Rattle.dim_expressions.proofs.oindex.indexed_labels.Given as goal

abbrev pub invariant-loop-dim : goal.invariant-loop-dim
invariant-loop-dim l = l.news.items ≡ map (indexed_label l.labels l.selected) (range_with_len 0 l.dim)
