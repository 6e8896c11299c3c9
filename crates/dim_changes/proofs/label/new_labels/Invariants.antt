use Rattle.std.proofs.Common.{◌≡◌, map}
use Rattle.std.specs.List.{range_with_len}
use Rattle.dim_changes.specs.Marks.{new_label}
use Rattle.dim_changes.proofs.label.new_labels.Given as goal

abbrev pub invariant-loop-dim : goal.invariant-loop-dim
invariant-loop-dim l = l.news.items ≡ map (new_label l.olds l.selected l.labels) (range_with_len 0 l.dim)
