use Rattle.std.proofs.Common.{◌≡◌, drop}
use Rattle.std.specs.List.{list_all}
use Rattle.layer_join.specs.Joins.{is_ordered_along}
use Rattle.layer_join.proofs.sliding.look_along.Given as goal

-- what is left decides
abbrev pub invariant-loop-v : goal.invariant-loop-v
invariant-loop-v l = list_all (is_ordered_along l.axis) l.layers ≡ list_all (is_ordered_along l.axis) (drop l.v-index l.layers)
