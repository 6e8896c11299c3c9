use Rattle.std.proofs.Common.{◌≡◌, ◌++◌, map, take, drop}
use Rattle.index_transform.specs.Values.{map_value}
use Rattle.index_transform.proofs.value.values_into.Given as goal

-- the numbers so far stand in front
abbrev pub invariant-loop-j : goal.invariant-loop-j
invariant-loop-j l = l.out ≡ take l.j (map (map_value l.dims l.index) l.maps) ++ drop l.j l.initial.out
