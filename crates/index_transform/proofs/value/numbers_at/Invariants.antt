use Rattle.std.proofs.Common.{◌≡◌, map, take, drop, not}
use Rattle.std.specs.List.{position_from}
use Rattle.index_intervals.specs.Bounds.{is_index}
use Rattle.index_transform.specs.Values.{map_value, first_overflow}
use Rattle.index_transform.proofs.value.numbers_at.Given as goal

-- the numbers so far are indices
abbrev pub invariant-loop-output : goal.invariant-loop-output
invariant-loop-output l = (l.numbers.items ≡ map (map_value l.dims l.index) (take l.output l.maps))
    × (first_overflow (map (map_value l.dims l.index) l.maps) ≡ position_from (λ x. not (is_index x)) l.output (map (map_value l.dims l.index) (drop l.output l.maps)))
