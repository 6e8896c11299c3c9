use Rattle.std.proofs.Common.{drop, map}
use Rattle.index_transform.specs.Values.{entry_place, map_value}
use Rattle.index_transform.proofs.Laws.{IsAlong}
use Rattle.transform_composition.proofs.reading.place_over.Given as goal

abbrev pub invariant-loop-j : goal.invariant-loop-j
invariant-loop-j l = IsAlong (drop l.j l.outers) (drop l.j l.sizes) (drop l.j (map (map_value l.dims l.cell) l.maps)) l.place (entry_place l.outers l.sizes (map (map_value l.dims l.cell) l.maps))
