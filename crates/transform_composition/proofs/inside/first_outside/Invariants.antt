use Rattle.std.proofs.Common.{◌≡◌, drop, not}
use Rattle.std.specs.List.{zip, position_from}
use Rattle.transform_composition.specs.Inside.{first_outside_by, is_inside_by}
use Rattle.transform_composition.proofs.inside.first_outside.Given as goal

abbrev pub invariant-loop-j : goal.invariant-loop-j
invariant-loop-j l = first_outside_by l.dims l.outers l.maps
    ≡ position_from (λ p. not (is_inside_by l.dims p.0 p.1)) l.j (zip (drop l.j l.outers) (drop l.j l.maps))
