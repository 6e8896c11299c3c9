use Rattle.std.proofs.Common.{◌≡◌, drop}
use Rattle.std.specs.List.{zip, position_from}
use Rattle.transform_composition.specs.Tightening.{first_overflow_by, overflows_by}
use Rattle.transform_composition.proofs.tightening.first_overflow.Given as goal

abbrev pub invariant-loop-j : goal.invariant-loop-j
invariant-loop-j l = first_overflow_by l.inners l.outers l.maps
    ≡ position_from (λ p. overflows_by l.inners l.outers l.maps p.0 p.1) l.j (zip (drop l.j l.outers) (drop l.j l.maps))
