use Rattle.std.proofs.Common.{◌≡◌, drop, None}
use Rattle.index_transform.specs.Edges.{preimage}
use Rattle.transform_composition.specs.Tightening.{gathered_from, preimages}
use Rattle.transform_composition.proofs.tightening.gathered.Given as goal

-- the rest is gathered from the bounds so far
abbrev pub invariant-loop-j : goal.invariant-loop-j
invariant-loop-j l = gathered_from None (preimages preimage l.dim l.outers l.maps)
    ≡ gathered_from l.bounds (preimages preimage l.dim (drop l.j l.outers) (drop l.j l.maps))
