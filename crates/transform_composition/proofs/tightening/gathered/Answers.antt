use Rattle.std.proofs.Common.{◌∙◌, ◌+◌, ap, sym, arith, drop, Option}
use Rattle.index_transform.specs.declared.Ends.{Ends}
use Rattle.index_transform.specs.Edges.{preimage}
use Rattle.transform_composition.specs.Tightening.{gathered_from, preimages}
use Rattle.transform_composition.proofs.EdgeLemmas.{gathered_from-next}
use Rattle.transform_composition.proofs.tightening.gathered.Goals as goal

pub loop-j-preserved : goal.loop-j-preserved
loop-j-preserved c =
    c.loop-j.invariant
    ∙ gathered_from-next c.args.dim c.args.outers.now c.args.maps.now c.loop-j.j c.loop-j.bounds c.index-outers-j.result c.index-maps-j.result c.preimage_by.result
    (omega (arith, c.requires.rank, c.loop-j-test.true)) c.loop-j-test.true c.index-outers-j.is c.index-maps-j.is c.preimage_by.ensures
    ∙ ap (λ (z : Option Ends). gathered_from z (preimages preimage c.args.dim (drop (c.loop-j.j + 1) c.args.outers.now) (drop (c.loop-j.j + 1) c.args.maps.now))) (sym c.within-bounds.ensures)
