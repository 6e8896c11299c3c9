use Rattle.std.proofs.Common.{sym, subst}
use Rattle.std.specs.Option.{ForSome}
use Rattle.index_transform.specs.Bounds.{IsIndex}
use Rattle.index_transform.specs.declared.Edge.{Edge}
use Rattle.transform_composition.proofs.TightLemmas.{tight_lower-index, tight_upper-index}
use Rattle.transform_composition.proofs.tightening.tight_dims.Goals as goal

pub interval_of-requires-clause-lower : goal.interval_of-requires-clause-lower
interval_of-requires-clause-lower c =
    subst (λ (e : Edge). ForSome e.at IsIndex) (sym c.tight_lower-lower.ensures)
    (tight_lower-index c.args.inners.now c.args.outers.now c.args.maps.now c.loop-k.k c.index-inners-k.result c.loop-k-test.true c.index-inners-k.is c.requires.fits)

pub interval_of-requires-clause-upper : goal.interval_of-requires-clause-upper
interval_of-requires-clause-upper c =
    subst (λ (e : Edge). ForSome e.at IsIndex) (sym c.tight_upper-upper.ensures)
    (tight_upper-index c.args.inners.now c.args.outers.now c.args.maps.now c.loop-k.k c.index-inners-k.result c.loop-k-test.true c.index-inners-k.is c.requires.fits)
