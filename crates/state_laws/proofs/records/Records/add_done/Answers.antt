use Rattle.std.proofs.Common.{sym, subst}
use Rattle.state_laws.specs.Indexed.{AreArrays}
use Rattle.state_laws.proofs.Indexing.{arrays_done}
use Rattle.state_laws.proofs.records.Records.add_done.Goals as goal

pub invariant_of-self : goal.invariant_of-self
invariant_of-self c =
    subst (λ h. AreArrays h c.self.inside.arrays.items) (sym c.add-number.ensures.items)
    (arrays_done c.self.inside.events.items c.self.inside.arrays.items c.args.owner c.args.done c.self.invariant)
