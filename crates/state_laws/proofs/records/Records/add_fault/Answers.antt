use Rattle.std.proofs.Common.{sym, subst}
use Rattle.state_laws.specs.Indexed.{AreArrays}
use Rattle.state_laws.proofs.Indexing.{arrays_fault}
use Rattle.state_laws.proofs.records.Records.add_fault.Goals as goal

pub invariant_of-self : goal.invariant_of-self
invariant_of-self c =
    subst (λ h. AreArrays h c.self.inside.arrays.items) (sym c.add.ensures.items) (arrays_fault c.self.inside.events.items c.self.inside.arrays.items c.args.owner c.args.mount c.self.invariant)
