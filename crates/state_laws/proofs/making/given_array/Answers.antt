use Rattle.std.proofs.Common.{sym, subst}
use Rattle.array_homes.specs.Homes.{reference_of}
use Rattle.history.specs.declared.array.ArrayInfo.{ArrayInfo}
use Rattle.stack_driver.specs.References.{IsReference}
use Rattle.state_laws.proofs.Given.{reference_given}
use Rattle.state_laws.proofs.making.given_array.Goals as goal

pub with_ref-requires : goal.with_ref-requires
with_ref-requires c =
    subst (λ (i : ArrayInfo). IsReference (reference_of i i.shape)) (sym c.in_ok-info.ensures) (reference_given c.args.number c.args.start c.shape.ensures.well_formed.rank c.requires)
