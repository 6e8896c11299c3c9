use Rattle.std.proofs.Common.{sym, subst}
use Rattle.stack_driver.specs.References.{IsReference}
use Rattle.array_homes.specs.Homes.{reference_of}
use Rattle.history.specs.declared.array.ArrayInfo.{ArrayInfo}
use Rattle.state_laws.proofs.Fresh.{reference_new}
use Rattle.state_laws.proofs.making.with_info.Goals as goal

pub with_ref-requires : goal.with_ref-requires
with_ref-requires c =
    subst (λ (i : ArrayInfo). IsReference (reference_of i i.shape)) (sym c.in_ok-info.ensures) (reference_new c.args.number c.args.mount.now c.args.path.now c.args.form c.requires.stored c.requires.valid)
