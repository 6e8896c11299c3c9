use Rattle.std.proofs.Common.{Some, sym, ap, subst, ◌∙◌}
use Rattle.std.proofs.lemmas.Result.{IfOk-weaker}
use Rattle.read_fits.specs.Homes.{reference_of}
use Rattle.history.specs.declared.array.ArrayInfo.{ArrayInfo}
use Rattle.stack_driver.specs.References.{IsReference}
use Rattle.open_fits.specs.Settling.{IsNamed}
use Rattle.open_fits.proofs.settling.array_by.Goals as goal

pub array_opened-requires : goal.array_opened-requires
array_opened-requires c = (c.requires.0, c.requires.1)

pub named-requires : goal.named-requires
named-requires c = subst (λ (i : ArrayInfo). IsReference (reference_of i i.shape)) (sym (c.array_opened.ensures c.requires.0 c.requires.1)) c.requires.2

pub returns : goal.returns
returns c =
    IfOk-weaker c.named.result _ (IsNamed c.args.events.now c.args.number)
    (λ array is info opened. is ∙ ap (λ (i : ArrayInfo). Some (reference_of i i.shape)) (c.array_opened.ensures info opened)) c.named.ensures
