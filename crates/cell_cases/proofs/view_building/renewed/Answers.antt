use Rattle.std.proofs.Common.{◌∙◌, ℕ, List, sym, subst}
use Rattle.stack_driver.specs.Renewed.{MayRenew}
use Rattle.cell_cases.proofs.view_building.renewed.Goals as goal

pub renew-requires : goal.renew-requires
renew-requires c =
    subst (λ (shape : List ℕ). MayRenew c.args.view shape) (c.deref.ensures.value ∙ sym c.deref-2.ensures.value) (c.may_renew.ensures c.if-not-may_renew.false)
