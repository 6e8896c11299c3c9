use Rattle.std.proofs.Common.{◌≡◌, ◌∙◌, Option, Some, None, Bor, IfSome, ap, subst}
use Rattle.stack_driver.specs.Leaves.{IsLeafOf}
use Rattle.stack_driver.specs.References.{Reference}
use Rattle.stack_driver.specs.Renewed.{array_of}
use Rattle.stack_driver.specs.declared.view.View.{View}
use Rattle.stack_driver.proofs.LeafTargets.{lands}
use Rattle.stack_driver.proofs.Renewals.{array-Cast}
use Rattle.stack_driver.proofs.look.+array_of.Goals as goal

told : (v base : View) (o : Option (Bor Reference)) → array_of v ≡ array_of base → IfSome o (λ r. array_of base ≡ Some r.now) → IfSome o (λ r. IsLeafOf v r.now)
told v base None same h = tt
told v base (Some r) same h = lands v r.now (same ∙ h)

pub returns-in-Cast-clause-targets : goal.returns-in-Cast-clause-targets
returns-in-Cast-clause-targets t c =
    told c.args.v.now c.in-Cast.base c.array_of.result (ap array_of c.in-Cast.is ∙ array-Cast c.in-Cast.to c.in-Cast.base)
    (subst (λ (b : View). IfSome c.array_of.result (λ r. array_of b ≡ Some r.now)) c.get.ensures c.array_of.ensures.some)
