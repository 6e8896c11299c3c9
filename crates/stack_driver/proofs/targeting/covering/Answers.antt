use Rattle.std.proofs.Common.{◌≡◌, ℤ, List, Vec, Global, false, refl, subst, Option}
use Rattle.std.specs.Prelude.{IfNone, map}
use Rattle.transform_composition.specs.Bounds.{Bounds}
use Rattle.transform_composition.specs.Values.{value_at}
use Rattle.stack_driver.specs.Targets.{has_index}
use Rattle.stack_driver.specs.Views.{look_of}
use Rattle.stack_driver.proofs.Landing.{none_covers}
use Rattle.stack_driver.proofs.targeting.covering.Goals as goal

pub returns-in_default-clause-err : goal.returns-in_default-clause-err
returns-in_default-clause-err c =
    let x = value_at c.args.transform.now c.args.index.now in
    let none : (dims : List Bounds) → has_index dims x ≡ false = subst (λ (o : Option (Vec ℤ Global)). IfNone o ((dims : List Bounds) → has_index dims x ≡ false)) c.in_default.is c.in_ok-inner.ensures.none in
    λ wanted. (refl, λ found. none_covers x none (map look_of c.args.layers.now) found)
