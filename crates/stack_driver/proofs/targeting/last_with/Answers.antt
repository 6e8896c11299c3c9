use Rattle.std.proofs.Common.{◌≡◌, ◌∙◌, ◌+◌, List, take, refl, sym, ap, subst}
use Rattle.std.proofs.lemmas.List.{take_all}
use Rattle.transform_composition.specs.Bounds.{Bounds}
use Rattle.stack_driver.specs.Targets.{has_index}
use Rattle.stack_driver.specs.Views.{look_of}
use Rattle.stack_driver.specs.Conditions.{IsLast}
use Rattle.stack_driver.specs.declared.view.View.{View}
use Rattle.stack_driver.proofs.Members.{last-next, last-stays}
use Rattle.stack_driver.proofs.targeting.last_with.Goals as goal
use Rattle.stack_driver.proofs.targeting.last_with.Goals.{then-has_index, else-has_index}

pub loop-place-init : goal.loop-place-init
loop-place-init c = λ found. refl

pub loop-place-preserved : goal.loop-place-preserved
loop-place-preserved c =
    let v = c.index-layers-place.result in
    let dims : c.items.result.now ≡ (look_of v).dims = c.items.ensures ∙ ap (λ d. d.dims) c.domain-domain.ensures.value ∙ c.transform_of.ensures.domain in
    let test : c.has_index.result ≡ has_index (look_of v).dims c.args.index.now = c.has_index.ensures ∙ ap (λ (ds : List Bounds). has_index ds c.args.index.now) dims in
    elim c.if-has_index.branch [
      | then-has_index w ↦ subst (IsLast (take (c.loop-place.place + 1) c.args.layers.now) c.args.index.now) (sym w.last-is)
          (last-next c.args.layers.now c.loop-place.place v c.args.index.now c.loop-place.last c.loop-place-test.true c.index-layers-place.is (sym test ∙ w.if-has_index.true))
      | else-has_index w ↦ subst (IsLast (take (c.loop-place.place + 1) c.args.layers.now) c.args.index.now) (sym w.last-is)
          (last-stays c.args.layers.now c.loop-place.place v c.args.index.now c.loop-place.last c.loop-place-test.true c.index-layers-place.is (sym test ∙ w.if-has_index.false) c.loop-place.invariant)
    ]

pub returns : goal.returns
returns c =
    subst (λ (vs : List View). IsLast vs c.args.index.now c.loop-place.last) (take_all c.loop-place.place c.args.layers.now c.loop-place-test.false) c.loop-place.invariant
