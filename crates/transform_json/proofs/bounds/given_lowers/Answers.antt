use Rattle.std.proofs.Common.{◌∙◌, sym, subst, ap}
use Rattle.std.specs.Prelude.{codes, option_and_then}
use Rattle.serde_json.specs.View.{view}
use Rattle.json_forms.specs.Lists.{all_of}
use Rattle.json_forms.proofs.Collecting.{Collected, collected_first, collected_more, collected_none, collected_all}
use Rattle.transform_json.specs.Bounds.{bound_of}
use Rattle.transform_json.proofs.bounds.given_lowers.Goals as goal

pub loop-item-init : goal.loop-item-init
loop-item-init c = subst (Collected (bound_of (codes "-inf")) c.in-Some.items.now 0) (sym c.in_ok-lowers.ensures.items) (collected_first (bound_of (codes "-inf")) c.in-Some.items.now)

pub loop-item-preserved : goal.loop-item-preserved
loop-item-preserved c =
    let is = ap (λ v. bound_of (codes "-inf") (view v)) (sym c.item-item.is) ∙ sym c.bound_of.ensures ∙ c.in-Some-bound_of.is in
    rw c.in_ok-push.ensures.items
    (collected_more (bound_of (codes "-inf")) c.in-Some.items.now c.loop-item.item-index c.loop-item.lowers.items c.item-item.result c.in-Some-bound_of.lower c.loop-item-test.true is c.loop-item.invariant)

pub returns : goal.returns
returns c =
    collected_all (bound_of (codes "-inf")) c.in-Some.items.now c.loop-item.item-index c.loop-item.lowers.items c.loop-item-test.false c.loop-item.invariant
    ∙ ap (option_and_then (all_of (bound_of (codes "-inf")))) c.in-Some.ensures

pub returns-in_default-bound_of : goal.returns-in_default-bound_of
returns-in_default-bound_of c =
    let is = ap (λ v. bound_of (codes "-inf") (view v)) (sym c.item-item.is) ∙ sym c.bound_of.ensures ∙ c.in_default-bound_of.is in
    collected_none (bound_of (codes "-inf")) c.in-Some.items.now c.loop-item.item-index c.loop-item.lowers.items c.item-item.result c.loop-item-test.true is c.loop-item.invariant
    ∙ ap (option_and_then (all_of (bound_of (codes "-inf")))) c.in-Some.ensures
