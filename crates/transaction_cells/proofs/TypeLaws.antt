-- The casts of a view's leaves lead to its dtype.
use Rattle.std.proofs.Common.{◌≡◌, ◌∙◌, ℕ, List, [], ◌∷◌, ◌++◌, map, refl, sym, subst, arith, length}
use Rattle.std.specs.List.{AllByRecursion}
use Rattle.cast_driver.specs.declared.cast.Cast.{Cast}
use Rattle.cast_driver.proofs.Laws.{BeginsWith-push, dtype_after-push}
use Rattle.cells.specs.declared.dtype.Dtype.{Dtype}
use Rattle.stack_driver.specs.Conditions.{HasKind, AreLayers, IsNode, IsView}
use Rattle.stack_driver.specs.Views.{look_of}
use Rattle.stack_driver.specs.declared.view.View.{View, ind-View, roll-View, map-View}
use Rattle.stack_driver.specs.declared.view.View.TheOpen.{View-F}
use Rattle.stack_driver.specs.declared.view.View.TheVariants as view
use Rattle.stack_driver.proofs.Layers.{stack_node}
use Rattle.stack_driver.proofs.Laws.{every_base, every_layer}
use Rattle.stack_targets.specs.Landings.{Seen, Ground, ground_of, leaves_of, all_leaves, ground_dtype, with_cast}
use Rattle.stack_targets.proofs.Laws.{ground-Leaf, ground-Cast, ground-Stack, agrees}
use Rattle.transaction_cells.specs.Lanes.{IsShownAs}

abbrev AreShownAs : Ground → Type 0
AreShownAs g = AllByRecursion (IsShownAs g.dtype) g.leaves

Leads : View → Type 0
Leads v = IsView v → AreShownAs (ground_of v)

cast_leads : (from to : Dtype) (leaves : List Seen) → AllByRecursion (IsShownAs from) leaves → AllByRecursion (IsShownAs to) (map (with_cast (record { from = from; to = to })) leaves)
cast_leads from to [] all = tt
cast_leads from to (s ∷ leaves) all =
    let c : Cast = record { from = from; to = to } in
    (record { begins = BeginsWith-push s.casts s.array.dtype c all.0.begins (sym all.0.ends); ends = dtype_after-push s.casts s.array.dtype c }, cast_leads from to leaves all.1)

joined_lead : (dtype : Dtype) (xs ys : List Seen) → AllByRecursion (IsShownAs dtype) xs → AllByRecursion (IsShownAs dtype) ys → AllByRecursion (IsShownAs dtype) (xs ++ ys)
joined_lead dtype [] ys one other = other
joined_lead dtype (x ∷ xs) ys one other = (one.0, joined_lead dtype xs ys one.1 other)

layers_lead : (ys : List ((z : View) × Leads z)) (dtype : Dtype) (rank : ℕ) → AllByRecursion (HasKind dtype rank) (map (λ (y : (z : View) × Leads z). y.0) ys) → AllByRecursion IsView (map (λ (y : (z : View) × Leads z). y.0) ys)
    → AllByRecursion (IsShownAs dtype) (all_leaves (map ground_of (map (λ (y : (z : View) × Leads z). y.0) ys)))
unfolding Leads
layers_lead [] dtype rank alike valid = tt
layers_lead (y ∷ ys) dtype rank alike valid =
    joined_lead dtype (leaves_of y.0) (all_leaves (map ground_of (map (λ (y : (z : View) × Leads z). y.0) ys)))
    (subst (λ d. AllByRecursion (IsShownAs d) (leaves_of y.0)) ((agrees y.0).dtype ∙ alike.0.dtype_is) (y.1 valid.0))
    (layers_lead ys dtype rank alike.1 valid.1)

first_is : (layers : List View) (dtype : Dtype) (rank : ℕ) → AllByRecursion (HasKind dtype rank) layers → AreLayers layers rank → ground_dtype (map ground_of layers) ≡ dtype
first_is [] dtype rank alike node = absurd (let some = node.some in omega (arith, some))
first_is (l ∷ ls) dtype rank alike node = (agrees l).dtype ∙ alike.0.dtype_is

leads_step : (x : View-F View) (y : View-F ((z : View) × Leads z)) → map-View ((z : View) × Leads z) View (λ e. e.0) y ≡ x → Leads (roll-View x)
unfolding Leads
leads_step x (View-F.Leaf array u) e =
    subst (λ z. Leads (roll-View z)) e
    (subst Leads (sym (view.rolls-Leaf array u)) (λ valid. subst AreShownAs (sym (ground-Leaf array u)) (record { begins = tt; ends = refl }, tt)))
leads_step x (View-F.Cast to p) e =
    subst (λ z. Leads (roll-View z)) e
    (subst Leads (sym (view.rolls-Cast to p.0))
    (λ valid. subst AreShownAs (sym (ground-Cast to p.0)) (cast_leads (ground_of p.0).dtype to (leaves_of p.0) (p.1 (every_base IsNode to p.0 valid)))))
leads_step x (View-F.Stack ys u) e =
    let layers : List View = map (λ (y : (z : View) × Leads z). y.0) ys in
    subst (λ z. Leads (roll-View z)) e
    (subst Leads (sym (view.rolls-Stack layers u))
    (λ valid.
    let node = stack_node layers u valid in
    subst AreShownAs (sym (ground-Stack layers u))
    (subst (λ d. AllByRecursion (IsShownAs d) (all_leaves (map ground_of layers))) (sym (first_is layers node.dtype (length u.maps) node.alike node))
    (layers_lead ys node.dtype (length u.maps) node.alike (every_layer IsNode layers u valid)))))

leads : (v : View) → Leads v
leads v = ind-View Leads leads_step v

-- the casts of each leaf lead from its array's dtype to the view's
pub shown_as : (v : View) → IsView v → AllByRecursion (IsShownAs (look_of v).dtype) (leaves_of v)
unfolding Leads
shown_as v valid = subst (λ d. AllByRecursion (IsShownAs d) (leaves_of v)) (agrees v).dtype (leads v valid)
