-- Targets of an array under casts.
use Rattle.std.proofs.Common.{◌≡◌, ◌∙◌, ℕ, List, [], ◌∷◌, ◌++◌, map, Option, Some, None, Result, Ok, Err, refl, sym, ap, subst}
use Rattle.cast_driver.specs.declared.cast.Cast.{Cast}
use Rattle.cast_driver.specs.declared.Dtype.{Dtype}
use Rattle.transform_composition.specs.Transforms.{DomainAndMaps}
use Rattle.transform_composition.specs.Values.{value_at}
use Rattle.stack_driver.specs.Counts.{Shown, casts_of}
use Rattle.stack_driver.specs.Leaves.{behind, IsLeafOf}
use Rattle.stack_driver.specs.References.{Reference}
use Rattle.stack_driver.specs.Renewed.{array_of, array_step}
use Rattle.stack_driver.specs.Targets.{Target, in_shape}
use Rattle.stack_driver.specs.Views.{Look, look_of, leaf_target, cast_target, own_transform}
use Rattle.stack_driver.specs.declared.error.TargetError.{TargetError}
use Rattle.stack_driver.specs.declared.view.View.{View, ind-View, roll-View, map-View, fold-roll-View}
use Rattle.stack_driver.specs.declared.view.View.TheOpen.{View-F}
use Rattle.stack_driver.specs.declared.view.View.TheVariants as view
use Rattle.stack_driver.proofs.Looks.{look-Leaf, look-Cast, own-Leaf, own-Cast}
use Rattle.stack_driver.proofs.Renewals.{array-Leaf, array-Cast}
use Rattle.stack_driver.proofs.Tallies.{shown-Leaf, casts-Cast}

abbrev Lands : View → Type 0
Lands v = (r : Reference) → array_of v ≡ Some r → IsLeafOf v r

none_behind : (r : Reference) (x : Result (List ℕ) ℕ) → leaf_target r x ≡ behind [] (leaf_target r x)
none_behind r (Ok index) = refl
none_behind r (Err dim) = refl

one_behind : (c : Cast) (casts : List Cast) (x : Result Target TargetError) → cast_target c (behind casts x) ≡ behind (casts ++ c ∷ []) x
one_behind c casts (Ok t) = refl
one_behind c casts (Err e) = refl

lands-Leaf : (array : Reference) (t : DomainAndMaps) → Lands (view.Leaf array t)
lands-Leaf array t r is index =
    let same : array ≡ r = inner (sym (array-Leaf array t) ∙ is) in
    ap (λ (l : Look). l.target index) (look-Leaf array t)
    ∙ none_behind array (in_shape 0 (value_at t index) array.shape)
    ∙ ap (λ cs. behind cs (leaf_target array (in_shape 0 (value_at t index) array.shape))) (sym (ap (λ (s : Shown). s.casts) (shown-Leaf array t)))
    ∙ ap (λ u. behind (casts_of (view.Leaf array t)) (leaf_target array (in_shape 0 (value_at u index) array.shape))) (sym (own-Leaf array t))
    ∙ ap (λ (a : Reference). behind (casts_of (view.Leaf array t)) (leaf_target a (in_shape 0 (value_at (own_transform (view.Leaf array t)) index) a.shape))) same
  where
    inner : Some array ≡ Some r → array ≡ r
    inner e = cc

lands-Cast : (to : Dtype) (base : View) → Lands base → Lands (view.Cast to base)
lands-Cast to base rest r is index =
    let c : Cast = record { from = (look_of base).dtype; to = to } in
    let below = rest r (sym (array-Cast to base) ∙ is) index in
    ap (λ (l : Look). l.target index) (look-Cast to base)
    ∙ ap (cast_target c) below
    ∙ one_behind c (casts_of base) (leaf_target r (in_shape 0 (value_at (own_transform base) index) r.shape))
    ∙ ap (λ cs. behind cs (leaf_target r (in_shape 0 (value_at (own_transform base) index) r.shape))) (sym (casts-Cast to base))
    ∙ ap (λ u. behind (casts_of (view.Cast to base)) (leaf_target r (in_shape 0 (value_at u index) r.shape))) (sym (own-Cast to base))

pub array-Stack : (layers : List View) (t : DomainAndMaps) → array_of (view.Stack layers t) ≡ None
array-Stack layers t = ap array_of (sym (view.rolls-Stack layers t)) ∙ fold-roll-View (Option Reference) array_step (View-F.Stack layers t)

lands-Stack : (layers : List View) (t : DomainAndMaps) → Lands (view.Stack layers t)
lands-Stack layers t r is index = let never : None ≡ Some r = sym (array-Stack layers t) ∙ is in absurd (cc)

lands_step : (x : View-F View) (y : View-F ((z : View) × Lands z)) → map-View ((z : View) × Lands z) View (λ e. e.0) y ≡ x → Lands (roll-View x)
lands_step x (View-F.Leaf array u) e = subst (λ z. Lands (roll-View z)) e (subst Lands (sym (view.rolls-Leaf array u)) (lands-Leaf array u))
lands_step x (View-F.Cast to p) e = subst (λ z. Lands (roll-View z)) e (subst Lands (sym (view.rolls-Cast to p.0)) (lands-Cast to p.0 p.1))
lands_step x (View-F.Stack ys u) e =
    subst (λ z. Lands (roll-View z)) e (subst Lands (sym (view.rolls-Stack (map (λ y. y.0) ys) u)) (lands-Stack (map (λ y. y.0) ys) u))

-- an array under casts has its targets at the own transform's value, behind the casts
pub lands : (v : View) → Lands v
lands v = ind-View Lands lands_step v
