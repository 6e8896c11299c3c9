-- Views of known arrays, by their form and over longer histories.
use Rattle.std.proofs.Common.{◌≡◌, ℕ, ◌<◌, ◌≤◌, List, [], ◌∷◌, map, take, take-take, Some, None, ◌⊎◌, inl, inr, Result, Ok, Err, refl, sym, ap, subst, ◌∙◌, arith}
use Rattle.std.specs.List.{AllByRecursion}
use Rattle.std.proofs.lemmas.Bool.{cases_lt}
use Rattle.std.proofs.lemmas.List.{take_all, length-take}
use Rattle.cells.specs.declared.dtype.Dtype.{Dtype}
use Rattle.stack_driver.specs.Transforms.{DomainAndMaps}
use Rattle.stack_driver.specs.declared.ComposeError.{ComposeError}
use Rattle.stack_driver.specs.Tightening.{tighten_answer}
use Rattle.stack_driver.specs.Arrays.{array_domain}
use Rattle.stack_driver.specs.References.{Reference}
use Rattle.stack_driver.specs.Renewed.{array_of, opened, reshaped, leaf_of, cast_renewed, renewed}
use Rattle.stack_driver.specs.declared.error.RenewError.{RenewError}
use Rattle.stack_driver.specs.declared.error.RenewError.TheVariants.{NotArray, Memory}
use Rattle.stack_driver.specs.declared.view.View.{View, ind-View, roll-View, map-View, every_here-View, every_made-View}
use Rattle.stack_driver.specs.declared.view.View.TheOpen.{View-F}
use Rattle.stack_driver.specs.declared.view.View.TheVariants as view
use Rattle.stack_driver.proofs.Laws.{every_base, every_layer, array-Leaf, array-Cast, array-Stack, renewed-Leaf, renewed-Cast, renewed-Stack}
use Rattle.history.specs.History.{History}
use Rattle.history.specs.Arrays.{known_after}
use Rattle.history.specs.Refs.{IsKnownRef, HasKnownRef, HasKnownRefs}
use Rattle.history.proofs.Known.{some_inj}

known_leaf : (events : History) (array : Reference) (t : DomainAndMaps) → IsKnownRef events array → HasKnownRefs events (view.Leaf array t)
known_leaf events array t known = subst (HasKnownRefs events) (view.rolls-Leaf array t) (every_made-View (HasKnownRef events) (View-F.Leaf array t) (View-F.Leaf array t) refl known)

known_cast : (events : History) (to : Dtype) (base : View) → HasKnownRefs events base → HasKnownRefs events (view.Cast to base)
known_cast events to base refs = subst (HasKnownRefs events) (view.rolls-Cast to base) (every_made-View (HasKnownRef events) (View-F.Cast to base) (View-F.Cast to (base, refs)) refl tt)

abbrev pairs : (events : History) (layers : List View) → AllByRecursion (HasKnownRefs events) layers → List ((z : View) × HasKnownRefs events z)
pairs events [] all = []
pairs events (l ∷ ls) all = (l, all.0) ∷ pairs events ls all.1

pairs-are : (events : History) (layers : List View) (all : AllByRecursion (HasKnownRefs events) layers) → map (λ (p : (z : View) × HasKnownRefs events z). p.0) (pairs events layers all) ≡ layers
pairs-are events [] all = refl
pairs-are events (l ∷ ls) all = ap (λ vs. l ∷ vs) (pairs-are events ls all.1)

known_stack : (events : History) (layers : List View) (t : DomainAndMaps) → AllByRecursion (HasKnownRefs events) layers → HasKnownRefs events (view.Stack layers t)
known_stack events layers t all =
    subst (HasKnownRefs events) (view.rolls-Stack layers t)
    (every_made-View (HasKnownRef events) (View-F.Stack layers t) (View-F.Stack (pairs events layers all) t) (ap (λ vs. View-F.Stack vs t) (pairs-are events layers all)) tt)

-- the array of a leaf
leaf_known : (events : History) (array : Reference) (t : DomainAndMaps) → HasKnownRefs events (view.Leaf array t) → IsKnownRef events array
leaf_known events array t refs = subst (HasKnownRef events) (view.outs-Leaf array t) (every_here-View (HasKnownRef events) (view.Leaf array t) refs)

-- a view is known over one history as over another, where each reference is
module _ (early late : History) (each : (r : Reference) → IsKnownRef early r → IsKnownRef late r) where
  Goes : View → Type 0
  Goes v = HasKnownRefs early v → HasKnownRefs late v

  goes_layers : (ys : List ((z : View) × Goes z)) → AllByRecursion (HasKnownRefs early) (map (λ (y : (z : View) × Goes z). y.0) ys) → AllByRecursion (HasKnownRefs late) (map (λ (y : (z : View) × Goes z). y.0) ys)
  unfolding Goes
  goes_layers [] all = tt
  goes_layers (y ∷ ys) all = (y.1 all.0, goes_layers ys all.1)

  goes_step : (x : View-F View) (y : View-F ((z : View) × Goes z)) → map-View ((z : View) × Goes z) View (λ e. e.0) y ≡ x → Goes (roll-View x)
  unfolding Goes
  goes_step x (View-F.Leaf array u) e =
      subst (λ z. Goes (roll-View z)) e (subst Goes (sym (view.rolls-Leaf array u)) (λ refs. known_leaf late array u (each array (leaf_known early array u refs))))
  goes_step x (View-F.Cast to p) e =
      subst (λ z. Goes (roll-View z)) e (subst Goes (sym (view.rolls-Cast to p.0)) (λ refs. known_cast late to p.0 (p.1 (every_base (HasKnownRef early) to p.0 refs))))
  goes_step x (View-F.Stack ys u) e =
      subst (λ z. Goes (roll-View z)) e
      (subst Goes (sym (view.rolls-Stack (map (λ (y : (z : View) × Goes z). y.0) ys) u))
      (λ refs. known_stack late (map (λ (y : (z : View) × Goes z). y.0) ys) u (goes_layers ys (every_layer (HasKnownRef early) (map (λ (y : (z : View) × Goes z). y.0) ys) u refs))))

  pub known_over : (v : View) → HasKnownRefs early v → HasKnownRefs late v
  unfolding Goes
  known_over v = ind-View Goes goes_step v

-- a reference that is known stays so
pub ref_later : (events : History) (n m : ℕ) → n ≤ m → (r : Reference) → IsKnownRef (take n events) r → IsKnownRef (take m events) r
ref_later events n m le r k = told (cases_lt k.seen n)
  where
    at : (seen : ℕ) → take seen (take m events) ≡ take k.seen (take n events) → IsKnownRef (take m events) r
    at seen same = record { seen = seen; array = k.array; known = subst (λ h. known_after h r.number ≡ Some k.array) (sym same) k.known; same = k.same }

    told : (k.seen < n) ⊎ (n ≤ k.seen) → IsKnownRef (take m events) r
    told (inl low) = at k.seen (take-take k.seen m events (omega (arith, low, le)) ∙ sym (take-take k.seen n events (omega (arith, low))))
    told (inr high) = at n (take-take n m events le ∙ sym (take_all k.seen (take n events) (omega (arith, high, length-take n events))))

pub view_later : (events : History) (n m : ℕ) → n ≤ m → (v : View) → HasKnownRefs (take n events) v → HasKnownRefs (take m events) v
view_later events n m le = known_over (take n events) (take m events) (ref_later events n m le)

-- a view of an array that has another shape is of that array alone
module _ (late : History) (shape : List ℕ) where
  Renews : View → Type 0
  Renews v = (made : View) (r : Reference) → renewed shape v ≡ Ok made → array_of v ≡ Some r → IsKnownRef late (reshaped shape r) → HasKnownRefs late made

  renews_leaf : (array : Reference) (t : DomainAndMaps) → Renews (view.Leaf array t)
  unfolding Renews
  renews_leaf array t made r e is known = told (tighten_answer (opened t) (array_domain (reshaped shape array))) (sym (renewed-Leaf shape array t) ∙ e)
    where
      told : (answer : Result DomainAndMaps ComposeError) → leaf_of (reshaped shape array) answer ≡ Ok made → HasKnownRefs late made
      told (Ok u) given =
          let same : view.Leaf (reshaped shape array) u ≡ made = cc in
          let array_is : array ≡ r = some_inj array r (sym (array-Leaf array t) ∙ is) in
          subst (HasKnownRefs late) same (known_leaf late (reshaped shape array) u (subst (λ a. IsKnownRef late (reshaped shape a)) (sym array_is) known))
      told (Err cause) given = absurd (cc)

  renews_cast : (to : Dtype) (base : View) → Renews base → Renews (view.Cast to base)
  unfolding Renews
  renews_cast to base rest made r e is known = told (renewed shape base) refl (sym (renewed-Cast shape to base) ∙ e)
    where
      told : (answer : Result View RenewError) → renewed shape base ≡ answer → cast_renewed to answer ≡ Ok made → HasKnownRefs late made
      told (Ok inner) there given =
          let same : view.Cast to inner ≡ made = cc in
          subst (HasKnownRefs late) same (known_cast late to inner (rest inner r there (sym (array-Cast to base) ∙ is) known))
      told (Err cause) there given = absurd (cc)

  renews_step : (x : View-F View) (y : View-F ((z : View) × Renews z)) → map-View ((z : View) × Renews z) View (λ e. e.0) y ≡ x → Renews (roll-View x)
  unfolding Renews
  renews_step x (View-F.Leaf array u) e = subst (λ z. Renews (roll-View z)) e (subst Renews (sym (view.rolls-Leaf array u)) (renews_leaf array u))
  renews_step x (View-F.Cast to p) e = subst (λ z. Renews (roll-View z)) e (subst Renews (sym (view.rolls-Cast to p.0)) (renews_cast to p.0 p.1))
  renews_step x (View-F.Stack ys u) e =
      subst (λ z. Renews (roll-View z)) e
      (subst Renews (sym (view.rolls-Stack (map (λ (y : (z : View) × Renews z). y.0) ys) u))
      (λ made r given is known. let never : Err NotArray ≡ Ok made = sym (renewed-Stack shape (map (λ (y : (z : View) × Renews z). y.0) ys) u) ∙ given in absurd (cc)))

  pub known_renewed : (v made : View) (r : Reference) → renewed shape v ≡ Ok made → array_of v ≡ Some r → IsKnownRef late (reshaped shape r) → HasKnownRefs late made
  unfolding Renews
  known_renewed v = ind-View Renews renews_step v

-- the array of a view of known arrays is one
Named : History → View → Type 0
Named events v = (r : Reference) → HasKnownRefs events v → array_of v ≡ Some r → IsKnownRef events r

named_leaf : (events : History) (array : Reference) (t : DomainAndMaps) → Named events (view.Leaf array t)
unfolding Named
named_leaf events array t r refs is = subst (IsKnownRef events) (some_inj array r (sym (array-Leaf array t) ∙ is)) (leaf_known events array t refs)

named_step : (events : History) (x : View-F View) (y : View-F ((z : View) × Named events z)) → map-View ((z : View) × Named events z) View (λ e. e.0) y ≡ x → Named events (roll-View x)
unfolding Named
named_step events x (View-F.Leaf array u) e = subst (λ z. Named events (roll-View z)) e (subst (Named events) (sym (view.rolls-Leaf array u)) (named_leaf events array u))
named_step events x (View-F.Cast to p) e =
    subst (λ z. Named events (roll-View z)) e
    (subst (Named events) (sym (view.rolls-Cast to p.0)) (λ r refs is. p.1 r (every_base (HasKnownRef events) to p.0 refs) (sym (array-Cast to p.0) ∙ is)))
named_step events x (View-F.Stack ys u) e =
    subst (λ z. Named events (roll-View z)) e
    (subst (Named events) (sym (view.rolls-Stack (map (λ (y : (z : View) × Named events z). y.0) ys) u))
    (λ r refs is. let never : None ≡ Some r = sym (array-Stack (map (λ (y : (z : View) × Named events z). y.0) ys) u) ∙ is in absurd (cc)))

pub array_known : (events : History) (v : View) (r : Reference) → HasKnownRefs events v → array_of v ≡ Some r → IsKnownRef events r
unfolding Named
array_known events v = ind-View (Named events) (named_step events) v

-- a view of an array has one of another shape, or its transform is refused
module _ (shape : List ℕ) where
  abbrev IsNone : Result View RenewError → Type 0
  IsNone r = (r ≡ Err NotArray) ⊎ (r ≡ Err Memory)

  Renewable : View → Type 0
  Renewable v = (r : Reference) → array_of v ≡ Some r → IsNone (renewed shape v) → ⊥

  renewable_leaf : (array : Reference) (t : DomainAndMaps) → Renewable (view.Leaf array t)
  unfolding Renewable
  renewable_leaf array t r is none = told (tighten_answer (opened t) (array_domain (reshaped shape array))) (subst IsNone (renewed-Leaf shape array t) none)
    where
      told : (answer : Result DomainAndMaps ComposeError) → IsNone (leaf_of (reshaped shape array) answer) → ⊥
      told (Ok u) (inl e) = absurd (cc)
      told (Ok u) (inr e) = absurd (cc)
      told (Err cause) (inl e) = absurd (cc)
      told (Err cause) (inr e) = absurd (cc)

  renewable_cast : (to : Dtype) (base : View) → Renewable base → Renewable (view.Cast to base)
  unfolding Renewable
  renewable_cast to base rest r is none = told (renewed shape base) (λ e. rest r (sym (array-Cast to base) ∙ is) e) (subst IsNone (renewed-Cast shape to base) none)
    where
      told : (answer : Result View RenewError) → (IsNone answer → ⊥) → IsNone (cast_renewed to answer) → ⊥
      told (Ok inner) never (inl e) = absurd (cc)
      told (Ok inner) never (inr e) = absurd (cc)
      told (Err cause) never e = never e

  renewable_step : (x : View-F View) (y : View-F ((z : View) × Renewable z)) → map-View ((z : View) × Renewable z) View (λ e. e.0) y ≡ x → Renewable (roll-View x)
  unfolding Renewable
  renewable_step x (View-F.Leaf array u) e = subst (λ z. Renewable (roll-View z)) e (subst Renewable (sym (view.rolls-Leaf array u)) (renewable_leaf array u))
  renewable_step x (View-F.Cast to p) e = subst (λ z. Renewable (roll-View z)) e (subst Renewable (sym (view.rolls-Cast to p.0)) (renewable_cast to p.0 p.1))
  renewable_step x (View-F.Stack ys u) e =
      subst (λ z. Renewable (roll-View z)) e
      (subst Renewable (sym (view.rolls-Stack (map (λ (y : (z : View) × Renewable z). y.0) ys) u))
      (λ r is none. let never : None ≡ Some r = sym (array-Stack (map (λ (y : (z : View) × Renewable z). y.0) ys) u) ∙ is in absurd (cc)))

  pub never_renewed : (v : View) (r : Reference) → array_of v ≡ Some r → (renewed shape v ≡ Err NotArray) ⊎ (renewed shape v ≡ Err Memory) → ⊥
  unfolding Renewable
  never_renewed v = ind-View Renewable renewable_step v
