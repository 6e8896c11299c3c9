-- Views over the arrays of a session.
use Rattle.std.proofs.Common.{◌≡◌, ℕ, zero, suc, ◌<◌, List, [], ◌∷◌, length, refl, subst, arith}
use Rattle.std.specs.Prelude.{Result, Ok, Err, IfOk, slice_index_or}
use Rattle.std.specs.List.{AllByRecursion}
use Rattle.cells.specs.declared.dtype.Dtype.{Dtype}
use Rattle.history.specs.History.{History}
use Rattle.history.specs.Refs.{HasKnownRef, HasKnownRefs, IsKnownRef}
use Rattle.index_transform.specs.Transforms.{DomainAndMaps}
use Rattle.stack_driver.specs.Conditions.{IsNode, IsView}
use Rattle.stack_driver.specs.References.{Reference}
use Rattle.stack_driver.specs.declared.view.View.{View, every_made-View}
use Rattle.stack_driver.specs.declared.view.View.TheOpen.{View-F}
use Rattle.stack_driver.specs.declared.view.View.TheVariants as view

pub leaf_view : (r : Reference) (t : DomainAndMaps) → length t.maps ≡ length r.shape → IsView (view.Leaf r t)
leaf_view r t same = subst IsView (view.rolls-Leaf r t) (every_made-View IsNode (View-F.Leaf r t) (View-F.Leaf r t) refl same)

pub cast_view : (to : Dtype) (base : View) → IsView base → IsView (view.Cast to base)
cast_view to base h = subst IsView (view.rolls-Cast to base) (every_made-View IsNode (View-F.Cast to base) (View-F.Cast to (base, h)) refl tt)

pub leaf_known : (events : History) (r : Reference) (t : DomainAndMaps) → IsKnownRef events r → HasKnownRefs events (view.Leaf r t)
leaf_known events r t known = subst (HasKnownRefs events) (view.rolls-Leaf r t) (every_made-View (HasKnownRef events) (View-F.Leaf r t) (View-F.Leaf r t) refl known)

pub cast_known : (events : History) (to : Dtype) (base : View) → HasKnownRefs events base → HasKnownRefs events (view.Cast to base)
cast_known events to base refs = subst (HasKnownRefs events) (view.rolls-Cast to base) (every_made-View (HasKnownRef events) (View-F.Cast to base) (View-F.Cast to (base, refs)) refl tt)

-- what holds of all holds of one
pub all_at : {A : Type 0} (P : A → Type 0) (xs : List A) (k : ℕ) (d : A) → AllByRecursion P xs → k < length xs → P (slice_index_or xs k d)
all_at P [] k d all low = absurd (omega (arith, low))
all_at P (x ∷ xs) zero d all low = all.0
all_at P (x ∷ xs) (suc k) d all low = all_at P xs k d all.1 (omega (arith, low))

-- what follows of a result
pub if_ok_map : {A E : Type 0} {P Q : A → Type 0} (r : Result A E) → IfOk r P → ((a : A) → P a → Q a) → IfOk r Q
if_ok_map (Ok a) p f = f a p
if_ok_map (Err e) p f = tt
