-- A view keeps its conditions under another own transform that has as many outputs.
use Rattle.std.proofs.Common.{◌≡◌, ◌∙◌, ℕ, List, [], ◌∷◌, length, map, Option, Some, None, Result, Ok, Err, refl, sym, ap, subst}
use Rattle.std.specs.List.{AllByRecursion}
use Rattle.std.proofs.lemmas.List.{length-map}
use Rattle.cast_driver.specs.declared.Dtype.{Dtype}
use Rattle.transform_composition.specs.Transforms.{DomainAndMaps}
use Rattle.transform_composition.specs.Composing.{composed, composed_map, joined, over_tightened, unless_large, unless_passed}
use Rattle.transform_composition.specs.Tightening.{tighten_answer}
use Rattle.transform_composition.specs.declared.error.ComposeError.{ComposeError}
use Rattle.stack_driver.specs.References.{Reference}
use Rattle.stack_driver.specs.Changes.{under}
use Rattle.stack_driver.specs.Conditions.{IsNode, IsView, AreLayers}
use Rattle.stack_driver.specs.Views.{own_transform}
use Rattle.stack_driver.specs.declared.view.View.{View, ind-View, roll-View, map-View, every_made-View}
use Rattle.stack_driver.specs.declared.view.View.TheOpen.{View-F}
use Rattle.stack_driver.specs.declared.view.View.TheVariants as view
use Rattle.stack_driver.proofs.ArrayRules.{leaf_view}
use Rattle.stack_driver.proofs.Layers.{leaf_node, stack_node, base_view, every_layer}
use Rattle.stack_driver.proofs.Looks.{own-Leaf, own-Cast, own-Stack}
use Rattle.stack_driver.proofs.Unders.{under-Leaf, under-Cast, under-Stack}

abbrev Keeps : DomainAndMaps → View → Type 0
Keeps t v = IsView v → length t.maps ≡ length (own_transform v).maps → IsView (under t v)

outputs : (t u : DomainAndMaps) → t ≡ u → length t.maps ≡ length u.maps
outputs t u same = ap (λ (w : DomainAndMaps). length w.maps) same

kept-Leaf : (t : DomainAndMaps) (array : Reference) (u : DomainAndMaps) → Keeps t (view.Leaf array u)
kept-Leaf t array u h same =
    subst IsView (sym (under-Leaf t array u)) (leaf_view array t (same ∙ outputs (own_transform (view.Leaf array u)) u (own-Leaf array u) ∙ leaf_node array u h))

pub cast_view : (to : Dtype) (base : View) → IsView base → IsView (view.Cast to base)
cast_view to base h = subst IsView (view.rolls-Cast to base) (every_made-View IsNode (View-F.Cast to base) (View-F.Cast to (base, h)) refl tt)

kept-Cast : (t : DomainAndMaps) (to : Dtype) (base : View) → Keeps t base → Keeps t (view.Cast to base)
kept-Cast t to base kept h same =
    subst IsView (sym (under-Cast t to base))
    (cast_view to (under t base) (kept (base_view to base h) (same ∙ outputs (own_transform (view.Cast to base)) (own_transform base) (own-Cast to base))))

abbrev pairs : (layers : List View) → AllByRecursion IsView layers → List ((z : View) × IsView z)
pairs [] all = []
pairs (l ∷ ls) all = (l, all.0) ∷ pairs ls all.1

pairs-are : (layers : List View) (all : AllByRecursion IsView layers) → map (λ (p : (z : View) × IsView z). p.0) (pairs layers all) ≡ layers
pairs-are [] all = refl
pairs-are (l ∷ ls) all = ap (λ vs. l ∷ vs) (pairs-are ls all.1)

-- layers of one dtype and rank, as many as a stack has, with a transform that has an output for each of their dimensions
pub stack_view : (layers : List View) (t : DomainAndMaps) → AllByRecursion IsView layers → AreLayers layers (length t.maps) → IsView (view.Stack layers t)
stack_view layers t all node =
    subst IsView (view.rolls-Stack layers t)
    (every_made-View IsNode (View-F.Stack layers t) (View-F.Stack (pairs layers all) t) (ap (λ vs. View-F.Stack vs t) (pairs-are layers all)) node)

kept-Stack : (t : DomainAndMaps) (layers : List View) (u : DomainAndMaps) → Keeps t (view.Stack layers u)
kept-Stack t layers u h same =
    subst IsView (sym (under-Stack t layers u))
    (stack_view layers t (every_layer IsNode layers u h)
    (subst (AreLayers layers) (sym (same ∙ outputs (own_transform (view.Stack layers u)) u (own-Stack layers u))) (stack_node layers u h)))

kept_step : (t : DomainAndMaps) (x : View-F View) (y : View-F ((z : View) × Keeps t z)) → map-View ((z : View) × Keeps t z) View (λ e. e.0) y ≡ x → Keeps t (roll-View x)
kept_step t x (View-F.Leaf array u) e = subst (λ z. Keeps t (roll-View z)) e (subst (Keeps t) (sym (view.rolls-Leaf array u)) (kept-Leaf t array u))
kept_step t x (View-F.Cast to p) e = subst (λ z. Keeps t (roll-View z)) e (subst (Keeps t) (sym (view.rolls-Cast to p.0)) (kept-Cast t to p.0 p.1))
kept_step t x (View-F.Stack ys u) e =
    subst (λ z. Keeps t (roll-View z)) e (subst (Keeps t) (sym (view.rolls-Stack (map (λ y. y.0) ys) u)) (kept-Stack t (map (λ y. y.0) ys) u))

pub kept : (t : DomainAndMaps) (v : View) → Keeps t v
kept t v = ind-View (Keeps t) (kept_step t) v

from_large : (o : Option ℕ) (j t : DomainAndMaps) → unless_large o j ≡ Ok t → j ≡ t
from_large None j t e = cc
from_large (Some k) j t e = absurd (cc)

from_passed : (o : Option ℕ) (answer : Result DomainAndMaps ComposeError) (t : DomainAndMaps) → unless_passed o answer ≡ Ok t → answer ≡ Ok t
from_passed None answer t e = e
from_passed (Some k) answer t e = absurd (cc)

over-outputs : (outer : DomainAndMaps) (r : Result DomainAndMaps ComposeError) (t : DomainAndMaps) → over_tightened outer r ≡ Ok t → length t.maps ≡ length outer.maps
over-outputs outer (Ok inner) t e =
    outputs t (joined outer inner) (sym (from_large _ (joined outer inner) t (from_passed _ _ t e)))
    ∙ length-map outer.maps (composed_map outer.domain.dims inner.domain.dims inner.maps)
over-outputs outer (Err x) t e = absurd (cc)

-- a composition has the outer transform's outputs
pub composed-outputs : (outer inner t : DomainAndMaps) → composed outer inner ≡ Ok t → length t.maps ≡ length outer.maps
composed-outputs outer inner t e = over-outputs outer (tighten_answer inner outer.domain) t e
