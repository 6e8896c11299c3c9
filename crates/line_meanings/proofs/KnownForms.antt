-- Views of known arrays, by their form.
use Rattle.std.proofs.Common.{◌≡◌, List, [], ◌∷◌, map, refl, ap, subst}
use Rattle.std.specs.List.{AllByRecursion}
use Rattle.cells.specs.declared.dtype.Dtype.{Dtype}
use Rattle.index_transform.specs.Transforms.{DomainAndMaps}
use Rattle.stack_driver.specs.References.{Reference}
use Rattle.stack_driver.specs.declared.view.View.{View, every_here-View, every_made-View}
use Rattle.stack_driver.specs.declared.view.View.TheOpen.{View-F}
use Rattle.stack_driver.specs.declared.view.View.TheVariants as view
use Rattle.line_answers.specs.History.{History}
use Rattle.line_answers.specs.Refs.{IsKnownRef, HasKnownRef, HasKnownRefs}

-- a leaf of a known array, a cast of such a view, a stack of such views
pub known_leaf : (events : History) (array : Reference) (t : DomainAndMaps) → IsKnownRef events array → HasKnownRefs events (view.Leaf array t)
known_leaf events array t known = subst (HasKnownRefs events) (view.rolls-Leaf array t) (every_made-View (HasKnownRef events) (View-F.Leaf array t) (View-F.Leaf array t) refl known)

pub known_cast : (events : History) (to : Dtype) (base : View) → HasKnownRefs events base → HasKnownRefs events (view.Cast to base)
known_cast events to base refs = subst (HasKnownRefs events) (view.rolls-Cast to base) (every_made-View (HasKnownRef events) (View-F.Cast to base) (View-F.Cast to (base, refs)) refl tt)

abbrev pairs : (events : History) (layers : List View) → AllByRecursion (HasKnownRefs events) layers → List ((z : View) × HasKnownRefs events z)
pairs events [] all = []
pairs events (l ∷ ls) all = (l, all.0) ∷ pairs events ls all.1

pairs-are : (events : History) (layers : List View) (all : AllByRecursion (HasKnownRefs events) layers) → map (λ (p : (z : View) × HasKnownRefs events z). p.0) (pairs events layers all) ≡ layers
pairs-are events [] all = refl
pairs-are events (l ∷ ls) all = ap (λ vs. l ∷ vs) (pairs-are events ls all.1)

pub known_stack : (events : History) (layers : List View) (t : DomainAndMaps) → AllByRecursion (HasKnownRefs events) layers → HasKnownRefs events (view.Stack layers t)
known_stack events layers t all =
    subst (HasKnownRefs events) (view.rolls-Stack layers t)
    (every_made-View (HasKnownRef events) (View-F.Stack layers t) (View-F.Stack (pairs events layers all) t) (ap (λ vs. View-F.Stack vs t) (pairs-are events layers all)) tt)

-- the array of a leaf
pub leaf_known : (events : History) (array : Reference) (t : DomainAndMaps) → HasKnownRefs events (view.Leaf array t) → IsKnownRef events array
leaf_known events array t refs = subst (HasKnownRef events) (view.outs-Leaf array t) (every_here-View (HasKnownRef events) (view.Leaf array t) refs)
