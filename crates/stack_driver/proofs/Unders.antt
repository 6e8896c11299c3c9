-- The same view under another own transform, by its form.
use Rattle.std.proofs.Common.{◌≡◌, ◌∙◌, List, [], ◌∷◌, map, refl, sym, ap, subst}
use Rattle.cast_driver.specs.declared.Dtype.{Dtype}
use Rattle.transform_composition.specs.Transforms.{DomainAndMaps}
use Rattle.stack_driver.specs.References.{Reference}
use Rattle.stack_driver.specs.Changes.{under_step, under}
use Rattle.stack_driver.specs.declared.view.View.{View, ind-View, roll-View, map-View, fold-View, fold-roll-View}
use Rattle.stack_driver.specs.declared.view.View.TheOpen.{View-F}
use Rattle.stack_driver.specs.declared.view.View.TheVariants as view

abbrev Both : Type 0
Both = View × View

abbrev pair_of : DomainAndMaps → View → Both
pair_of t = fold-View Both (under_step t)

abbrev Keeps : DomainAndMaps → View → Type 0
Keeps t v = (pair_of t v).0 ≡ v

same_layers : (t : DomainAndMaps) (ys : List ((z : View) × Keeps t z)) → map (λ (p : Both). p.0) (map (pair_of t) (map (λ y. y.0) ys)) ≡ map (λ y. y.0) ys
same_layers t [] = refl
same_layers t (y ∷ ys) = ap (λ v. v ∷ map (λ (p : Both). p.0) (map (pair_of t) (map (λ y. y.0) ys))) y.1 ∙ ap (λ vs. y.0 ∷ vs) (same_layers t ys)

keeps_step : (t : DomainAndMaps) (x : View-F View) (y : View-F ((z : View) × Keeps t z)) → map-View ((z : View) × Keeps t z) View (λ e. e.0) y ≡ x → Keeps t (roll-View x)
keeps_step t x (View-F.Leaf array u) e =
    subst (λ z. Keeps t (roll-View z)) e (ap (λ (p : Both). p.0) (fold-roll-View Both (under_step t) (View-F.Leaf array u)) ∙ sym (view.rolls-Leaf array u))
keeps_step t x (View-F.Cast to p) e =
    subst (λ z. Keeps t (roll-View z)) e
    (ap (λ (p : Both). p.0) (fold-roll-View Both (under_step t) (View-F.Cast to p.0)) ∙ ap (view.Cast to) p.1 ∙ sym (view.rolls-Cast to p.0))
keeps_step t x (View-F.Stack ys u) e =
    subst (λ z. Keeps t (roll-View z)) e
    (ap (λ (p : Both). p.0) (fold-roll-View Both (under_step t) (View-F.Stack (map (λ y. y.0) ys) u)) ∙ ap (λ vs. view.Stack vs u) (same_layers t ys) ∙ sym (view.rolls-Stack (map (λ y. y.0) ys) u))

-- the first of the two is the view itself
keeps : (t : DomainAndMaps) (v : View) → Keeps t v
keeps t v = ind-View (Keeps t) (keeps_step t) v

all_keep : (t : DomainAndMaps) (layers : List View) → map (λ (p : Both). p.0) (map (pair_of t) layers) ≡ layers
all_keep t [] = refl
all_keep t (l ∷ ls) = ap (λ v. v ∷ map (λ (p : Both). p.0) (map (pair_of t) ls)) (keeps t l) ∙ ap (λ vs. l ∷ vs) (all_keep t ls)

pub under-Leaf : (t : DomainAndMaps) (array : Reference) (u : DomainAndMaps) → under t (view.Leaf array u) ≡ view.Leaf array t
under-Leaf t array u = ap (under t) (sym (view.rolls-Leaf array u)) ∙ ap (λ (p : Both). p.1) (fold-roll-View Both (under_step t) (View-F.Leaf array u))

pub under-Cast : (t : DomainAndMaps) (to : Dtype) (base : View) → under t (view.Cast to base) ≡ view.Cast to (under t base)
under-Cast t to base = ap (under t) (sym (view.rolls-Cast to base)) ∙ ap (λ (p : Both). p.1) (fold-roll-View Both (under_step t) (View-F.Cast to base))

pub under-Stack : (t : DomainAndMaps) (layers : List View) (u : DomainAndMaps) → under t (view.Stack layers u) ≡ view.Stack layers t
under-Stack t layers u =
    ap (under t) (sym (view.rolls-Stack layers u)) ∙ ap (λ (p : Both). p.1) (fold-roll-View Both (under_step t) (View-F.Stack layers u))
    ∙ ap (λ vs. view.Stack vs t) (all_keep t layers)
