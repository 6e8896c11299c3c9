-- A view from outside, by its form.
use Rattle.std.proofs.Common.{◌≡◌, List, map, sym, ap, subst, ◌∙◌}
use Rattle.cast_driver.specs.declared.Dtype.{Dtype}
use Rattle.transform_composition.specs.Transforms.{DomainAndMaps}
use Rattle.stack_driver.specs.References.{Reference}
use Rattle.stack_driver.specs.declared.view.View.{View, ind-View, roll-View, map-View, fold-roll-View}
use Rattle.stack_driver.specs.declared.view.View.TheOpen.{View-F}
use Rattle.stack_driver.specs.declared.view.View.TheVariants as view
use Rattle.stack_driver.specs.Views.{Look, look_of, look_step, targets_in, targets_of, own_transform, own_transform_step}

pub look-Leaf : (array : Reference) (t : DomainAndMaps) → look_of (view.Leaf array t) ≡ look_step (View-F.Leaf array t)
look-Leaf array t = ap look_of (sym (view.rolls-Leaf array t)) ∙ fold-roll-View Look look_step (View-F.Leaf array t)

pub look-Cast : (to : Dtype) (base : View) → look_of (view.Cast to base) ≡ look_step (View-F.Cast to (look_of base))
look-Cast to base = ap look_of (sym (view.rolls-Cast to base)) ∙ fold-roll-View Look look_step (View-F.Cast to base)

pub look-Stack : (layers : List View) (t : DomainAndMaps) → look_of (view.Stack layers t) ≡ look_step (View-F.Stack (map look_of layers) t)
look-Stack layers t = ap look_of (sym (view.rolls-Stack layers t)) ∙ fold-roll-View Look look_step (View-F.Stack layers t)

pub own-Leaf : (array : Reference) (t : DomainAndMaps) → own_transform (view.Leaf array t) ≡ t
own-Leaf array t = ap own_transform (sym (view.rolls-Leaf array t)) ∙ fold-roll-View DomainAndMaps own_transform_step (View-F.Leaf array t)

pub own-Cast : (to : Dtype) (base : View) → own_transform (view.Cast to base) ≡ own_transform base
own-Cast to base = ap own_transform (sym (view.rolls-Cast to base)) ∙ fold-roll-View DomainAndMaps own_transform_step (View-F.Cast to base)

pub own-Stack : (layers : List View) (t : DomainAndMaps) → own_transform (view.Stack layers t) ≡ t
own-Stack layers t = ap own_transform (sym (view.rolls-Stack layers t)) ∙ fold-roll-View DomainAndMaps own_transform_step (View-F.Stack layers t)

-- the targets of a view whose look is known
pub targets_by : (v : View) (l : Look) → look_of v ≡ l → targets_of v ≡ targets_in l
unfolding targets_of
targets_by v l e = ap targets_in e

abbrev Shows : View → Type 0
Shows v = (own_transform v).domain.dims ≡ (look_of v).dims

shows-Leaf : (array : Reference) (t : DomainAndMaps) → Shows (view.Leaf array t)
shows-Leaf array t = ap (λ (u : DomainAndMaps). u.domain.dims) (own-Leaf array t) ∙ sym (ap (λ (l : Look). l.dims) (look-Leaf array t))

shows-Cast : (to : Dtype) (base : View) → Shows base → Shows (view.Cast to base)
shows-Cast to base below = ap (λ (u : DomainAndMaps). u.domain.dims) (own-Cast to base) ∙ below ∙ sym (ap (λ (l : Look). l.dims) (look-Cast to base))

shows-Stack : (layers : List View) (t : DomainAndMaps) → Shows (view.Stack layers t)
shows-Stack layers t = ap (λ (u : DomainAndMaps). u.domain.dims) (own-Stack layers t) ∙ sym (ap (λ (l : Look). l.dims) (look-Stack layers t))

shows_step : (x : View-F View) (y : View-F ((z : View) × Shows z)) → map-View ((z : View) × Shows z) View (λ e. e.0) y ≡ x → Shows (roll-View x)
shows_step x (View-F.Leaf array u) e = subst (λ z. Shows (roll-View z)) e (subst Shows (sym (view.rolls-Leaf array u)) (shows-Leaf array u))
shows_step x (View-F.Cast to p) e = subst (λ z. Shows (roll-View z)) e (subst Shows (sym (view.rolls-Cast to p.0)) (shows-Cast to p.0 p.1))
shows_step x (View-F.Stack ys u) e =
    subst (λ z. Shows (roll-View z)) e (subst Shows (sym (view.rolls-Stack (map (λ y. y.0) ys) u)) (shows-Stack (map (λ y. y.0) ys) u))

-- a view's domain is that of its own transform
pub own_dims : (v : View) → (own_transform v).domain.dims ≡ (look_of v).dims
own_dims v = ind-View Shows shows_step v
