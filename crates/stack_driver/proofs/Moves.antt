-- The targets of a view under another own transform.
use Rattle.std.proofs.Common.{◌≡◌, ◌∙◌, ℤ, List, length, map, Err, sym, ap, subst}
use Rattle.cast_driver.specs.declared.Dtype.{Dtype}
use Rattle.transform_composition.specs.Bounds.{Bounds}
use Rattle.transform_composition.specs.Transforms.{DomainAndMaps}
use Rattle.transform_composition.specs.Values.{value_at}
use Rattle.transform_composition.specs.Agreeing.{Agrees, IsCovered}
use Rattle.stack_driver.specs.References.{Reference}
use Rattle.stack_driver.specs.Targets.{in_shape}
use Rattle.stack_driver.specs.Views.{Look, look_of, target_of, own_transform, leaf_target, cast_target, last_target}
use Rattle.stack_driver.specs.Changes.{under, HasTargetsOf}
use Rattle.stack_driver.specs.declared.view.View.{View, ind-View, roll-View, map-View}
use Rattle.stack_driver.specs.declared.view.View.TheOpen.{View-F}
use Rattle.stack_driver.specs.declared.view.View.TheVariants as view
use Rattle.stack_driver.specs.declared.error.TargetError.TheVariants.{Uncovered}
use Rattle.stack_driver.proofs.Looks.{look-Leaf, look-Cast, look-Stack, own-Leaf, own-Cast, own-Stack}
use Rattle.stack_driver.proofs.Unders.{under-Leaf, under-Cast, under-Stack}

-- another own transform changes the domain and the values, and nothing else
pub record Moves (t : DomainAndMaps) (v : View) : Type 0 where
  pub dims : (look_of (under t v)).dims ≡ t.domain.dims
  pub dtype : (look_of (under t v)).dtype ≡ (look_of v).dtype
  pub target : (x y : List ℤ) → value_at t x ≡ value_at (own_transform v) y → target_of (under t v) x ≡ target_of v y

moves-Leaf : (t : DomainAndMaps) (array : Reference) (u : DomainAndMaps) → Moves t (view.Leaf array u)
moves-Leaf t array u =
    let now : look_of (under t (view.Leaf array u)) ≡ _ = ap look_of (under-Leaf t array u) ∙ look-Leaf array t in
    let old = look-Leaf array u in
    record {
      dims = ap (λ (l : Look). l.dims) now;
      dtype = ap (λ (l : Look). l.dtype) now ∙ ap (λ (l : Look). l.dtype) (sym old);
      target = λ x y same. ap (λ (l : Look). l.target x) now
          ∙ ap (λ z. leaf_target array (in_shape 0 z array.shape)) (same ∙ ap (λ w. value_at w y) (own-Leaf array u))
          ∙ ap (λ (l : Look). l.target y) (sym old);
    }

moves-Cast : (t : DomainAndMaps) (to : Dtype) (base : View) → Moves t base → Moves t (view.Cast to base)
moves-Cast t to base m =
    let now : look_of (under t (view.Cast to base)) ≡ _ = ap look_of (under-Cast t to base) ∙ look-Cast to (under t base) in
    let old = look-Cast to base in
    record {
      dims = ap (λ (l : Look). l.dims) now ∙ m.dims;
      dtype = ap (λ (l : Look). l.dtype) now ∙ ap (λ (l : Look). l.dtype) (sym old);
      target = λ x y same. ap (λ (l : Look). l.target x) now
          ∙ ap (λ (d : Dtype). cast_target (record { from = d; to = to }) (target_of (under t base) x)) m.dtype
          ∙ ap (cast_target (record { from = (look_of base).dtype; to = to })) (m.target x y (same ∙ ap (λ w. value_at w y) (own-Cast to base)))
          ∙ ap (λ (l : Look). l.target y) (sym old);
    }

moves-Stack : (t : DomainAndMaps) (layers : List View) (u : DomainAndMaps) → Moves t (view.Stack layers u)
moves-Stack t layers u =
    let now : look_of (under t (view.Stack layers u)) ≡ _ = ap look_of (under-Stack t layers u) ∙ look-Stack layers t in
    let old = look-Stack layers u in
    record {
      dims = ap (λ (l : Look). l.dims) now;
      dtype = ap (λ (l : Look). l.dtype) now ∙ ap (λ (l : Look). l.dtype) (sym old);
      target = λ x y same. ap (λ (l : Look). l.target x) now
          ∙ ap (λ z. last_target (map look_of layers) z (Err Uncovered)) (same ∙ ap (λ w. value_at w y) (own-Stack layers u))
          ∙ ap (λ (l : Look). l.target y) (sym old);
    }

moves_step : (t : DomainAndMaps) (x : View-F View) (y : View-F ((z : View) × Moves t z)) → map-View ((z : View) × Moves t z) View (λ e. e.0) y ≡ x → Moves t (roll-View x)
moves_step t x (View-F.Leaf array u) e = subst (λ z. Moves t (roll-View z)) e (subst (Moves t) (sym (view.rolls-Leaf array u)) (moves-Leaf t array u))
moves_step t x (View-F.Cast to p) e = subst (λ z. Moves t (roll-View z)) e (subst (Moves t) (sym (view.rolls-Cast to p.0)) (moves-Cast t to p.0 p.1))
moves_step t x (View-F.Stack ys u) e =
    subst (λ z. Moves t (roll-View z)) e (subst (Moves t) (sym (view.rolls-Stack (map (λ y. y.0) ys) u)) (moves-Stack t (map (λ y. y.0) ys) u))

pub moves : (t : DomainAndMaps) (v : View) → Moves t v
moves t v = ind-View (Moves t) (moves_step t) v

-- a composition's value is the outer one's at the inner one's
pub composed_targets : (t : DomainAndMaps) (v : View) (inner : DomainAndMaps) → Agrees t (own_transform v) inner → HasTargetsOf (under t v) v inner
composed_targets t v inner agrees index rank covered =
    let m = moves t v in
    m.target index (value_at inner index)
    (agrees index (rank ∙ ap length m.dims) (subst (λ (ds : List Bounds). IsCovered ds (own_transform v).maps inner.maps index) m.dims covered))
