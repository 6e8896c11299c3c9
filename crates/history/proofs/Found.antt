-- A cell of a view has a target, or lies nowhere; memory is never wanting for that.
use Rattle.std.proofs.Common.{◌≡◌, ◌≢◌, ℕ, ℤ, List, [], ◌∷◌, map, Bool, true, false, cond, Result, Ok, Err, sym, ap, subst, ◌∙◌}
use Rattle.std.specs.List.{AllByRecursion}
use Rattle.cells.specs.declared.dtype.Dtype.{Dtype}
use Rattle.stack_driver.specs.Cells.{cells_of}
use Rattle.stack_driver.specs.Transforms.{DomainAndMaps}
use Rattle.stack_driver.specs.Values.{value_at}
use Rattle.stack_driver.proofs.Laws.{look-Leaf, look-Cast, look-Stack}
use Rattle.stack_driver.specs.References.{Reference}
use Rattle.stack_driver.specs.Targets.{Target, in_shape, has_index}
use Rattle.stack_driver.specs.Views.{Look, look_of, leaf_target, cast_target, last_target, target_of, targets_of}
use Rattle.stack_driver.specs.declared.error.TargetError.{TargetError}
use Rattle.stack_driver.specs.declared.error.TargetError.TheVariants.{Uncovered, Memory}
use Rattle.stack_driver.specs.declared.view.View.{View, ind-View, roll-View, map-View}
use Rattle.stack_driver.specs.declared.view.View.TheOpen.{View-F}
use Rattle.stack_driver.specs.declared.view.View.TheVariants as view

abbrev pub IsTold : Result Target TargetError → Type 0
IsTold r = r ≢ Err Memory

Tells : View → Type 0
Tells v = (index : List ℤ) → IsTold (target_of v index)

tells_leaf : (array : Reference) (t : DomainAndMaps) → Tells (view.Leaf array t)
unfolding Tells
tells_leaf array t index is = told (in_shape 0 (value_at t index) array.shape) (sym (ap (λ (l : Look). l.target index) (look-Leaf array t)) ∙ is)
  where
    told : (r : Result (List ℕ) ℕ) → IsTold (leaf_target array r)
    told (Ok x) e = absurd (cc)
    told (Err d) e = absurd (cc)

tells_cast : (to : Dtype) (base : View) → Tells base → Tells (view.Cast to base)
unfolding Tells
tells_cast to base rest index is = told (target_of base index) (rest index) (sym (ap (λ (l : Look). l.target index) (look-Cast to base)) ∙ is)
  where
    told : (r : Result Target TargetError) → IsTold r → IsTold (cast_target (record { from = (look_of base).dtype; to = to }) r)
    told (Ok t) never e = absurd (cc)
    told (Err cause) never e = never e

tells_layers : (ys : List ((z : View) × Tells z)) (x : List ℤ) (found : Result Target TargetError) → IsTold found → IsTold (last_target (map look_of (map (λ (y : (z : View) × Tells z). y.0) ys)) x found)
unfolding Tells
tells_layers [] x found fine = fine
tells_layers (y ∷ ys) x found fine = tells_layers ys x (cond (has_index (look_of y.0).dims x) ((look_of y.0).target x) found) (chosen (has_index (look_of y.0).dims x))
  where
    chosen : (b : Bool) → IsTold (cond b ((look_of y.0).target x) found)
    chosen true = y.1 x
    chosen false = fine

tells_step : (x : View-F View) (y : View-F ((z : View) × Tells z)) → map-View ((z : View) × Tells z) View (λ e. e.0) y ≡ x → Tells (roll-View x)
unfolding Tells
tells_step x (View-F.Leaf array u) e = subst (λ z. Tells (roll-View z)) e (subst Tells (sym (view.rolls-Leaf array u)) (tells_leaf array u))
tells_step x (View-F.Cast to p) e = subst (λ z. Tells (roll-View z)) e (subst Tells (sym (view.rolls-Cast to p.0)) (tells_cast to p.0 p.1))
tells_step x (View-F.Stack ys u) e =
    subst (λ z. Tells (roll-View z)) e
    (subst Tells (sym (view.rolls-Stack (map (λ (y : (z : View) × Tells z). y.0) ys) u))
    (λ index is. tells_layers ys (value_at u index) (Err Uncovered) (λ uncovered. absurd (cc)) (sym (ap (λ (l : Look). l.target index) (look-Stack (map (λ (y : (z : View) × Tells z). y.0) ys) u)) ∙ is)))

tells : (v : View) → Tells v
tells v = ind-View Tells tells_step v

told_all : (v : View) (cells : List (List ℤ)) → AllByRecursion IsTold (map (target_of v) cells)
unfolding Tells
told_all v [] = tt
told_all v (x ∷ xs) = (tells v x, told_all v xs)

-- each cell of a view has a target or lies nowhere
pub all_told : (v : View) → AllByRecursion IsTold (targets_of v)
unfolding targets_of
all_told v = told_all v (cells_of (look_of v).dims)
