-- Where a cell lands, by the form of the view.
use Rattle.std.proofs.Common.{◌≡◌, ◌<◌, ◌≤◌, ◌∙◌, ◌+◌, ℕ, ℤ, true, List, length, map, take, get_or, Some, Result, Ok, Err, sym, ap, subst, arith}
use Rattle.std.proofs.lemmas.List.{length-map}
use Rattle.cells.specs.declared.dtype.Dtype.{Dtype}
use Rattle.index_transform.specs.Transforms.{DomainAndMaps}
use Rattle.index_transform.specs.Values.{value_at}
use Rattle.stack_driver.specs.References.{Reference}
use Rattle.stack_driver.specs.Targets.{in_shape, has_index}
use Rattle.stack_driver.specs.Views.{Look, look_of}
use Rattle.stack_driver.specs.declared.view.View.{View}
use Rattle.stack_driver.specs.declared.view.View.TheVariants as view
use Rattle.stack_driver.specs.declared.error.TargetError.{TargetError}
use Rattle.stack_driver.specs.declared.error.TargetError.TheVariants.{Uncovered}
use Rattle.stack_driver.proofs.Laws.{look-Cast}
use Rattle.stack_targets.specs.Landings.{Landing, Ground, ground_of, first_landing, behind_leaves, last_landing, all_leaves, leaves_of, landing_of, with_cast, IsLastLayer}
use Rattle.stack_targets.proofs.Grounds.{ground-Leaf, ground-Cast, ground-Stack}
use Rattle.stack_targets.proofs.Layers.{leaves-within}
use Rattle.stack_targets.proofs.Meeting.{Meets, agrees}

pub on-Leaf : (v : View) (array : Reference) (t : DomainAndMaps) (x : List ℤ) → v ≡ view.Leaf array t → landing_of v x ≡ first_landing (in_shape 0 (value_at t x) array.shape)
on-Leaf v array t x is = ap (λ w. landing_of w x) is ∙ ap (λ (g : Ground). g.landing x) (ground-Leaf array t)

pub on-Stack : (v : View) (layers : List View) (t : DomainAndMaps) (x : List ℤ) → v ≡ view.Stack layers t → landing_of v x ≡ last_landing 0 (map ground_of layers) (value_at t x) (Err Uncovered)
on-Stack v layers t x is = ap (λ w. landing_of w x) is ∙ ap (λ (g : Ground). g.landing x) (ground-Stack layers t)

pub dims-Cast : (v : View) (to : Dtype) (base : View) → v ≡ view.Cast to base → (look_of v).dims ≡ (look_of base).dims
dims-Cast v to base is = ap (λ w. (look_of w).dims) is ∙ ap (λ (l : Look). l.dims) (look-Cast to base)

pub few-Cast : (v : View) (to : Dtype) (base : View) → v ≡ view.Cast to base → length (leaves_of v) < 4294967295 → length (leaves_of base) < 4294967295
few-Cast v to base is few =
    let same : length (leaves_of v) ≡ length (leaves_of base) = ap (λ w. length (leaves_of w)) is ∙ ap (λ (g : Ground). length g.leaves) (ground-Cast to base) ∙ length-map (leaves_of base) (with_cast (record { from = (ground_of base).dtype; to = to })) in
    omega (arith, few, same)

-- the leaf in which a cell lands is one of the view's
pub leaf_below : (v : View) (x : List ℤ) (l : Landing) → landing_of v x ≡ Ok l → l.leaf < length (leaves_of v)
leaf_below v x l is = (subst (Meets (leaves_of v) ((look_of v).target x)) is ((agrees v).meets x)).0

-- the layer that was found, and where the cell lands by it
pub record Found (v : View) (layers : List View) (x y : List ℤ) (k : ℕ) (d : View) : Type 0 where
  pub at : d ≡ get_or layers k d
  pub inside : k < length layers
  pub has : has_index (look_of d).dims y ≡ true
  pub few : length (all_leaves (map ground_of (take k layers))) + length (leaves_of d) ≤ length (leaves_of v)
  pub lands : landing_of v x ≡ behind_leaves (length (all_leaves (map ground_of (take k layers)))) (landing_of d y)

pub found : (v : View) (layers items : List View) (t : DomainAndMaps) (x y : List ℤ) (k : ℕ) (d : View) → v ≡ view.Stack layers t → items ≡ layers → d ≡ get_or items k d → y ≡ value_at t x → IsLastLayer items (value_at t x) (Some k) → Found v layers x y k d
found v layers items t x y k d is same at value last =
    let there : IsLastLayer layers (value_at t x) (Some k) = subst (λ ls. IsLastLayer ls (value_at t x) (Some k)) same last in
    let place : d ≡ get_or layers k d = at ∙ ap (λ ls. get_or ls k d) same in
    let all : length (leaves_of v) ≡ length (all_leaves (map ground_of layers)) = ap (λ w. length (leaves_of w)) is ∙ ap (λ (g : Ground). length g.leaves) (ground-Stack layers t) in
    let within = leaves-within layers k d there.0 in
    let mine : length (leaves_of d) ≡ length (leaves_of (get_or layers k d)) = ap (λ w. length (leaves_of w)) place in
    record {
      at = place;
      inside = there.0;
      has = ap (λ w. has_index (look_of w).dims y) place ∙ ap (λ z. has_index (look_of (get_or layers k d)).dims z) value ∙ there.1 d;
      few = omega (arith, all, within, mine);
      lands = on-Stack v layers t x is ∙ there.2 d (Err Uncovered) ∙ ap (λ w. behind_leaves (length (all_leaves (map ground_of (take k layers)))) (landing_of w (value_at t x))) (sym place)
          ∙ ap (λ z. behind_leaves (length (all_leaves (map ground_of (take k layers)))) (landing_of d z)) (sym value);
    }

-- a landing in the layer is one in the stack
pub lands_there : (n : ℕ) (r s : Result Landing TargetError) (l : Landing) → r ≡ behind_leaves n s → s ≡ Ok l → r ≡ Ok (record { leaf = n + l.leaf; index = l.index })
lands_there n r s l is landed = is ∙ ap (behind_leaves n) landed
