-- Where a cell of a view lies, by the form of the view.
use Rattle.std.proofs.Common.{◌≡◌, ◌<◌, ◌∙◌, ℕ, ℤ, false, List, [], ◌∷◌, length, map, get_or, Some, Result, Err, refl, sym, ap}
use Rattle.std.specs.Prelude.{slice_index_or}
use Rattle.cast_driver.specs.declared.Dtype.{Dtype}
use Rattle.cast_driver.proofs.Laws.{else_from}
use Rattle.transform_composition.specs.Bounds.{Bounds}
use Rattle.transform_composition.specs.Transforms.{DomainAndMaps}
use Rattle.transform_composition.specs.Values.{value_at}
use Rattle.stack_driver.specs.References.{Reference}
use Rattle.stack_driver.specs.Targets.{Target, in_shape, has_index}
use Rattle.stack_driver.specs.Views.{Look, look_of, target_of, leaf_target, last_target}
use Rattle.stack_driver.specs.Conditions.{HasKind, IsView, IsLast}
use Rattle.stack_driver.specs.declared.view.View.{View}
use Rattle.stack_driver.specs.declared.view.View.TheVariants as view
use Rattle.stack_driver.specs.declared.error.TargetError.{TargetError}
use Rattle.stack_driver.specs.declared.error.TargetError.TheVariants.{Uncovered}
use Rattle.stack_driver.proofs.Looks.{look-Leaf, look-Cast, look-Stack}
use Rattle.stack_driver.proofs.Layers.{stack_node, layer_at, first_dtype}

-- no layer of some that lack an index vector
pub none_covers : (x : List ℤ) → ((dims : List Bounds) → has_index dims x ≡ false) → (ls : List Look) (found : Result Target TargetError) → last_target ls x found ≡ found
none_covers x none [] found = refl
none_covers x none (l ∷ ls) found = ap (λ f. last_target ls x f) (else_from (has_index l.dims x) (l.target x) found (none l.dims)) ∙ none_covers x none ls found

pub on-Leaf : (v : View) (array : Reference) (t : DomainAndMaps) (x : List ℤ) → v ≡ view.Leaf array t → target_of v x ≡ leaf_target array (in_shape 0 (value_at t x) array.shape)
on-Leaf v array t x is = ap (λ w. target_of w x) is ∙ ap (λ (l : Look). l.target x) (look-Leaf array t)

pub on-Stack : (v : View) (layers : List View) (t : DomainAndMaps) (x : List ℤ) → v ≡ view.Stack layers t → target_of v x ≡ last_target (map look_of layers) (value_at t x) (Err Uncovered)
on-Stack v layers t x is = ap (λ w. target_of w x) is ∙ ap (λ (l : Look). l.target x) (look-Stack layers t)

-- the domains
pub dims-Leaf : (v : View) (array : Reference) (t : DomainAndMaps) → v ≡ view.Leaf array t → (look_of v).dims ≡ t.domain.dims
dims-Leaf v array t is = ap (λ w. (look_of w).dims) is ∙ ap (λ (l : Look). l.dims) (look-Leaf array t)

pub dims-Cast : (v : View) (to : Dtype) (base : View) → v ≡ view.Cast to base → (look_of v).dims ≡ (look_of base).dims
dims-Cast v to base is = ap (λ w. (look_of w).dims) is ∙ ap (λ (l : Look). l.dims) (look-Cast to base)

pub dims-Stack : (v : View) (layers : List View) (t : DomainAndMaps) → v ≡ view.Stack layers t → (look_of v).dims ≡ t.domain.dims
dims-Stack v layers t is = ap (λ w. (look_of w).dims) is ∙ ap (λ (l : Look). l.dims) (look-Stack layers t)

-- each layer has the stack's dtype
pub layer_dtype : (layers : List View) (t : DomainAndMaps) (k : ℕ) (d : View) → IsView (view.Stack layers t) → k < length layers → (look_of (get_or layers k d)).dtype ≡ (look_of (view.Stack layers t)).dtype
layer_dtype layers t k d h b =
    let node = stack_node layers t h in
    let kind = HasKind node.dtype (length t.maps) in
    (layer_at kind layers k d b node.alike).dtype_is ∙ sym (layer_at kind layers 0 d node.some node.alike).dtype_is ∙ sym (first_dtype layers t d node.some)

-- a stack's target is that of the last layer with the transform's value
pub on-layer : (v : View) (layers : List View) (t : DomainAndMaps) (x inner : List ℤ) (k : ℕ) (d : View) → v ≡ view.Stack layers t → inner ≡ value_at t x → IsLast layers inner (Some k)
    → target_of v x ≡ (look_of (slice_index_or layers k d)).target inner
on-layer v layers t x inner k d is same last = on-Stack v layers t x is ∙ ap (λ y. last_target (map look_of layers) y (Err Uncovered)) (sym same) ∙ last.2 d (Err Uncovered)
