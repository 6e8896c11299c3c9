-- A stack's layers: each is smaller, and keeps what holds at every node.
use Rattle.std.proofs.Common.{◌≡◌, ◌<◌, ℕ, List, [], ◌∷◌, length, map, get_or, ap, subst, ◌∙◌, arith, zero, suc}
use Rattle.std.specs.List.{AllByRecursion}
use Rattle.cast_driver.specs.declared.Dtype.{Dtype}
use Rattle.transform_composition.specs.Transforms.{DomainAndMaps}
use Rattle.stack_driver.specs.References.{Reference}
use denote.Param.Weighed.{at_most}
use Rattle.stack_driver.specs.declared.view.View.{View, size_is-View, size-View, map-View, every-View, every_here-View, every_held-View}
use Rattle.stack_driver.specs.declared.view.View.TheOpen.{View-F}
use Rattle.stack_driver.specs.declared.view.View.TheVariants as view
use Rattle.stack_driver.specs.Views.{Look, look_of}
use Rattle.stack_driver.specs.Conditions.{IsNode, IsView, AreLayers}
use Rattle.stack_driver.proofs.Looks.{look-Stack}

-- what a node keeps
pub leaf_node : (array : Reference) (t : DomainAndMaps) → IsView (view.Leaf array t) → length t.maps ≡ length array.shape
leaf_node array t h = subst IsNode (view.outs-Leaf array t) (every_here-View IsNode (view.Leaf array t) h)

pub stack_node : (layers : List View) (t : DomainAndMaps) → IsView (view.Stack layers t) → AreLayers layers (length t.maps)
stack_node layers t h = subst IsNode (view.outs-Stack layers t) (every_here-View IsNode (view.Stack layers t) h)

-- a list of looks begins with the look of the first layer
pub first_dtype : (layers : List View) (t : DomainAndMaps) (d : View) → 0 < length layers → (look_of (view.Stack layers t)).dtype ≡ (look_of (get_or layers 0 d)).dtype
first_dtype [] t d h = absurd (omega arith)
first_dtype (l ∷ ls) t d h = ap (λ (k : Look). k.dtype) (look-Stack (l ∷ ls) t)

module _ (Q : View-F View → Type 0) where
  all_held : (ys : List ((z : View) × every-View Q z)) → AllByRecursion (every-View Q) (map (λ y. y.0) ys)
  all_held [] = tt
  all_held (y ∷ ys) = (y.1, all_held ys)

  held : (layers : List View) (t : DomainAndMaps) (y : View-F ((z : View) × every-View Q z)) → map-View ((z : View) × every-View Q z) View (λ z. z.0) y ≡ View-F.Stack layers t
      → AllByRecursion (every-View Q) layers
  held layers t (View-F.Leaf array u) e = absurd (cc)
  held layers t (View-F.Cast to base) e = absurd (cc)
  held layers t (View-F.Stack ys u) e = let same : map (λ z. z.0) ys ≡ layers = cc in subst (AllByRecursion (every-View Q)) same (all_held ys)

  -- what holds at every node of a stack holds at every node of its layers, and of a cast's base
  pub every_layer : (layers : List View) (t : DomainAndMaps) → every-View Q (view.Stack layers t) → AllByRecursion (every-View Q) layers
  every_layer layers t h = let p = every_held-View Q (view.Stack layers t) h in held layers t p.0 (p.1 ∙ view.outs-Stack layers t)

  held_base : (to : Dtype) (base : View) (y : View-F ((z : View) × every-View Q z)) → map-View ((z : View) × every-View Q z) View (λ z. z.0) y ≡ View-F.Cast to base → every-View Q base
  held_base to base (View-F.Leaf array u) e = absurd (cc)
  held_base to base (View-F.Cast from z) e = let same : z.0 ≡ base = cc in subst (every-View Q) same z.1
  held_base to base (View-F.Stack ys u) e = absurd (cc)

  pub every_base : (to : Dtype) (base : View) → every-View Q (view.Cast to base) → every-View Q base
  every_base to base h = let p = every_held-View Q (view.Cast to base) h in held_base to base p.0 (p.1 ∙ view.outs-Cast to base)

-- what holds of each layer holds of the layer at a place
pub layer_at : (P : View → Type 0) (layers : List View) (k : ℕ) (d : View) → k < length layers → AllByRecursion P layers → P (get_or layers k d)
layer_at P [] k d h all = absurd (omega arith)
layer_at P (l ∷ ls) zero d h all = all.0
layer_at P (l ∷ ls) (suc k) d h all = layer_at P ls k d (omega (arith, h)) all.1

pub layer_view : (layers : List View) (t : DomainAndMaps) (k : ℕ) (d : View) → IsView (view.Stack layers t) → k < length layers → IsView (get_or layers k d)
layer_view layers t k d h b = layer_at IsView layers k d b (every_layer IsNode layers t h)

pub base_view : (to : Dtype) (base : View) → IsView (view.Cast to base) → IsView base
base_view to base h = every_base IsNode to base h

pub layer_smaller : (layers : List View) (t : DomainAndMaps) (k : ℕ) (d : View) → k < length layers → size-View (get_or layers k d) < size-View (view.Stack layers t)
layer_smaller layers t k d h = let small = at_most size-View layers k d h in rw (size_is-View (view.Stack layers t), view.outs-Stack layers t) (omega arith)

pub base_smaller : (to : Dtype) (base : View) → size-View base < size-View (view.Cast to base)
base_smaller to base = rw (size_is-View (view.Cast to base), view.outs-Cast to base) (omega arith)
