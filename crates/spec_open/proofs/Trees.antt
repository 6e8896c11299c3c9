-- What the nodes of a tree keep, taken apart and put together.
use Rattle.std.proofs.Common.{◌≡◌, ◌<◌, ◌≤◌, ◌∙◌, ℕ, zero, suc, List, [], ◌∷◌, length, map, get_or, Option, refl, ap, subst, arith}
use Rattle.std.specs.List.{AllByRecursion}
use denote.Param.Weighed.{at_most, most}
use Rattle.cells.specs.declared.dtype.Dtype.{Dtype}
use Rattle.index_transform.specs.Transforms.{DomainAndMaps}
use Rattle.spec_open.specs.Conditions.{IsNode, IsTree}
use Rattle.spec_open.specs.declared.tree.Tree.{Tree, size_is-Tree, size-Tree, map-Tree, every_here-Tree, every_held-Tree, every_made-Tree}
use Rattle.spec_open.specs.declared.tree.Tree.TheOpen.{Tree-F}
use Rattle.spec_open.specs.declared.tree.Tree.TheVariants as tree

abbrev Seen : Type 0
Seen = Option DomainAndMaps

pub leaf_tree : (n leaf : ℕ) (t : Seen) (at : List ℕ) → leaf < n → IsTree n (tree.Leaf leaf t at)
leaf_tree n leaf t at less =
    subst (IsTree n) (tree.rolls-Leaf leaf t at) (every_made-Tree (IsNode n) (Tree-F.Leaf leaf t at) (Tree-F.Leaf leaf t at) refl less)

pub cast_tree : (n : ℕ) (to : Dtype) (base : Tree) (t : Seen) (at : List ℕ) → IsTree n base → IsTree n (tree.Cast to base t at)
cast_tree n to base t at h =
    subst (IsTree n) (tree.rolls-Cast to base t at) (every_made-Tree (IsNode n) (Tree-F.Cast to base t at) (Tree-F.Cast to (base, h) t at) refl tt)

abbrev pairs : (n : ℕ) (layers : List Tree) → AllByRecursion (IsTree n) layers → List ((z : Tree) × IsTree n z)
pairs n [] all = []
pairs n (l ∷ ls) all = (l, all.0) ∷ pairs n ls all.1

pairs-are : (n : ℕ) (layers : List Tree) (all : AllByRecursion (IsTree n) layers) → map (λ (p : (z : Tree) × IsTree n z). p.0) (pairs n layers all) ≡ layers
pairs-are n [] all = refl
pairs-are n (l ∷ ls) all = ap (λ ts. l ∷ ts) (pairs-are n ls all.1)

pub stack_tree : (n : ℕ) (layers : List Tree) (dtype : Option Dtype) (t : Seen) (at : List ℕ) → AllByRecursion (IsTree n) layers
    → 0 < length layers → length layers ≤ 256 → IsTree n (tree.Stack layers dtype t at)
stack_tree n layers dtype t at all some few =
    subst (IsTree n) (tree.rolls-Stack layers dtype t at)
    (every_made-Tree (IsNode n) (Tree-F.Stack layers dtype t at) (Tree-F.Stack (pairs n layers all) dtype t at)
    (ap (λ ts. Tree-F.Stack ts dtype t at) (pairs-are n layers all)) (some, few))

pub leaf_node : (n leaf : ℕ) (t : Seen) (at : List ℕ) → IsTree n (tree.Leaf leaf t at) → leaf < n
leaf_node n leaf t at h = subst (IsNode n) (tree.outs-Leaf leaf t at) (every_here-Tree (IsNode n) (tree.Leaf leaf t at) h)

pub stack_node : (n : ℕ) (layers : List Tree) (dtype : Option Dtype) (t : Seen) (at : List ℕ) → IsTree n (tree.Stack layers dtype t at)
    → (0 < length layers) × (length layers ≤ 256)
stack_node n layers dtype t at h = subst (IsNode n) (tree.outs-Stack layers dtype t at) (every_here-Tree (IsNode n) (tree.Stack layers dtype t at) h)

module _ (n : ℕ) where
  all_held : (ys : List ((z : Tree) × IsTree n z)) → AllByRecursion (IsTree n) (map (λ y. y.0) ys)
  all_held [] = tt
  all_held (y ∷ ys) = (y.1, all_held ys)

  held : (layers : List Tree) (dtype : Option Dtype) (t : Seen) (at : List ℕ) (y : Tree-F ((z : Tree) × IsTree n z))
      → map-Tree ((z : Tree) × IsTree n z) Tree (λ z. z.0) y ≡ Tree-F.Stack layers dtype t at → AllByRecursion (IsTree n) layers
  held layers dtype t at (Tree-F.Leaf leaf u a) e = absurd (cc)
  held layers dtype t at (Tree-F.Cast to base u a) e = absurd (cc)
  held layers dtype t at (Tree-F.Stack ys d u a) e = let same : map (λ z. z.0) ys ≡ layers = cc in subst (AllByRecursion (IsTree n)) same (all_held ys)

  pub every_layer : (layers : List Tree) (dtype : Option Dtype) (t : Seen) (at : List ℕ) → IsTree n (tree.Stack layers dtype t at) → AllByRecursion (IsTree n) layers
  every_layer layers dtype t at h = let p = every_held-Tree (IsNode n) (tree.Stack layers dtype t at) h in held layers dtype t at p.0 (p.1 ∙ tree.outs-Stack layers dtype t at)

  held_base : (to : Dtype) (base : Tree) (t : Seen) (at : List ℕ) (y : Tree-F ((z : Tree) × IsTree n z))
      → map-Tree ((z : Tree) × IsTree n z) Tree (λ z. z.0) y ≡ Tree-F.Cast to base t at → IsTree n base
  held_base to base t at (Tree-F.Leaf leaf u a) e = absurd (cc)
  held_base to base t at (Tree-F.Cast from z u a) e = let same : z.0 ≡ base = cc in subst (IsTree n) same z.1
  held_base to base t at (Tree-F.Stack ys d u a) e = absurd (cc)

  pub every_base : (to : Dtype) (base : Tree) (t : Seen) (at : List ℕ) → IsTree n (tree.Cast to base t at) → IsTree n base
  every_base to base t at h = let p = every_held-Tree (IsNode n) (tree.Cast to base t at) h in held_base to base t at p.0 (p.1 ∙ tree.outs-Cast to base t at)

-- what holds of each layer holds of the layer at a place
pub layer_at : (P : Tree → Type 0) (layers : List Tree) (k : ℕ) (d : Tree) → k < length layers → AllByRecursion P layers → P (get_or layers k d)
layer_at P [] k d h all = absurd (omega arith)
layer_at P (l ∷ ls) zero d h all = all.0
layer_at P (l ∷ ls) (suc k) d h all = layer_at P ls k d (omega (arith, h)) all.1

pub layer_smaller : (layers : List Tree) (dtype : Option Dtype) (t : Seen) (at : List ℕ) (k : ℕ) (d : Tree) → k < length layers
    → size-Tree (get_or layers k d) < size-Tree (tree.Stack layers dtype t at)
layer_smaller layers dtype t at k d h =
    let small = at_most size-Tree layers k d h in rw (size_is-Tree (tree.Stack layers dtype t at), tree.outs-Stack layers dtype t at) (omega arith)

pub base_smaller : (to : Dtype) (base : Tree) (t : Seen) (at : List ℕ) → size-Tree base < size-Tree (tree.Cast to base t at)
base_smaller to base t at = rw (size_is-Tree (tree.Cast to base t at), tree.outs-Cast to base t at) (omega arith)

pub layers_smaller : (layers : List Tree) (dtype : Option Dtype) (t : Seen) (at : List ℕ) → most size-Tree layers < size-Tree (tree.Stack layers dtype t at)
layers_smaller layers dtype t at = rw (size_is-Tree (tree.Stack layers dtype t at), tree.outs-Stack layers dtype t at) (omega arith)
