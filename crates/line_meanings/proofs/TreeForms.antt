-- The view of a Spec's tree, by its form, and what its nodes keep.
use Rattle.std.proofs.Common.{◌≡◌, ◌<◌, ◌∙◌, ℕ, List, [], ◌∷◌, map, Option, Result, sym, ap, subst}
use Rattle.std.specs.Prelude.{slice_index_or}
use Rattle.std.specs.List.{AllByRecursion}
use Rattle.cells.specs.declared.dtype.Dtype.{Dtype}
use Rattle.index_transform.specs.Transforms.{DomainAndMaps}
use Rattle.stack_driver.specs.Arrays.{whole_view}
use Rattle.stack_driver.specs.References.{Reference}
use Rattle.stack_driver.specs.declared.view.View.{View}
use Rattle.line_forms.specs.Built.{through, through_if, cast_if, all_built, stacked_if, no_array, built_step, built}
use Rattle.line_forms.specs.Conditions.{IsNode, IsTree}
use Rattle.line_forms.specs.declared.BuildError.{BuildError}
use Rattle.line_forms.specs.declared.Tree.{Tree, fold-roll-Tree, map-Tree, every_here-Tree, every_held-Tree}
use Rattle.line_forms.specs.declared.Tree.TheOpen.{Tree-F}
use Rattle.line_forms.specs.declared.Tree.TheVariants as tree

-- a leaf's view is that of its array through its transform
pub built-Leaf : (arrays : List Reference) (leaf : ℕ) (u : Option DomainAndMaps) (at : List ℕ) → built arrays (tree.Leaf leaf u at) ≡ through at u (whole_view (slice_index_or arrays leaf no_array))
built-Leaf arrays leaf u at = ap (built arrays) (sym (tree.rolls-Leaf leaf u at)) ∙ fold-roll-Tree (Result View BuildError) (built_step arrays) (Tree-F.Leaf leaf u at)

pub built-Cast : (arrays : List Reference) (to : Dtype) (base : Tree) (u : Option DomainAndMaps) (at : List ℕ) → built arrays (tree.Cast to base u at) ≡ through_if at u (cast_if to (built arrays base))
built-Cast arrays to base u at = ap (built arrays) (sym (tree.rolls-Cast to base u at)) ∙ fold-roll-Tree (Result View BuildError) (built_step arrays) (Tree-F.Cast to base u at)

pub built-Stack : (arrays : List Reference) (layers : List Tree) (dtype : Option Dtype) (u : Option DomainAndMaps) (at : List ℕ)
    → built arrays (tree.Stack layers dtype u at) ≡ through_if at u (stacked_if at dtype (all_built (map (built arrays) layers)))
built-Stack arrays layers dtype u at = ap (built arrays) (sym (tree.rolls-Stack layers dtype u at)) ∙ fold-roll-Tree (Result View BuildError) (built_step arrays) (Tree-F.Stack layers dtype u at)

-- a leaf of a tree is one of so many
pub leaf_node : (n leaf : ℕ) (u : Option DomainAndMaps) (at : List ℕ) → IsTree n (tree.Leaf leaf u at) → leaf < n
leaf_node n leaf u at h = subst (IsNode n) (tree.outs-Leaf leaf u at) (every_here-Tree (IsNode n) (tree.Leaf leaf u at) h)

-- what a tree keeps, the trees in it keep
module _ (n : ℕ) where
  all_held : (ys : List ((z : Tree) × IsTree n z)) → AllByRecursion (IsTree n) (map (λ y. y.0) ys)
  all_held [] = tt
  all_held (y ∷ ys) = (y.1, all_held ys)

  held : (layers : List Tree) (dtype : Option Dtype) (u : Option DomainAndMaps) (at : List ℕ) (y : Tree-F ((z : Tree) × IsTree n z)) → map-Tree ((z : Tree) × IsTree n z) Tree (λ z. z.0) y ≡ Tree-F.Stack layers dtype u at → AllByRecursion (IsTree n) layers
  held layers dtype u at (Tree-F.Leaf leaf v a) e = absurd (cc)
  held layers dtype u at (Tree-F.Cast to base v a) e = absurd (cc)
  held layers dtype u at (Tree-F.Stack ys d v a) e = let same : map (λ z. z.0) ys ≡ layers = cc in subst (AllByRecursion (IsTree n)) same (all_held ys)

  pub every_layer : (layers : List Tree) (dtype : Option Dtype) (u : Option DomainAndMaps) (at : List ℕ) → IsTree n (tree.Stack layers dtype u at) → AllByRecursion (IsTree n) layers
  every_layer layers dtype u at h = let p = every_held-Tree (IsNode n) (tree.Stack layers dtype u at) h in held layers dtype u at p.0 (p.1 ∙ tree.outs-Stack layers dtype u at)

  held_base : (to : Dtype) (base : Tree) (u : Option DomainAndMaps) (at : List ℕ) (y : Tree-F ((z : Tree) × IsTree n z)) → map-Tree ((z : Tree) × IsTree n z) Tree (λ z. z.0) y ≡ Tree-F.Cast to base u at → IsTree n base
  held_base to base u at (Tree-F.Leaf leaf v a) e = absurd (cc)
  held_base to base u at (Tree-F.Cast from z v a) e = let same : z.0 ≡ base = cc in subst (IsTree n) same z.1
  held_base to base u at (Tree-F.Stack ys d v a) e = absurd (cc)

  pub every_base : (to : Dtype) (base : Tree) (u : Option DomainAndMaps) (at : List ℕ) → IsTree n (tree.Cast to base u at) → IsTree n base
  every_base to base u at h = let p = every_held-Tree (IsNode n) (tree.Cast to base u at) h in held_base to base u at p.0 (p.1 ∙ tree.outs-Cast to base u at)
