-- How deep the nodes of a tree nest, by its form.
use Rattle.std.proofs.Common.{◌≡◌, ◌≤◌, ◌+◌, ◌∙◌, ℕ, suc, List, [], ◌∷◌, ◌++◌, map, Option, sym, ap, arith}
use Rattle.cells.specs.declared.dtype.Dtype.{Dtype}
use Rattle.index_transform.specs.Transforms.{DomainAndMaps}
use Rattle.spec_open.specs.Conditions.{greatest, nesting_step, nesting}
use Rattle.spec_open.specs.declared.tree.Tree.{Tree, fold-roll-Tree}
use Rattle.spec_open.specs.declared.tree.Tree.TheOpen.{Tree-F}
use Rattle.spec_open.specs.declared.tree.Tree.TheVariants as tree

pub nesting-leaf : (leaf : ℕ) (t : Option DomainAndMaps) (at : List ℕ) → nesting (tree.Leaf leaf t at) ≡ 0
nesting-leaf leaf t at = ap nesting (sym (tree.rolls-Leaf leaf t at)) ∙ fold-roll-Tree ℕ nesting_step (Tree-F.Leaf leaf t at)

pub nesting-cast : (to : Dtype) (base : Tree) (t : Option DomainAndMaps) (at : List ℕ) → nesting (tree.Cast to base t at) ≡ suc (nesting base)
nesting-cast to base t at = ap nesting (sym (tree.rolls-Cast to base t at)) ∙ fold-roll-Tree ℕ nesting_step (Tree-F.Cast to base t at)

pub nesting-stack : (layers : List Tree) (dtype : Option Dtype) (t : Option DomainAndMaps) (at : List ℕ) → nesting (tree.Stack layers dtype t at) ≡ suc (greatest (map nesting layers))
nesting-stack layers dtype t at = ap nesting (sym (tree.rolls-Stack layers dtype t at)) ∙ fold-roll-Tree ℕ nesting_step (Tree-F.Stack layers dtype t at)

-- one layer more, as deep as the others at most
pub one_nested : (room : ℕ) (ts : List Tree) (t : Tree) → greatest (map nesting ts) ≤ room → nesting t ≤ room → greatest (map nesting (ts ++ t ∷ [])) ≤ room
one_nested room [] t all one = omega (arith, one)
one_nested room (u ∷ us) t all one = let rest = one_nested room us t (omega (arith, all)) one in omega (arith, all, rest)
