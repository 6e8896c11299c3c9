-- What a plan and each node of its tree keep.
use Rattle.std.specs.Prelude.{◌<◌, ◌≤◌, ℕ, suc, List, [], ◌∷◌, length, max}
use Rattle.std.specs.List.{AllByRecursion}
use Rattle.spec_forms.specs.Leaves.{IsSoundLeaf}
use Rattle.spec_open.specs.declared.plan.OpenPlan.{OpenPlan}
use Rattle.spec_open.specs.declared.tree.Tree.{Tree, every-Tree, fold-Tree}
use Rattle.spec_open.specs.declared.tree.Tree.TheOpen.{Tree-F}

-- a leaf is one of so many, and a stack has 1 to 256 layers
abbrev pub IsNode : ℕ → Tree-F Tree → Type 0
IsNode leaves (Tree-F.Leaf leaf transform at) = leaf < leaves
IsNode leaves (Tree-F.Cast to base transform at) = Unit {0}
IsNode leaves (Tree-F.Stack layers dtype transform at) = (0 < length layers) × (length layers ≤ 256)

-- each node of the tree keeps this
abbrev pub IsTree : ℕ → Tree → Type 0
IsTree leaves = every-Tree (IsNode leaves)

-- the greatest of some numbers, 0 where there is none
abbrev pub greatest : List ℕ → ℕ
greatest [] = 0
greatest (n ∷ ns) = max n (greatest ns)

-- the same for one node, from its parts
abbrev pub nesting_step : Tree-F ℕ → ℕ
nesting_step (Tree-F.Leaf leaf transform at) = 0
nesting_step (Tree-F.Cast to base transform at) = suc base
nesting_step (Tree-F.Stack layers dtype transform at) = suc (greatest layers)

-- how many casts and stacks stand in one another
abbrev pub nesting : Tree → ℕ
nesting = fold-Tree ℕ nesting_step

-- what opening a plan may rest on, where these are the names of mounts
pub record IsSoundPlan (names : List (List ℕ)) (plan : OpenPlan) : Type 0 where
  pub some : 0 < length plan.leaves
  pub few : length plan.leaves ≤ 256
  pub each : AllByRecursion (IsSoundLeaf names) plan.leaves
  pub over : IsTree (length plan.leaves) plan.tree
  pub flat : nesting plan.tree ≤ 16
