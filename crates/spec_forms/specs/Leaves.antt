-- What holds of a leaf that a Spec gives.
use Rattle.std.specs.Prelude.{◌≤◌, ◌^◌, ℕ, List, map, max, Bool, ◌||◌, IsTrue}
use Rattle.cells.specs.Dense.{DenseCells, IsDense}
use Rattle.cells.specs.Places.{cell_count}
use Rattle.json_forms.specs.Members.{is_among}
use Rattle.spec_forms.specs.Paths.{is_path}
use Rattle.spec_forms.specs.declared.leaf.SpecLeaf.{SpecLeaf}
use Rattle.spec_forms.specs.declared.leaf.SpecLeaf.TheVariants.{Zarr, N5, Zarr3, Given}

-- an array of a store: its mount is one of these names, its path keeps the rules, and it may be opened or made
pub record IsStoredLeaf (names : List (List ℕ)) (mount path : List ℕ) (may_open may_create : Bool) : Type 0 where
  pub mounted : IsTrue (is_among mount names)
  pub placed : IsTrue (is_path path)
  pub allowed : IsTrue (may_open || may_create)

-- numbers of an array: dense cells, and at most 2^22 of them where each size 0 counts as 1
pub record IsGivenLeaf (start : DenseCells) : Type 0 where
  pub dense : IsDense start
  pub small : cell_count (map (max 1) start.shape) ≤ 2 ^ 22

-- what opening a leaf may rest on, where these are the names of mounts
abbrev pub IsSoundLeaf : List (List ℕ) → SpecLeaf → Type 0
IsSoundLeaf names (Zarr mount path want may_open may_create) = IsStoredLeaf names mount path may_open may_create
IsSoundLeaf names (N5 mount path want may_open may_create) = IsStoredLeaf names mount path may_open may_create
IsSoundLeaf names (Zarr3 mount path want may_open may_create) = IsStoredLeaf names mount path may_open may_create
IsSoundLeaf names (Given start) = IsGivenLeaf start
