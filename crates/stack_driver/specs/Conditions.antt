-- What each node of a view keeps.
use Rattle.std.specs.Prelude.{◌≡◌, ◌<◌, ◌≤◌, ℕ, ℤ, true, length, map, slice_index_or, List, Option, Some, None, Result}
use Rattle.stack_driver.specs.Targets.{Target, has_index}
use Rattle.stack_driver.specs.declared.error.TargetError.{TargetError}
use Rattle.std.specs.List.{AllByRecursion}
use Rattle.cast_driver.specs.declared.Dtype.{Dtype}
use Rattle.stack_driver.specs.Views.{look_of, last_target}
use Rattle.stack_driver.specs.declared.view.View.{View, every-View}
use Rattle.stack_driver.specs.declared.view.View.TheOpen.{View-F}

-- a view has this dtype and rank
pub record HasKind (dtype : Dtype) (rank : ℕ) (v : View) : Type 0 where
  pub dtype_is : (look_of v).dtype ≡ dtype
  pub rank_is : length (look_of v).dims ≡ rank

-- 1 to 256 layers of one dtype and rank
pub record AreLayers (layers : List View) (rank : ℕ) : Type 0 where
  pub some : 0 < length layers
  pub few : length layers ≤ 256
  pub dtype : Dtype
  pub alike : AllByRecursion (HasKind dtype rank) layers

-- a leaf's transform has an output for each dimension of the array, and a stack's one for each dimension of its layers
abbrev pub IsNode : View-F View → Type 0
IsNode (View-F.Leaf array t) = length t.maps ≡ length array.shape
IsNode (View-F.Cast to base) = Unit {0}
IsNode (View-F.Stack layers t) = AreLayers layers (length t.maps)

-- each node of the view keeps this
abbrev pub IsView : View → Type 0
IsView = every-View IsNode

-- the place of the last view whose domain has an index vector, and so the one that a stack of them shows
abbrev pub IsLast : List View → List ℤ → Option ℕ → Type 0
IsLast views index None = (found : Result Target TargetError) → last_target (map look_of views) index found ≡ found
IsLast views index (Some place) =
    (place < length views) × ((d : View) → has_index (look_of (slice_index_or views place d)).dims index ≡ true)
    × ((d : View) (found : Result Target TargetError) → last_target (map look_of views) index found ≡ (look_of (slice_index_or views place d)).target index)
