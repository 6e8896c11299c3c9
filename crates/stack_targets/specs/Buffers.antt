-- Targets of all cells, one after another in buffers.
use Rattle.std.specs.Prelude.{ℕ, ◌+◌, List, [], ◌∷◌, length, map, take, drop, slice_index_or, Result, Ok, Err}
use Rattle.index_transform.specs.Cells.{cells_of}
use Rattle.stack_driver.specs.Targets.{Target}
use Rattle.stack_driver.specs.Views.{look_of, targets_of}
use Rattle.stack_driver.specs.declared.error.TargetError.{TargetError}
use Rattle.stack_driver.specs.declared.error.TargetError.TheVariants as fault
use Rattle.stack_driver.specs.declared.view.View.{View}
use Rattle.stack_targets.specs.Landings.{Seen, Landing, no_leaf, landing_of, target_among}
use Rattle.stack_targets.specs.declared.error.TargetsError.{TargetsError}
use Rattle.stack_targets.specs.declared.error.TargetsError.TheVariants as refusal

-- why the cell at a place has no target
abbrev pub fault_at : ℕ → TargetError → TargetsError
fault_at cell (fault.OutOfRange dim) = refusal.OutOfRange cell dim
fault_at cell fault.Uncovered = refusal.Uncovered cell
fault_at cell fault.Memory = refusal.Memory

-- a value before further ones, or their fault
abbrev pub first_and : {X : Type 0} → X → Result (List X) TargetsError → Result (List X) TargetsError
first_and x (Ok xs) = Ok (x ∷ xs)
first_and x (Err e) = Err e

-- all values of cells from a place on, or the fault of the first cell without one
abbrev pub all_or_first : {X : Type 0} → ℕ → List (Result X TargetError) → Result (List X) TargetsError
all_or_first cell [] = Ok []
all_or_first cell (Ok x ∷ rs) = first_and x (all_or_first (cell + 1) rs)
all_or_first cell (Err e ∷ rs) = Err (fault_at cell e)

-- the targets of all cells of a view in C order, or the fault of the first cell that has none
abbrev pub all_targets : View → Result (List Target) TargetsError
all_targets v = all_or_first 0 (targets_of v)

-- where all cells of a view land
abbrev pub all_landings : View → Result (List Landing) TargetsError
all_landings v = all_or_first 0 (map (landing_of v) (cells_of (look_of v).dims))

-- as many numbers as the leaf's array has dimensions
abbrev pub rank_of : List Seen → ℕ → ℕ
rank_of leaves leaf = length (slice_index_or leaves leaf no_leaf).array.shape

-- the landings that buffers tell: a leaf's number for each cell, and all index vectors one after another
abbrev pub told_landings : List Seen → List ℕ → List ℕ → List Landing
told_landings leaves [] numbers = []
told_landings leaves (leaf ∷ more) numbers =
    record { leaf = leaf; index = take (rank_of leaves leaf) numbers } ∷ told_landings leaves more (drop (rank_of leaves leaf) numbers)

-- the targets that buffers tell
abbrev pub told_targets : List Seen → List ℕ → List ℕ → List Target
told_targets leaves cells numbers = map (target_among leaves) (told_landings leaves cells numbers)
