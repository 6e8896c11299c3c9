-- What a view alone tells of a line on it: where it is refused before any chunk is looked at.
use Rattle.std.specs.Prelude.{ℕ, ◌+◌, ◌*◌, ◌^◌, ◌==◌, ℤ, nat_le, List, [], ◌∷◌, map, Option, Some, None, Result, Ok, Err, if◌then◌else◌}
use Rattle.std.specs.List.{list_any}
use Rattle.stack_driver.specs.Bounds.{Bounds}
use Rattle.stack_driver.specs.Members.{is_finite, size_of}
use Rattle.stack_driver.specs.Cells.{cells_of}
use Rattle.stack_driver.specs.Targets.{Target}
use Rattle.stack_driver.specs.Views.{look_of, own_transform, targets_of}
use Rattle.stack_driver.specs.declared.error.TargetError.{TargetError}
use Rattle.stack_driver.specs.declared.error.TargetError.TheVariants as target
use Rattle.stack_driver.specs.declared.view.View.{View}
use Rattle.history.specs.Answers as body
use Rattle.history.specs.Answers.{Body, Text}
use Rattle.history.specs.Lines.{Printed, Downsampling}

-- the first dimension that isn't finite
abbrev pub first_infinite : ℕ → List Bounds → Option ℕ
first_infinite dim [] = None
first_infinite dim (d ∷ dims) = if is_finite d then first_infinite (dim + 1) dims else Some dim

-- the first dimension up to which there are over 2 ^ 22 cells
abbrev pub first_over : ℕ → ℕ → List ℕ → Option ℕ
first_over count dim [] = None
first_over count dim (size ∷ shape) = if nat_le (count * size) (2 ^ 22) then first_over (count * size) (dim + 1) shape else Some dim

-- the same of a whole shape; one with a size of 0 has no cell
abbrev pub too_many : List ℕ → Option ℕ
too_many shape = if list_any (λ size. size == 0) shape then None else first_over 1 0 shape

-- how many indices a view has along each dimension
abbrev pub shape_of : View → List ℕ
shape_of view = map size_of (look_of view).dims

-- the least index of a view along each dimension
abbrev pub origin_of : View → List ℤ
origin_of view = map (λ (d : Bounds). d.lo) (look_of view).dims

-- the view has infinitely many cells, or more than a line may name
abbrev pub size_fault : Option ℕ → Option ℕ → Option Body
size_fault (Some dim) many = Some (body.unbounded dim)
size_fault None (Some dim) = Some (body.too_many dim)
size_fault None None = None

-- why a line may not name all cells of the view, if it may not
abbrev pub view_fault : View → Option Body
view_fault view = size_fault (first_infinite 0 (look_of view).dims) (too_many (shape_of view))

-- the answer to an index vector without a target
abbrev pub target_body : List ℤ → TargetError → Body
target_body x (target.OutOfRange dim) = body.out_of_range x dim
target_body x target.Uncovered = body.uncovered x
target_body x target.Memory = body.memory

-- the first index vector without a target, and why it has none
abbrev pub first_fault : List (List ℤ) → List (Result Target TargetError) → Option Body
first_fault (x ∷ xs) (Ok t ∷ ts) = first_fault xs ts
first_fault (x ∷ xs) (Err e ∷ ts) = Some (target_body x e)
first_fault xs ts = None

-- the first cell of the view without a target, and why it has none
abbrev pub cell_fault : View → Option Body
cell_fault view = first_fault (cells_of (look_of view).dims) (targets_of view)

-- the answer to an open line that binds its name, with the numbers of the events that it added
abbrev pub opened_body : Text → View → List ℕ → Body
opened_body name view numbers = body.opened name (look_of view).dtype (own_transform view).domain numbers

-- the answer to a view line that binds its name
abbrev pub viewed_body : Text → View → Body
viewed_body name view = body.viewed name (look_of view).dtype (own_transform view)

-- the answer to a resolve line that binds its name anew
abbrev pub resolved_body : Text → View → Body
resolved_body name view = body.resolved name (look_of view).dtype (own_transform view)

-- what is printed of a view's words
abbrev pub printed_of : View → Option Downsampling → List ℕ → Printed
printed_of view None words = record { origin = origin_of view; shape = shape_of view; words = words }
printed_of view (Some down) words = down.printed (look_of view).dims (look_of view).dtype words

-- the answer to a read, with the words of its view
abbrev pub values_body : View → Option Downsampling → List ℕ → Body
values_body view down words =
    let p = printed_of view down words in
    body.values p.origin p.shape (look_of view).dtype p.words
