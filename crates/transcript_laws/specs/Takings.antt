-- Which leaf of an open line takes which of the numbers that its answer prints, and the view over the arrays.
use Rattle.std.specs.Prelude.{ℕ, ◌-◌, List, [], ◌∷◌, map, take, Bool, Option, Some, None, Result, Ok, Err, is_some, option_and_then, option_map, if◌then◌else◌}
use Rattle.serial_runs.specs.Made.{form_made}
use Rattle.serial_runs.specs.declared.Form.{Form}
use Rattle.stack_driver.specs.References.{Reference}
use Rattle.stack_driver.specs.declared.view.View.{View}
use Rattle.history.specs.declared.array.ArrayInfo.{ArrayInfo}
use Rattle.history.specs.Answers.{Text, BuildCause}
use Rattle.history.specs.Arrays.{Known, ref_of}
use Rattle.history.specs.History.{History}
use Rattle.history.specs.Leaves.{Leaf, location_of_leaf}
use Rattle.history.specs.Lines.{SpecLeaf, given, stored, Build}
use Rattle.history.specs.OpenRows.{next_array, given_info}
use Rattle.history.specs.Outcomes.{new_info}
use Rattle.history.specs.Places.{array_at}

-- the events before the one of a number
abbrev pub before : History → ℕ → History
before history number = take (number - 1) history

-- a leaf of an open line, and the number of the event by which it is a new array, if it is one
pub record Taking : Type 0 where
  pub leaf : SpecLeaf
  pub number : Option ℕ

-- the leaf takes the number, or not
abbrev pub taking : SpecLeaf → Option ℕ → Taking
taking leaf number = record { leaf = leaf; number = number }

-- whether the array at the leaf's place was opened below the number
abbrev pub was_opened : History → ℕ → Leaf → Bool
was_opened history number leaf = is_some (array_at (before history number) (location_of_leaf leaf))

-- which leaf takes which of the numbers that an open line prints for its new arrays: in order, one with numbers of
-- its own takes the next, and a stored one takes it exactly where no array at its place was opened below it
abbrev pub takings : History → List SpecLeaf → List ℕ → List Taking
takings history [] numbers = []
takings history (leaf ∷ leaves) [] = taking leaf None ∷ takings history leaves []
takings history (given cells ∷ leaves) (n ∷ numbers) = taking (given cells) (Some n) ∷ takings history leaves numbers
takings history (stored node leaf ∷ leaves) (n ∷ numbers) =
    if was_opened history n leaf then taking (stored node leaf) None ∷ takings history leaves (n ∷ numbers)
    else taking (stored node leaf) (Some n) ∷ takings history leaves numbers

-- a new stored array, where what is asked determines its metadata
abbrev pub made_info : ℕ → Leaf → Result Form (List ℕ) → Option ArrayInfo
made_info number leaf (Ok meta) = Some (new_info number leaf meta)
made_info number leaf (Err member) = None

-- the array that a leaf opens, being the array of this number
abbrev pub opened_info : ℕ → SpecLeaf → Option ArrayInfo
opened_info number (given cells) = Some (given_info number cells)
opened_info number (stored node leaf) = made_info number leaf (form_made leaf.want)

-- the array of a leaf: the one that it opened, or the one at its place
abbrev pub array_of_leaf : History → SpecLeaf → Option ℕ → Option Known
array_of_leaf history leaf (Some n) =
    option_map (λ (info : ArrayInfo). record { info = info; opened = n; shape = info.shape })
    (opened_info (next_array (before history n)) leaf)
array_of_leaf history (given cells) None = None
array_of_leaf history (stored node leaf) None = array_at history (location_of_leaf leaf)

-- how views name it
abbrev pub ref_of_leaf : History → Taking → Option Reference
ref_of_leaf history t = option_map ref_of (array_of_leaf history t.leaf t.number)

-- all of them, where there is an array for each
abbrev pub all_refs : List (Option Reference) → Option (List Reference)
all_refs [] = Some []
all_refs (None ∷ refs) = None
all_refs (Some ref ∷ refs) = option_map (λ more. ref ∷ more) (all_refs refs)

-- the view, where it is built
abbrev pub built_view : Result View (Text × BuildCause) → Option View
built_view (Ok view) = Some view
built_view (Err refusal) = None

-- the view over the arrays of the leaves, where there is one
abbrev pub opened_view : History → List Taking → Build → Option View
opened_view history leaves build =
    option_and_then (λ refs. built_view (build refs)) (all_refs (map (ref_of_leaf history) leaves))
