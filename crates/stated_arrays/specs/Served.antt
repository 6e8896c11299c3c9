-- What comes of leaves at the next number.
use Rattle.std.specs.Prelude.{◌≡◌, ℕ, ◌+◌, List, [], ◌∷◌, ◌++◌, length, map, Bool, true, false, Option, Some, None, is_some}
use Rattle.std.specs.List.{AllByRecursion, slice_get}
use Rattle.std.specs.FinMap as finmap
use Rattle.history.specs.declared.array.ArrayInfo.{ArrayInfo}
use Rattle.history.specs.Arrays.{Known, known_after}
use Rattle.history.specs.History.{History}
use Rattle.history.specs.Leaves.{location_of_leaf}
use Rattle.history.specs.Legal.{IsLegal, IsLegalOpening}
use Rattle.history.specs.Lines.{SpecLeaf, given, stored}
use Rattle.history.specs.OpenRows.{next_array}
use Rattle.history.specs.Own.{opened_event}
use Rattle.history.specs.Places.{array_at, IsTable}
use Rattle.transcript_cut.specs.declared.SpecLeaf as spec
use Rattle.transcript_cut.specs.Openings.{leaf_of}
use Rattle.transcript_cut.specs.Outline.{outline}
use Rattle.transcript_cut.specs.Takings.{opened_info}
use Rattle.stated_arrays.specs.Still.{AreStill}
use Rattle.stated_arrays.specs.declared.arrays.StatedArrays.{StatedArrays}
use Rattle.stated_arrays.specs.declared.arrays.Served.{Served}
use Rattle.stated_arrays.specs.declared.arrays.Served.TheVariants.{New, There, Never}
use Rattle.stated_arrays.specs.declared.lines.OpenLine.{OpenLine}
pub use Rattle.stated_arrays.specs.Outlined.{undone}

-- for each array the number of the event that opened it
pub record AreOpenedAt (events : History) (opened : List ℕ) : Type 0 where
  pub count : length opened ≡ next_array events
  pub each : (a : ℕ) (k : Known) → known_after events a ≡ Some k → slice_get opened a ≡ Some k.opened

-- arrays are opened as they may be, the events are an outline, in which none gets another shape, and the tables are theirs
pub record AreArraysOf (arrays : StatedArrays) : Type 0 where
  pub legal : IsLegal finmap.empty arrays.events.items
  pub flat : outline arrays.events.items ≡ arrays.events.items
  pub still : AreStill arrays.events.items
  pub opened : AreOpenedAt arrays.events.items arrays.opened.items
  pub places : IsTable arrays.events.items arrays.places

-- whether an array lies at the place of a leaf
abbrev pub was_there : History → SpecLeaf → Bool
was_there events (given cells) = false
was_there events (stored node leaf) = is_some (array_at events (location_of_leaf leaf))

-- an array was opened by a session
pub record HasOpened (old new : StatedArrays) (owner : ℕ) (info : ArrayInfo) : Type 0 where
  pub events : new.events.items ≡ old.events.items ++ opened_event owner info ∷ []

-- a leaf opens an array
pub record IsNewBy (old new : History) (owner : ℕ) (leaf : SpecLeaf) : Type 0 where
  pub fresh : was_there old leaf ≡ false
  pub info : ArrayInfo
  pub opened : opened_info (next_array old) leaf ≡ Some info
  pub legal : IsLegalOpening old info
  pub events : new ≡ old ++ opened_event owner info ∷ []

-- an array lies there already
pub record IsThereAt (old new : History) (leaf : SpecLeaf) : Type 0 where
  pub there : was_there old leaf ≡ true
  pub same : new ≡ old

-- no array may be opened by the leaf
pub record IsNeverBy (old : History) (leaf : SpecLeaf) : Type 0 where
  pub fresh : was_there old leaf ≡ false
  pub never : (info : ArrayInfo) → opened_info (next_array old) leaf ≡ Some info → ¬ IsLegalOpening old info

-- what comes of a leaf of a session
abbrev pub IsServed : StatedArrays → StatedArrays → ℕ → SpecLeaf → Served → Type 0
IsServed old new owner leaf New = IsNewBy old.events.items new.events.items owner leaf
IsServed old new owner leaf There = IsThereAt old.events.items new.events.items leaf
IsServed old new owner leaf Never = IsNeverBy old.events.items leaf

-- an array lies at the place of each
abbrev pub AreThere : History → List spec.SpecLeaf → Type 0
AreThere events leaves = AllByRecursion (λ leaf. was_there events (leaf_of [] leaf) ≡ true) leaves

-- the first of these leaves opens nothing, if there is one
abbrev pub IsNeverFirst : History → List spec.SpecLeaf → Type 0
IsNeverFirst events [] = Unit {0}
IsNeverFirst events (leaf ∷ leaves) = IsNeverBy events (leaf_of [] leaf)

-- these take no number
abbrev pub untaken : List spec.SpecLeaf → List (Option ℕ)
untaken leaves = map (λ leaf. None) leaves

-- at the places of the first leaves that were left arrays lie, and the next one opens an array; it takes the number
pub record HasServed (old new : History) (owner : ℕ) (before after : OpenLine) : Type 0 where
  pub passed : List spec.SpecLeaf
  pub leaf : spec.SpecLeaf
  pub parts : before.rest.items ≡ passed ++ leaf ∷ after.rest.items
  pub there : AreThere old passed
  pub new_by : IsNewBy old new owner (leaf_of [] leaf)
  pub takings : after.takings.items ≡ before.takings.items ++ (untaken passed ++ Some (length old + 1) ∷ [])
  pub taken : after.taken ≡ before.taken

-- at the places of the first leaves that were left arrays lie, and the next one, if there is one, opens nothing
pub record HasServedNone (old : History) (before : OpenLine) : Type 0 where
  pub passed : List spec.SpecLeaf
  pub rest : List spec.SpecLeaf
  pub parts : before.rest.items ≡ passed ++ rest
  pub there : AreThere old passed
  pub never : IsNeverFirst old rest

-- whether a leaf of a line took the number
abbrev pub IsServing : StatedArrays → StatedArrays → ℕ → OpenLine → OpenLine → Bool → Type 0
IsServing old new owner before after true = HasServed old.events.items new.events.items owner before after
IsServing old new owner before after false = HasServedNone old.events.items before
