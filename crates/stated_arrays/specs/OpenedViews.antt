-- The arrays of an open line's leaves.
use Rattle.std.specs.Prelude.{◌≡◌, ℕ, List, [], ◌∷◌, Option, Some, None}
use Rattle.std.specs.List.{AllByRecursion}
use Rattle.history.specs.declared.array.ArrayInfo.{ArrayInfo}
use Rattle.history.specs.History.{History}
use Rattle.history.specs.Lines.{SpecLeaf}
use Rattle.history.specs.OpenRows.{next_array}
use Rattle.stated_arrays.specs.Outcomes.{IsOpenedAt}
use Rattle.transcript_cut.specs.Takings.{before, Taking, taking, opened_info}

-- leaves, and the number that each takes, if it takes one
abbrev pub paired : List SpecLeaf → List (Option ℕ) → List Taking
paired [] numbers = []
paired (leaf ∷ leaves) [] = taking leaf None ∷ paired leaves []
paired (leaf ∷ leaves) (number ∷ numbers) = taking leaf number ∷ paired leaves numbers

-- the number that a leaf takes, if it takes one, is that of the event by which it is a new array
abbrev pub IsGivenAt : History → SpecLeaf → Option ℕ → Type 0
IsGivenAt events leaf None = Unit {0}
IsGivenAt events leaf (Some number) =
    (info : ArrayInfo) × (opened_info (next_array (before events number)) leaf ≡ Some info)
    × IsOpenedAt events number info

-- so it is of each
abbrev pub AreGiven : History → List Taking → Type 0
AreGiven events leaves = AllByRecursion (λ (t : Taking). IsGivenAt events t.leaf t.number) leaves
