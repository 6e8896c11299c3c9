-- The outline that a transcript states, with the places of its arrays and the numbers that leaves take.
use Rattle.std.specs.Prelude.{◌≡◌, ℕ, List, [], ◌∷◌, ◌++◌, map, Option, Some, None}
use Rattle.history.specs.History.{History}
use Rattle.history.specs.Places.{IsTable}
use Rattle.transcript_cut.specs.Outline.{outline}
use Rattle.transcript_cut.specs.Claimed.{IsClaimed}
use Rattle.transcript_cut.specs.ToldNumbers.{opened_in, told_of, AreNumbered}
use Rattle.transcript_cut.specs.Stances.{stance}
use Rattle.transcript_cut.specs.Takings.{Taking, takings}
use Rattle.transcript_cut.specs.Transcript.{Told}
use Rattle.transcript_cut.specs.Numbered.{IsEventTable}
use Rattle.transcript_cut.specs.Said.{AreSaid}
use Rattle.transcript_cut.specs.declared.said.Said.{Said}
use Rattle.stated_arrays.specs.Outlined.{leaves_at, IsStatedOutline}
use Rattle.stated_arrays.specs.Served.{AreOpenedAt}
use Rattle.stated_arrays.specs.Still.{AreStill}
use Rattle.stated_arrays.specs.declared.openings.Openings.{Openings}

-- what is kept of the answers of a transcript that is cut, and its numbers
pub record IsNumberedCut (scripts : List (List ℕ)) (said : List Said) (spots : List ℕ) : Type 0 where
  pub transcript : List ℕ
  pub told : List Told
  pub said_of : AreSaid scripts transcript said told
  pub numbered : AreNumbered told
  pub table : IsEventTable said spots

-- for each leaf of a line, in order, the number that it takes, if it takes one
abbrev pub numbers_told : History → List Told → Told → List (Option ℕ)
numbers_told outlined earlier told =
    map (λ (t : Taking). t.number)
    (takings outlined (leaves_at (stance (told_of told.session earlier)) told.asked) (opened_in told.answer))

-- so it is told of each line, behind earlier ones
abbrev pub AreTakenBy : History → List Told → List Told → List (List (Option ℕ)) → Type 0
AreTakenBy outlined earlier [] [] = Unit {0}
AreTakenBy outlined earlier [] (numbers ∷ more) = ⊥
AreTakenBy outlined earlier (told ∷ later) [] = ⊥
AreTakenBy outlined earlier (told ∷ later) (numbers ∷ more) =
    (numbers ≡ numbers_told outlined earlier told) × AreTakenBy outlined (earlier ++ told ∷ []) later more

-- this is the outline that is told, and each history that is claimed has it; of each leaf it is told which number it takes
pub record IsStatedBy (told : List Told) (openings : Openings) : Type 0 where
  pub outlined : IsStatedOutline told openings.events
  pub claimed : (history : History) → IsClaimed told history → outline history ≡ openings.events
  pub takings : AreTakenBy openings.events [] told openings.takings

-- it is, no commit stands in it, none of its arrays gets another shape, and the tables are those of them
pub record AreStatedBy (scripts : List (List ℕ)) (said : List Said) (openings : Openings) : Type 0 where
  pub stated : (transcript : List ℕ) (told : List Told) → AreSaid scripts transcript said told → IsStatedBy told openings
  pub flat : outline openings.events ≡ openings.events
  pub still : AreStill openings.events
  pub opened : AreOpenedAt openings.events openings.opened
  pub places : IsTable openings.events openings.places

-- the outline that is stated, or that no history is claimed
abbrev pub IsStating : List (List ℕ) → List Said → Option Openings → Type 0
IsStating scripts said (Some openings) = AreStatedBy scripts said openings
IsStating scripts said None = (transcript : List ℕ) (told : List Told) → AreSaid scripts transcript said told
    → (history : History) → ¬ IsClaimed told history
