-- The events at all numbers, by what is kept of answers and lines.
use Rattle.std.specs.Prelude.{◌≡◌, ℕ, ◌+◌, List, [], ◌∷◌, ◌++◌, length, map, ◌==◌, ◌⊎◌, Bool, true, false, Option, Some, None, if◌then◌else◌}
use Rattle.std.specs.List.{AllByRecursion, slice_get}
use Rattle.std.specs.FinMap as finmap
use Rattle.history.specs.declared.event.Event.{Event}
use Rattle.history.specs.History.{History}
use Rattle.history.specs.Legal.{IsLegal}
use Rattle.history.specs.Lines.{SpecLeaf}
use Rattle.history.specs.Own.{fault}
use Rattle.transcript_cut.specs.StatedEvents.{IsEvent}
use Rattle.transcript_cut.specs.ToldNumbers.{AreRising, single}
use Rattle.transcript_cut.specs.Outline as outlines
use Rattle.transcript_cut.specs.Takings.{Taking, takings}
use Rattle.transcript_cut.specs.Transcript.{mount}
use Rattle.transcript_cut.specs.Numbers.{all_numbers}
use Rattle.transcript_cut.specs.Numbered.{PrintsAt, said_numbers}
use Rattle.transcript_cut.specs.declared.said.Said.{Said}
use Rattle.stated_arrays.specs.Outlined.{AreOpenedBy, undone}
use Rattle.stated_arrays.specs.Lines.{bare}
use Rattle.stated_arrays.specs.Still.{AreStill}
use Rattle.stated_arrays.specs.Served.{IsServing, untaken, AreOpenedAt}
use Rattle.stated_arrays.specs.declared.openings.Openings.{Openings}
use Rattle.history.specs.Places.{IsTable}
use Rattle.stated_arrays.specs.declared.arrays.StatedArrays.{StatedArrays}
use Rattle.stated_arrays.specs.declared.lines.OpenLine.{OpenLine}

-- the number is among these
abbrev pub IsIn : ℕ → List ℕ → Type 0
IsIn m [] = ⊥
IsIn m (n ∷ ns) = (n ≡ m) ⊎ IsIn m ns

-- the answer that prints a number is the one at its spot, and no other; the numbers of each answer rise
pub record IsExactTable (said : List Said) (spots : List ℕ) : Type 0 where
  pub count : length spots ≡ length (said_numbers said)
  pub each : (n spot : ℕ) → slice_get spots n ≡ Some spot → PrintsAt said spot (n + 1)
  pub only : (k m : ℕ) (s : Said) → slice_get said k ≡ Some s → IsIn m (all_numbers s.numbers)
      → (n : ℕ) × (m ≡ n + 1) × (slice_get spots n ≡ Some k)
  pub rising : (k : ℕ) (s : Said) → slice_get said k ≡ Some s → AreRising (all_numbers s.numbers)

-- whether there is a number, and it is this one
abbrev pub is_number : Option ℕ → ℕ → Bool
is_number None number = false
is_number (Some other) number = other == number

-- the event at a number that isn't that of a new array
abbrev pub other_event : Said → ℕ → Event
other_event said number = if is_number said.numbers.failed number then fault said.line.session mount else undone said.line.session

-- the next of the numbers of new arrays is this one
abbrev pub IsDue : Said → OpenLine → ℕ → Type 0
IsDue said line number = slice_get said.numbers.opened line.taken ≡ Some number

-- a line of whose numbers one more was taken
abbrev pub with_taken : OpenLine → OpenLine
with_taken line = record line { taken = line.taken + 1 }

-- the number is that of a new array, and a leaf takes it or not
pub record IsServedNext (said : Said) (old new : StatedArrays) (before after : OpenLine) (is_stated : Bool) : Type 0 where
  pub due : IsDue said before (length old.events.items + 1)
  pub served : IsServing old new said.line.session (with_taken before) after is_stated

-- it isn't, and the event is another
pub record IsOtherNext (said : Said) (old new : StatedArrays) (before after : OpenLine) (is_stated : Bool) : Type 0 where
  pub due : ¬ IsDue said before (length old.events.items + 1)
  pub events : new.events.items ≡ old.events.items ++ other_event said (length old.events.items + 1) ∷ []
  pub same : after ≡ before
  pub stated : is_stated ≡ true

-- whether the event at the next number is stated
abbrev pub IsStatedNext : Said → StatedArrays → StatedArrays → OpenLine → OpenLine → Bool → Type 0
IsStatedNext said old new before after is_stated =
    IsServedNext said old new before after is_stated ⊎ IsOtherNext said old new before after is_stated

-- the events at the numbers of an answer
pub record IsOutlinedLine (outlined : History) (said : Said) (line : OpenLine) : Type 0 where
  pub openings : AreOpenedBy outlined said.line.session (bare line.rest.items) said.numbers.opened
  pub done : AllByRecursion (λ n. IsEvent outlined n (undone said.line.session)) said.numbers.done
  pub failed : AllByRecursion (λ n. IsEvent outlined n (fault said.line.session mount)) (single said.numbers.failed)

-- at each number the event of its answer, and no other; arrays are opened as they may be
pub record IsOutlineOf (said : List Said) (lines : List OpenLine) (outlined : History) : Type 0 where
  pub each : (k : ℕ) (s : Said) (l : OpenLine) → slice_get said k ≡ Some s → slice_get lines k ≡ Some l → IsOutlinedLine outlined s l
  pub count : length outlined ≡ length (said_numbers said)
  pub legal : IsLegal finmap.empty outlined

-- the numbers that leaves take
abbrev pub numbers_taken : History → List SpecLeaf → List ℕ → List (Option ℕ)
numbers_taken outlined leaves numbers = map (λ (t : Taking). t.number) (takings outlined leaves numbers)

-- the numbers that the leaves of a line take; one that is left takes none
abbrev pub all_takings : OpenLine → List (Option ℕ)
all_takings line = line.takings.items ++ untaken line.rest.items

-- the events are stated, and no others are; of each line it is told which leaf takes which number
pub record HaveStated (said : List Said) (first last : List OpenLine) (outlined : History) : Type 0 where
  pub outline : IsOutlineOf said first outlined
  pub only : (other : History) → IsOutlineOf said first other → other ≡ outlined
  pub count : length last ≡ length first
  pub takings : (k : ℕ) (s : Said) (l m : OpenLine) → slice_get said k ≡ Some s → slice_get first k ≡ Some l → slice_get last k ≡ Some m
      → numbers_taken outlined (bare l.rest.items) s.numbers.opened ≡ all_takings m

-- the events are stated, and no others are, with the tables of their arrays; of each line it is told which leaf takes which number
pub record AreOpeningsOf (said : List Said) (lines : List OpenLine) (openings : Openings) : Type 0 where
  pub outline : IsOutlineOf said lines openings.events
  pub only : (other : History) → IsOutlineOf said lines other → other ≡ openings.events
  pub count : length openings.takings ≡ length lines
  pub takings : (k : ℕ) (s : Said) (l : OpenLine) → slice_get said k ≡ Some s → slice_get lines k ≡ Some l
      → slice_get openings.takings k ≡ Some (numbers_taken openings.events (bare l.rest.items) s.numbers.opened)
  pub flat : outlines.outline openings.events ≡ openings.events
  pub still : AreStill openings.events
  pub opened : AreOpenedAt openings.events openings.opened
  pub places : IsTable openings.events openings.places

-- they are, or none are
abbrev pub IsStatingOf : List Said → List OpenLine → Option Openings → Type 0
IsStatingOf said lines (Some openings) = AreOpeningsOf said lines openings
IsStatingOf said lines None = (outlined : History) → ¬ IsOutlineOf said lines outlined

-- what is given where these events were stated, whose leaves take what the last lines say
abbrev pub IsWholeFor : List OpenLine → History → Option Openings → Type 0
IsWholeFor last outlined found = (said : List Said) (first : List OpenLine) → HaveStated said first last outlined → IsStatingOf said first found

-- whether there is an event at each number
abbrev pub IsStatingAll : List Said → List OpenLine → List OpenLine → StatedArrays → Bool → Type 0
IsStatingAll said first last arrays true = HaveStated said first last arrays.events.items
IsStatingAll said first last arrays false = (outlined : History) → ¬ IsOutlineOf said first outlined
