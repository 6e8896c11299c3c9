-- The lines of events by their numbers.
use Rattle.std.specs.Prelude.{◌≡◌, ◌<◌, ℕ, ◌+◌, List, length, filter, map, Bool, false, ◌==◌, Option, Some, None, IsTrue, if◌then◌else◌, slice_index_or}
use Rattle.std.specs.List.{flat_map, list_any, slice_get}
use Rattle.transcript_laws.specs.Transcript.{Told}
use Rattle.transcript_laws.specs.Numbers.{AreNumbered}
use Rattle.transcript_cut.specs.Said.{AreSaid}
use Rattle.transcript_cut.specs.Numbers.{all_numbers}
use Rattle.transcript_cut.specs.declared.said.Said.{Said}

-- all numbers of events that are printed, in order
abbrev pub said_numbers : List Said → List ℕ
said_numbers said = flat_map (λ (s : Said). all_numbers s.numbers) said

-- those of a session
abbrev pub session_numbers : ℕ → List Said → List ℕ
session_numbers session said = said_numbers (filter (λ (s : Said). s.line.session == session) said)

-- the number is one of these
abbrev pub is_printed : ℕ → List ℕ → Bool
is_printed number numbers = list_any (λ n. n == number) numbers

-- the answer at this spot prints the number
pub record PrintsAt (said : List Said) (spot number : ℕ) : Type 0 where
  pub line : Said
  pub there : slice_get said spot ≡ Some line
  pub prints : IsTrue (is_printed number (all_numbers line.numbers))

-- for each event, from the first on, the spot of an answer that prints its number; there are as many events as numbers
pub record IsEventTable (said : List Said) (spots : List ℕ) : Type 0 where
  pub count : length spots ≡ length (said_numbers said)
  pub each : (n spot : ℕ) → slice_get spots n ≡ Some spot → PrintsAt said spot (n + 1)

-- one of the numbers from 1 up to the count of all isn't printed
pub record LacksNumber (said : List Said) : Type 0 where
  pub event : ℕ
  pub within : event < length (said_numbers said)
  pub missing : is_printed (event + 1) (said_numbers said) ≡ false

-- the slot of an event behind an answer at a spot, which prints these numbers
abbrev pub slot_after : List ℕ → ℕ → ℕ → Option ℕ → Option ℕ
slot_after numbers spot event slot = if is_printed (event + 1) numbers then Some spot else slot

-- what the slots hold, or one that is empty
abbrev pub AreFilled : List (Option ℕ) → Option (List ℕ) → Type 0
AreFilled slots (Some spots) = map Some spots ≡ slots
AreFilled slots None = (k : ℕ) × (k < length slots) × (slice_index_or slots k None ≡ None)

-- a spot for each of the numbers, or one of these that isn't printed
abbrev pub AreSpots : List Said → Option (List ℕ) → Type 0
AreSpots said (Some spots) = IsEventTable said spots
AreSpots said None = LacksNumber said

-- a table of the events, and whatever is told so has the numbers that it should; or nothing that is told so has
abbrev pub IsNumbering : List Said → Option (List ℕ) → Type 0
IsNumbering said (Some spots) = IsEventTable said spots
    × ((scripts : List (List ℕ)) (transcript : List ℕ) (told : List Told) → AreSaid scripts transcript said told → AreNumbered told)
IsNumbering said None =
    (scripts : List (List ℕ)) (transcript : List ℕ) (told : List Told) → AreSaid scripts transcript said told → ¬ AreNumbered told
