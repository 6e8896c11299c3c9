-- The numbers of events that answers print.
use Rattle.std.specs.Prelude.{◌<◌, ℕ, ℤ, pos, negsuc, ◌+◌, List, [], ◌∷◌, ◌++◌, length, filter, filter_map, ◌==◌, Bool, Option, Some, None, is_some, option_map, option_and_then, codes, Contains}
use Rattle.std.specs.List.{flat_map}
use Rattle.serde_json.specs.Data.{Data}
use Rattle.serde_json.specs.Find.{get}
use Rattle.json_forms.specs.Lists.{list_items}
use Rattle.json_forms.specs.Numbers.{whole_number}
use Rattle.transcript_laws.specs.Transcript.{Told}

-- the number of an event that a whole number is; below 0 it is that of none, which is 0
abbrev pub as_event : ℤ → ℕ
as_event (pos n) = n
as_event (negsuc n) = 0

-- a whole number as the number of an event
abbrev pub event_of : Data → Option ℕ
event_of d = option_map as_event (whole_number d)

-- the whole numbers of a list, where there is one
abbrev pub listed : Option (List Data) → List ℕ
listed None = []
listed (Some items) = filter_map event_of items

-- the whole number, where there is one
abbrev pub single : Option ℕ → List ℕ
single None = []
single (Some n) = n ∷ []

-- the whole numbers that a member lists
abbrev pub numbers_at : List ℕ → Option Data → List ℕ
numbers_at name d = listed (option_and_then list_items (option_and_then (get name) d))

-- the numbers of arrays that an answer says were opened
abbrev pub opened_in : Data → List ℕ
opened_in answer = numbers_at (codes "events") (Some answer)

-- those of what it says was committed, all of it or before the store failed
abbrev pub done_in : Data → List ℕ
done_in answer = numbers_at (codes "commit") (Some answer)
    ++ numbers_at (codes "done") (get (codes "store_failed") answer)

-- that of a failed store call
abbrev pub failed_in : Data → List ℕ
failed_in answer = single
    (option_and_then event_of (option_and_then (get (codes "event")) (get (codes "store_failed") answer)))

-- whether an answer says that a chunk is damaged
abbrev pub damaged_in : Data → Bool
damaged_in answer = is_some (get (codes "damaged") answer)

-- all numbers of events that an answer prints
abbrev pub numbers_in : Data → List ℕ
numbers_in answer = opened_in answer ++ (done_in answer ++ failed_in answer)

-- those of answers, one after another
abbrev pub numbers_of : List Told → List ℕ
numbers_of told = flat_map (λ (t : Told). numbers_in t.answer) told

-- what is told of a session's lines
abbrev pub told_of : ℕ → List Told → List Told
told_of session told = filter (λ (t : Told). t.session == session) told

-- each number is greater than the one before it
abbrev pub AreRising : List ℕ → Type 0
AreRising [] = Unit {0}
AreRising (n ∷ []) = Unit {0}
AreRising (n ∷ m ∷ ns) = (n < m) × AreRising (m ∷ ns)

-- part 2: of the N numbers that are printed each from 1 to N is one, so that each stands once, and those of a session
-- rise
pub record AreNumbered (told : List Told) : Type 0 where
  pub each : (n : ℕ) → n < length (numbers_of told) → Contains (numbers_of told) (n + 1)
  pub rising : (session : ℕ) → AreRising (numbers_of (told_of session told))
