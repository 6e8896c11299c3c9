-- The history that a transcript states: which event stands at each number.
use Rattle.std.specs.Prelude.{◌≡◌, ℕ, List, [], ◌∷◌, ◌++◌, length, map, filter_map, Option, None, Ok, Err, option_and_then, option_map}
use Rattle.std.specs.List.{AllByRecursion}
use Rattle.std.specs.FinMap as finmap
use Rattle.serde_json.specs.Data.{Data}
use Rattle.history.specs.declared.event.Event.{Event}
use Rattle.history.specs.Acts.{Act, Asked, opens, binds, reads, stages, writes, begins, commits, aborts, resizes, resolves}
use Rattle.history.specs.Commit.{Transaction, kept_ops, done}
use Rattle.history.specs.History.{History}
use Rattle.history.specs.Legal.{IsLegal}
use Rattle.history.specs.OpenRows.{next_array}
use Rattle.history.specs.Own.{Numbered, opened_event, fault}
use Rattle.history.specs.Own as own
use Rattle.history.specs.Steps.{write_alone}
use Rattle.serial_runs.specs.Numbered.{IsEvent}
use Rattle.transcript_laws.specs.Transcript.{mount, Told}
use Rattle.transcript_laws.specs.Numbers.{opened_in, done_in, failed_in, numbers_in, numbers_of, told_of}
use Rattle.transcript_laws.specs.Standings.{Standing, first_standing, act_at, standing_step}
use Rattle.transcript_laws.specs.Takings.{before, Taking, takings, opened_info}

-- the event of a number
abbrev pub at_number : ℕ → Event → Numbered
at_number n event = record { number = n; event = event }

-- the opening that a leaf states
abbrev pub opening_of : History → ℕ → Taking → Option Numbered
opening_of history owner t =
    option_and_then (λ n. option_map (λ info. at_number n (opened_event owner info))
    (opened_info (next_array (before history n)) t.leaf)) t.number

-- a commit at each of some numbers: one event without a key, which has all operations of the transaction, Reads under
-- repeatable read alone
abbrev pub commits_at : ℕ → Transaction → List ℕ → List Numbered
commits_at owner t numbers = map (λ n. at_number n (done owner t (kept_ops t) None)) numbers

-- a failed store call at each of some numbers
abbrev pub faults_at : ℕ → List ℕ → List Numbered
faults_at owner numbers = map (λ n. at_number n (fault owner mount)) numbers

-- the events that an act with an answer states; a view, a begin, a staged write and an abort state none
abbrev pub stated_by : History → ℕ → ℕ → Act → Data → List Numbered
stated_by history owner line (opens name leaves build) answer =
    filter_map (opening_of history owner) (takings history leaves (opened_in answer))
    ++ faults_at owner (failed_in answer)
stated_by history owner line (binds name view) answer = []
stated_by history owner line (reads view down) answer = faults_at owner (failed_in answer)
stated_by history owner line (stages t view words) answer = []
stated_by history owner line (writes view words) answer =
    commits_at owner (write_alone line view words) (done_in answer) ++ faults_at owner (failed_in answer)
stated_by history owner line (begins mode) answer = []
stated_by history owner line (commits t) answer =
    commits_at owner t (done_in answer) ++ faults_at owner (failed_in answer)
stated_by history owner line aborts answer = []
stated_by history owner line (resizes array shape) answer = []
stated_by history owner line (resolves name view array) answer = []

-- those that a line states; a refused one states none
abbrev pub stated_asked : History → ℕ → ℕ → Asked → Data → List Numbered
stated_asked history owner line (Err refusal) answer = []
stated_asked history owner line (Ok act) answer = stated_by history owner line act answer

-- the events that a line states for a session that stands so
abbrev pub stated : History → Standing → Told → List Numbered
stated history s told = stated_asked history told.session told.number (act_at s told) told.answer

-- each number that the line prints is that of an event which it states, and the history has this event there
pub record IsStated (history : History) (s : Standing) (told : Told) : Type 0 where
  pub numbers : own.numbers_of (stated history s told) ≡ numbers_in told.answer
  pub events : AllByRecursion (λ (o : Numbered). IsEvent history o.number o.event) (stated history s told)

-- so it is of the lines of a session from this one on
abbrev pub AreStated : History → Standing → List Told → Type 0
AreStated history s [] = Unit {0}
AreStated history s (told ∷ more) = IsStated history s told × AreStated history (standing_step history s told) more

-- the history has at each number the event that its line states, and no other; whether it may happen isn't asked
pub record IsStatedHistory (told : List Told) (history : History) : Type 0 where
  pub sessions : (session : ℕ) → AreStated history first_standing (told_of session told)
  pub count : length history ≡ length (numbers_of told)

-- part 3: the history has at each number the event that its line states, and no other, and may happen over an empty
-- store
pub record IsClaimed (told : List Told) (history : History) : Type 0 where
  pub sessions : (session : ℕ) → AreStated history first_standing (told_of session told)
  pub count : length history ≡ length (numbers_of told)
  pub legal : IsLegal finmap.empty history
