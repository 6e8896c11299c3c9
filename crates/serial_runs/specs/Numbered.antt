-- Events by their numbers, and the numbers that answers print.
use Rattle.std.specs.Prelude.{◌≡◌, ℕ, ◌+◌, List, [], ◌∷◌, ◌++◌, length, filter, Bool, true, false, Some}
use Rattle.std.specs.List.{flat_map}
use Rattle.history.specs.declared.event.Kind.{Kind}
use Rattle.history.specs.declared.event.Kind.TheVariants.{Opened, Done, Resized, Fault}
use Rattle.history.specs.declared.event.Event.{Event}
use Rattle.history.specs.History.{History}
use Rattle.history.specs.Answers as body
use Rattle.history.specs.Answers.{Body, Answer}
use Rattle.history.specs.Legal.{opens}
use Rattle.history.specs.Own.{Numbered, numbers_of, own_events}

-- the event of this number in a history, with those before it and behind it
pub record IsEvent (history : History) (number : ℕ) (event : Event) : Type 0 where
  pub before : History
  pub later : History
  pub parts : history ≡ before ++ event ∷ later
  pub numbered : number ≡ length before + 1

-- a commit or a resize
abbrev pub is_commit_or_resize : Kind → Bool
is_commit_or_resize (Opened info) = false
is_commit_or_resize (Done line mode ops key) = true
is_commit_or_resize (Resized a shape) = true
is_commit_or_resize (Fault mount) = false

-- a failed store call
abbrev pub is_fault : Kind → Bool
is_fault (Opened info) = false
is_fault (Done line mode ops key) = false
is_fault (Resized a shape) = false
is_fault (Fault mount) = true

-- the numbers of a session's events of some kinds, in order
abbrev pub events_of : (Kind → Bool) → ℕ → History → List ℕ
events_of chosen owner history = numbers_of (filter (λ (o : Numbered). chosen o.event.kind) (own_events owner 1 history))

-- those of its commits and resizes
abbrev pub changes_of : ℕ → History → List ℕ
changes_of owner history = events_of is_commit_or_resize owner history

-- those of its failed store calls
abbrev pub faults_of : ℕ → History → List ℕ
faults_of owner history = events_of is_fault owner history

-- those of the arrays that it opened first
abbrev pub openings_of : ℕ → History → List ℕ
openings_of owner history = events_of opens owner history

-- the numbers of commits and resizes that an answer prints
abbrev pub numbers_in : Body → List ℕ
numbers_in (body.committed numbers) = numbers
numbers_in (body.written cells numbers) = numbers
numbers_in (body.resized number) = number ∷ []
numbers_in (body.store_failed number done listed) = done
numbers_in answer = []

-- the number of the failed store call that an answer prints
abbrev pub failed_in : Body → List ℕ
failed_in (body.store_failed number done listed) = number ∷ []
failed_in answer = []

-- the numbers of new arrays that an answer prints
abbrev pub opened_in : Body → List ℕ
opened_in (body.opened name dtype domain numbers) = numbers
opened_in (body.bad_spec path (Some numbers)) = numbers
opened_in (body.refused_spec path cause numbers) = numbers
opened_in (body.not_found at path numbers) = numbers
opened_in (body.exists at path numbers) = numbers
opened_in (body.path_taken at path numbers) = numbers
opened_in (body.mismatch at member path numbers) = numbers
opened_in (body.bad_metadata key why numbers) = numbers
opened_in (body.store_failed number done (Some numbers)) = numbers
opened_in answer = []

-- the numbers of commits and resizes that a log prints, in order
abbrev pub printed_by : List Answer → List ℕ
printed_by log = flat_map (λ (a : Answer). numbers_in a.body) log

-- those of failed store calls
abbrev pub failed_by : List Answer → List ℕ
failed_by log = flat_map (λ (a : Answer). failed_in a.body) log

-- those of new arrays
abbrev pub opened_by : List Answer → List ℕ
opened_by log = flat_map (λ (a : Answer). opened_in a.body) log

-- all numbers of its line's events that an answer prints, in the order in which the line adds them
abbrev pub events_in : Body → List ℕ
events_in answer = numbers_in answer ++ (opened_in answer ++ failed_in answer)

-- all that a log prints, in order
abbrev pub told_by : List Answer → List ℕ
told_by log = flat_map (λ (a : Answer). events_in a.body) log
