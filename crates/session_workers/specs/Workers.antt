-- What sessions that ran on workers hand back.
use Rattle.std.specs.Prelude.{◌≡◌, ◌<◌, ◌⊎◌, ℕ, zero, suc, List, [], ◌∷◌, ◌++◌, length, map, Bool, true, false, Some, Contains}
use Rattle.std.specs.List.{slice_get, AllByRecursion, AllZip, flat_map}
use mathlib.Core.List.{IsPrefix}
use Rattle.answer_text.specs.declared.answer.Answer.{Answer}
use Rattle.answer_text.specs.declared.answer.Body.TheVariants.{Memory}
use Rattle.history.specs.declared.event.Event.{Event}
use Rattle.history.specs.History.{History}
use Rattle.session_runs.specs.Scripts.{HasRunScript}
use Rattle.session_runs.specs.Session.{SessionSeen, IsSessionOn}
use Rattle.state_laws.specs.Agreement.{Opening}
use Rattle.session_runs.specs.TxnTurns.{owner_of}
use Rattle.turn_book.specs.History.{entries_of}
use Rattle.turn_book.specs.Passes.{BookView, PassView, IsIdle}
-- what a script asks, line by line, and the numbers of those that aren't blank
pub use Rattle.session_runs.specs.Scripts.{asked_by}
pub use Rattle.session_runs.specs.Session.{numbers_from}

-- a session that was given no line yet
pub record IsFresh (book : BookView Opening) (s : SessionSeen) : Type 0 where
  pub going : s.ended ≡ false
  pub on : IsSessionOn book s []
  pub small : s.pass.number < book.passes

-- the last answer is want of memory
abbrev pub ends_in_want : List Answer → Type 0
ends_in_want [] = ⊥
ends_in_want (a ∷ []) = a.body ≡ Memory
ends_in_want (a ∷ b ∷ log) = ends_in_want (b ∷ log)

-- it goes on, or its last answer is want of memory
abbrev pub IsFull : SessionSeen → Type 0
IsFull s = (s.ended ≡ false) ⊎ ends_in_want s.log

-- a session that was given the script of its number; where `whole` is so, it didn't end without an answer to a line
pub record HasRun (book : BookView Opening) (mounts scripts : List (List ℕ)) (whole : Bool) (s : SessionSeen) : Type 0 where
  pub small : s.pass.number < length scripts
  pub idle : IsIdle book s.pass
  pub given : (script : List ℕ) → slice_get scripts s.pass.number ≡ Some script → HasRunScript book mounts script s
  pub full : whole ≡ true → IsFull s

-- the numbers of the sessions of all workers
abbrev pub numbers_in : List (List SessionSeen) → List ℕ
numbers_in rows = flat_map (λ row. map (λ (s : SessionSeen). s.pass.number) row) rows

-- workers have sessions of these many numbers, each of which keeps P
pub record AreDealt (P : SessionSeen → Type 0) (rows : List (List SessionSeen)) (count : ℕ) : Type 0 where
  pub keep : AllByRecursion (AllByRecursion P) rows
  pub total : length (numbers_in rows) ≡ count
  pub each : (k : ℕ) → k < count → Contains (numbers_in rows) k

-- one session more for the worker at a place
abbrev pub with_session : ℕ → SessionSeen → List (List SessionSeen) → List (List SessionSeen)
with_session place s [] = []
with_session zero s (row ∷ rows) = (row ++ s ∷ []) ∷ rows
with_session (suc place) s (row ∷ rows) = row ∷ with_session place s rows

-- the session of the same number, to which its script was given
pub record IsWorked (book : BookView Opening) (mounts scripts : List (List ℕ)) (old new : SessionSeen) : Type 0 where
  pub number : new.pass.number ≡ old.pass.number
  pub run : HasRun book mounts scripts false new

-- each session of a worker was given its script
abbrev pub AreWorked : BookView Opening → List (List ℕ) → List (List ℕ) → List SessionSeen → List SessionSeen → Type 0
AreWorked book mounts scripts old new = AllZip (IsWorked book mounts scripts) old new

-- a session of this number with this log, and with one of these passes, to which its script was given
pub record IsKept (book : BookView Opening) (mounts scripts : List (List ℕ)) (whole : Bool) (passes : List (PassView Event Opening)) (number : ℕ) (log : List Answer) : Type 0 where
  pub session : SessionSeen
  pub number_is : session.pass.number ≡ number
  pub log_is : session.log ≡ log
  pub run : HasRun book mounts scripts whole session
  pub pass : Contains passes session.pass

-- the passes are idle, and so it is of the log of each number that one of them has
pub record AreKept (book : BookView Opening) (mounts scripts : List (List ℕ)) (whole : Bool) (passes : List (PassView Event Opening)) (logs : List (List Answer)) : Type 0 where
  pub idle : AllByRecursion (IsIdle book) passes
  pub each : (k : ℕ) (log : List Answer) → Contains (map (λ (p : PassView Event Opening). p.number) passes) k → slice_get logs k ≡ Some log → IsKept book mounts scripts whole passes k log

-- a log of the session of this number, to which a script was given: it has seen a beginning of the history, and the events of its number there are its
-- own
pub record IsSessionLog (book : BookView Opening) (mounts : List (List ℕ)) (history : History) (number : ℕ) (script : List ℕ) (log : List Answer) : Type 0 where
  pub session : SessionSeen
  pub number_is : session.pass.number ≡ number
  pub log_is : session.log ≡ log
  pub run : HasRunScript book mounts script session
  pub seen : IsPrefix session.pass.seen history
  pub own : entries_of owner_of number history ≡ session.pass.mine

-- the logs of sessions, one a script, over a state that began with this opening, and the history that they made: session k ran the k-th script, and
-- every event is of one of them
pub record AreSessionLogs (opening : Opening) (mounts : List (List ℕ)) (scripts : List (List ℕ)) (history : History) (logs : List (List Answer)) : Type 0 where
  pub book : BookView Opening
  pub fixed : book.fixed ≡ opening
  pub count : length logs ≡ length scripts
  pub each : (k : ℕ) (script : List ℕ) (log : List Answer) → slice_get scripts k ≡ Some script → slice_get logs k ≡ Some log
      → IsSessionLog book mounts history k script log
  pub owners : AllByRecursion (λ (e : Event). e.owner < length scripts) history

-- every line of the script that isn't blank has its answer, or the last answer is want of memory
abbrev pub IsWhole : List (List ℕ) → List ℕ → List Answer → Type 0
IsWhole mounts script log = (map (λ (a : Answer). a.line) log ≡ numbers_from 1 (asked_by mounts script)) ⊎ ends_in_want log

-- so it is of each session
abbrev pub AreWhole : List (List ℕ) → List (List ℕ) → List (List Answer) → Type 0
AreWhole mounts scripts logs = (k : ℕ) (script : List ℕ) (log : List Answer) → slice_get scripts k ≡ Some script → slice_get logs k ≡ Some log → IsWhole mounts script log
