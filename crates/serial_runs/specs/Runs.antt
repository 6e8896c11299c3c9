-- What a run of several sessions hands back: a history, a log of each session, and a store.
use Rattle.std.specs.Prelude.{◌≡◌, ◌<◌, ◌⊎◌, ℕ, ◌+◌, List, [], ◌++◌, length, filter_map, drop, ◌∷◌, Bool, false, Option, Some, IsTrue}
use Rattle.std.specs.List.{slice_get, AllByRecursion}
use Rattle.kv_face.specs.Store.{Contents}
use Rattle.history.specs.declared.event.Event.{Event}
use Rattle.history.specs.History.{History}
use Rattle.history.specs.Alone.{IsOn}
use Rattle.history.specs.Answers.{Text, Answer}
use Rattle.history.specs.Bound.{IsWithin}
use Rattle.history.specs.Commit.{Fixed}
use Rattle.history.specs.Counting.{IsCounted}
use Rattle.history.specs.Lines.{Line}
use Rattle.history.specs.Own.{own_events}
use Rattle.history.specs.Sessions.{SessionState, at_first}
use Rattle.history.specs.Steps.{is_memory, IsSessionRun}
use Rattle.history.specs.Store.{IsConsistent}

-- a script: its lines as they are read, a blank one being none
abbrev pub Script : Type 0
Script = List (Option Line)

-- a session's log: it ran its script's lines from the first on, and has no event but those that its run adds
pub record IsLog (fixed : Fixed) (history : History) (owner : ℕ) (script : Script) (log : List Answer) : Type 0 where
  pub ran : Script
  pub left : Script
  pub parts : script ≡ ran ++ left
  pub last : SessionState
  pub run : IsSessionRun fixed owner history at_first 1 ran log last
  pub no_more : own_events owner (last.seen + 1) (drop last.seen history) ≡ []

-- the last answer is want of memory
abbrev pub ends_in_memory : List Answer → Bool
ends_in_memory [] = false
ends_in_memory (a ∷ []) = is_memory a.body
ends_in_memory (a ∷ b ∷ log) = ends_in_memory (b ∷ log)

-- every line that isn't blank has its answer, or the last answer is want of memory
abbrev pub IsWholeLog : Script → List Answer → Type 0
IsWholeLog script log = (length log ≡ length (filter_map (λ line. line) script)) ⊎ IsTrue (ends_in_memory log)

-- so it is of each session
abbrev pub AreWholeLogs : List Script → List (List Answer) → Type 0
AreWholeLogs scripts logs = (k : ℕ) (script : Script) (log : List Answer) → slice_get scripts k ≡ Some script → slice_get logs k ≡ Some log → IsWholeLog script log

-- the logs of a run: one a script, session k having the k-th, and every event is of one of these sessions
pub record AreLogs (fixed : Fixed) (history : History) (scripts : List Script) (logs : List (List Answer)) : Type 0 where
  pub count : length logs ≡ length scripts
  pub each : (k : ℕ) (script : Script) (log : List Answer) → slice_get scripts k ≡ Some script → slice_get logs k ≡ Some log
      → IsLog fixed history k script log
  pub owners : AllByRecursion (λ (e : Event). e.owner < length scripts) history

-- what a run hands back: a legal history, the logs, and a store that holds what the history says and was changed as often as it says;
-- a store that tells no contents, or no number of changes, owes none
pub record IsRunOf (fixed : Fixed) (scripts : List Script) (history : History) (logs : List (List Answer)) (store : Option Contents) (changes changes_now : Option ℕ) : Type 0 where
  pub sessions : AreLogs fixed history scripts logs
  pub consistent : IsConsistent fixed.start store history
  pub counted : IsCounted fixed.start changes changes_now history

-- what a run hands back that gave each session all lines of its script, as far as no session ended for want of memory
pub record IsWholeRunOf (fixed : Fixed) (scripts : List Script) (history : History) (logs : List (List Answer)) (store : Option Contents) (changes changes_now : Option ℕ) : Type 0 where
  pub run : IsRunOf fixed scripts history logs store changes changes_now
  pub whole : AreWholeLogs scripts logs

-- the lines ask for stored arrays of one mount alone, and no part of them brings in an array that it wasn't given
pub record AreOfMount (mount : Text) (scripts : List Script) : Type 0 where
  pub on_mount : AllByRecursion (AllByRecursion (IsOn mount)) scripts
  pub within : AllByRecursion (AllByRecursion IsWithin) scripts
