-- A run over mounts with all that it hands back.
use Rattle.std.specs.Prelude.{◌≡◌, ◌≢◌, ◌≤◌, ◌<◌, ◌+◌, ℕ, List, [], ◌∷◌, length, map, count_by, All, Bool, true, Some}
use Rattle.std.specs.FinMap as finmap
use Rattle.std.specs.List.{slice_get, sum, AllByRecursion, AllZip}
use mathlib.Core.List.{IsPrefix}
use Rattle.answer_text.specs.declared.answer.Answer.{Answer}
use Rattle.history.specs.History.{History}
use Rattle.history.specs.declared.event.Event.{Event}
use Rattle.history.specs.Own.{own_events}
use Rattle.kv_face.specs.Store.{Contents, opened}
use Rattle.kv_mounts.specs.Finish.{failed_places}
use Rattle.kv_mounts.specs.Parts.{Part, AreMounts, names_of}
use Rattle.kv_mounts.specs.Union.{faults_of, has_failed, prefixes_of, union_of}
use Rattle.session_runs.specs.Failures.{failures_by, failures_of}
use Rattle.session_workers.specs.Caused.{IsCausedLog}
use Rattle.session_workers.specs.Foreign.{AreForeign}
use Rattle.session_workers.specs.MountRuns.{fixed_over, IsPrintedRun, IsEmptyMount, IsSerialRun, IsSingleRun}
use Rattle.state_laws.specs.Agreement.{is_fault}
-- what a script asks, and that a log has its answers
pub use Rattle.session_workers.specs.Workers.{AreWhole, IsWhole, ends_in_want, asked_by, numbers_from}

-- a mount whose count of faults was this before it was finished: the count did not fall, and where the mount stands failed it rose
abbrev pub HasRisen : ℕ → Part → Type 0
HasRisen before now = (before ≤ now.faults) × (has_failed now ≡ true → before < now.faults)

-- the mounts as a run hands them back: in their order, and none stands open
pub record AreBack (old new : List Part) (history : History) (unfinished : List ℕ) : Type 0 where
  pub are : AreMounts new
  pub names : names_of new ≡ names_of old
  pub prefixes : prefixes_of new ≡ prefixes_of old
  pub closed : All (λ (p : Part). p.standing ≢ opened) new
  -- the places of those that stand failed
  pub failed : unfinished ≡ failed_places new
  -- before they were finished their counts of faults were these: by the events of failed calls higher together, or by more
  pub counts : List ℕ
  pub called : faults_of old + count_by is_fault history ≤ sum counts
  -- and they rose at all only where the history tells of a failed call
  pub told : faults_of old < sum counts → 0 < count_by is_fault history
  -- none of them is lower than the own count with which the mount at its place came
  pub later : AllZip (λ (p : Part) (before : ℕ). p.faults ≤ before) old counts
  -- and the own count of each that stands failed rose as it was finished
  pub own : AllZip HasRisen counts new
  -- so all counts together rose by the events of failed calls and by one for each of these places, or by more
  pub risen : faults_of old + count_by is_fault history + length unfinished ≤ faults_of new

-- these scripts were run over the mounts, each in a session of its own; where `whole` is so, no session ended without an answer to a line
pub record IsRun (scripts : List (List ℕ)) (old new : List Part) (history : History) (logs : List (List Answer)) (whole : Bool) (unfinished : List ℕ) : Type 0 where
  pub count : length logs ≡ length scripts
  -- whatever the stores tell: each line that isn't blank has its answer, up to one that is want of memory
  pub answered : whole ≡ true → AreWhole (names_of old) scripts logs
  -- and at every end the lines that have answers are the first ones
  pub numbered : (k : ℕ) (script : List ℕ) (log : List Answer) → slice_get scripts k ≡ Some script → slice_get logs k ≡ Some log
      → IsPrefix (map (λ (a : Answer). a.line) log) (numbers_from 1 (asked_by (names_of old) script))
  -- the failed calls that a log tells are those among its session's events, each once and in order: none is told that didn't happen, and none is left out
  pub failed : (k : ℕ) (script : List ℕ) (log : List Answer) → slice_get scripts k ≡ Some script → slice_get logs k ≡ Some log
      → failures_by log ≡ failures_of (own_events k 1 history)
  -- each line that is answered is so from where the lines before it left its session: by its own refusal, by want of memory, or for a cause that the
  -- history has, which for conflict, shrunk, not_atomic, too_many_chunks and store_failed is told
  pub caused : (k : ℕ) (script : List ℕ) (log : List Answer) → slice_get scripts k ≡ Some script → slice_get logs k ≡ Some log
      → IsCausedLog (fixed_over old finmap.empty) (names_of old) history k script log
  -- each conflict names a chunk that a later commit, key of a commit, or resize of another session touched
  pub foreign : AreForeign history logs
  pub owners : AllByRecursion (λ (e : Event). e.owner < length scripts) history
  pub back : AreBack old new history unfinished
  -- where the stores told their contents, the history is legal, the logs are those of sessions that ran the scripts over it, and the stores hold what it
  -- says
  pub told : (start : Contents) → union_of old ≡ Some start → IsPrintedRun start scripts old new history logs
  -- over one empty mount that makes all its changes together, its transactions are serial
  pub serial : IsEmptyMount old → IsSerialRun scripts old new history logs
  -- one script alone over such a mount, whose count of faults stayed, gives what the single session gives
  pub single : (mount script : List ℕ) → IsEmptyMount old → names_of old ≡ mount ∷ [] → scripts ≡ script ∷ [] → faults_of new ≡ faults_of old → IsSingleRun mount script history logs
