-- Serial transactions: what a run of several sessions over one store promises, which starts empty and makes all changes of a commit
-- together.
use Rattle.std.specs.Prelude.{◌≡◌, ◌<◌, ℕ, List, [], ◌++◌, length, false, Some, None, IsTrue}
use Rattle.std.specs.List.{slice_get, AllByRecursion}
use Rattle.kv_face.specs.Store.{Contents}
use Rattle.history.specs.declared.event.Event.{Event}
use Rattle.history.specs.History.{History}
use Rattle.history.specs.Answers as body
use Rattle.history.specs.Answers.{Body, Answer}
use Rattle.history.specs.Commit.{Key, is_write}
use Rattle.history.specs.Own.{numbers_of, own_events}
use Rattle.serial_runs.specs.Attempts.{Attempt, blames_store, AreShown}
use Rattle.serial_runs.specs.Ends.{IsEnd}
use Rattle.serial_runs.specs.Held.{HoldsArrays}
use Rattle.serial_runs.specs.Numbered.{changes_of, printed_by, faults_of, failed_by, openings_of, opened_by, told_by}
use Rattle.serial_runs.specs.Runs.{Script, ends_in_memory, AreWholeLogs}

-- a transaction that only wrote has no conflict
abbrev pub IsFreeIfOnlyWrites : Attempt → Type 0
IsFreeIfOnlyWrites a = AllByRecursion (λ op. IsTrue (is_write op)) a.transaction.ops → (key : Key) (read now : ℕ) → ¬ (a.answer ≡ body.conflict key read now)

-- one session of a run
pub record IsSerialSession (history : History) (owner : ℕ) (script : Script) (log : List Answer) : Type 0 where
  -- the transactions that it tried to commit, as its lines and the answers to them show them
  pub attempts : List Attempt
  pub shown : AreShown history owner (λ name. None) None 1 script log attempts
  -- each of them ends so: it is committed, and each of its reads under repeatable read printed what one thread reads from plain arrays
  -- when commits and resizes run in printed order; it has a conflict with a later event of another session that touched a chunk which
  -- it read; an array that it wrote to has shrunk; the store failed; or memory was wanting
  pub ends : AllByRecursion (λ (a : Attempt). IsEnd history owner a.transaction a.answer) attempts
  -- so one that only wrote is refused by shrinking, a failed store or want of memory alone
  pub free : AllByRecursion IsFreeIfOnlyWrites attempts
  -- and no answer is that changes can't be made together, that a chunk is damaged, or that metadata is bad
  pub sound : AllByRecursion (λ (a : Answer). blames_store a.body ≡ false) log
  -- the numbers that its log prints for commits and resizes are those of its commits and resizes in the history, in order
  pub printed : printed_by log ≡ changes_of owner history
  -- those that it prints for failed store calls are those of its failed calls in the history, in order
  pub failed : failed_by log ≡ faults_of owner history
  -- those that it prints for new arrays are those of its openings in the history, in order: all of them, unless its last answer is want
  -- of memory
  pub unprinted : List ℕ
  pub opened : opened_by log ++ unprinted ≡ openings_of owner history
  pub all_opened : ends_in_memory log ≡ false → unprinted ≡ []
  -- and all numbers that it prints are those of its events in the history, in order, of whatever kind
  pub in_order : told_by log ++ unprinted ≡ numbers_of (own_events owner 1 history)

-- a run of several sessions, one a script
pub record IsSerial (scripts : List Script) (history : History) (logs : List (List Answer)) (store : Contents) : Type 0 where
  pub sessions : (k : ℕ) (script : Script) (log : List Answer) → slice_get scripts k ≡ Some script
      → slice_get logs k ≡ Some log → IsSerialSession history k script log
  -- there is one log a script, and every event is of one of these sessions
  pub count : length logs ≡ length scripts
  pub owners : AllByRecursion (λ (e : Event). e.owner < length scripts) history
  -- the store holds exactly the plain arrays behind all events
  pub store_is : HoldsArrays store history

-- a whole run of several sessions: the logs answer all lines that aren't blank, but behind want of memory
pub record IsWholeSerial (scripts : List Script) (history : History) (logs : List (List Answer)) (store : Contents) : Type 0 where
  pub serial : IsSerial scripts history logs store
  pub whole : AreWholeLogs scripts logs
