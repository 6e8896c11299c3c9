-- A run of scripts over mounts, whose stores tell their contents.
use Rattle.std.specs.Prelude.{◌≡◌, ℕ, List, [], ◌∷◌, map, true, Some}
use Rattle.std.specs.FinMap as finmap
use Rattle.answer_text.specs.declared.answer.Answer.{Answer}
use Rattle.history.specs.Answers as plain
use Rattle.history.specs.Commit.{Fixed}
use Rattle.history.specs.History.{History}
use Rattle.kv_face.specs.Store.{Contents, are_together}
use Rattle.kv_face.specs.declared.change.Change.{Change}
use Rattle.kv_mounts.specs.Parts.{Part, names_of}
use Rattle.kv_mounts.specs.Union.{union_of, prefixes_of, change_count_of}
use Rattle.session_runs.specs.Bodies.{answer_of}
use Rattle.session_workers.specs.Alone.{IsAloneRun}
use Rattle.serial_runs.specs.Runs.{IsRunOf}
use Rattle.serial_runs.specs.Serial.{IsSerial}
use Rattle.session_workers.specs.Workers.{asked_by}

-- the stores began with these contents, and make changes together as they say
abbrev pub fixed_over : List Part → Contents → Fixed
fixed_over parts start = record { start = start; prefixes = prefixes_of parts }

-- the logs are printed ones of a run of the scripts' lines: the history is legal, each log is one of a session on its lines, and the stores hold what the
-- history says and were changed as often as it says
pub record IsPrintedRun (start : Contents) (scripts : List (List ℕ)) (old new : List Part) (history : History) (logs : List (List Answer)) : Type 0 where
  pub answers : List (List plain.Answer)
  pub printed : logs ≡ map (map answer_of) answers
  pub run : IsRunOf (fixed_over old start) (map (asked_by (names_of old)) scripts) history answers (union_of new) (change_count_of old) (change_count_of new)
  -- the stores still tell what they hold
  pub store : Contents
  pub still : union_of new ≡ Some store

-- one mount, whose store is empty and makes all its changes together: it answers so of every list of changes
pub record IsEmptyMount (parts : List Part) : Type 0 where
  pub part : Part
  pub alone : parts ≡ part ∷ []
  pub empty : part.contents ≡ Some finmap.empty
  pub together : (changes : List Change) → are_together part.prefixes changes 0 ≡ true

-- the transactions of the run are serial: each that committed and whose reads are repeatable read what one thread reads from plain arrays when commits and
-- resizes run in printed order, and the store holds exactly these arrays
pub record IsSerialRun (scripts : List (List ℕ)) (old new : List Part) (history : History) (logs : List (List Answer)) : Type 0 where
  pub answers : List (List plain.Answer)
  pub printed : logs ≡ map (map answer_of) answers
  pub store : Contents
  pub told : union_of new ≡ Some store
  pub serial : IsSerial (map (asked_by (names_of old)) scripts) history answers store

-- one script alone over this mount: what is printed and what happened is the single session's on plain arrays, as far as it goes
pub record IsSingleRun (mount script : List ℕ) (history : History) (logs : List (List Answer)) : Type 0 where
  pub answers : List plain.Answer
  pub printed : logs ≡ map answer_of answers ∷ []
  pub run : IsAloneRun mount (asked_by (mount ∷ []) script) history answers
