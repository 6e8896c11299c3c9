-- What a run promises.
use Rattle.std.specs.Prelude.{◌≡◌, ◌≢◌, ◌⊎◌, ◌&&◌, ℕ, List, [], ◌∷◌, length, map, Bool, true, false, Option, if◌then◌else◌}
use Rattle.output_laws.specs.declared.Event.{Event}
use Rattle.output_laws.specs.Single.{single_session}
use Rattle.kv_face.specs.Store.{Contents}
use Rattle.kv_mounts.specs.Parts.{Part, names_of}
use Rattle.kv_mounts.specs.Union.{faults_of}
use Rattle.session_workers.specs.Bodies.{answer_of}
use Rattle.made_scripts.specs.Summary.{summary_text}
use Rattle.output_laws.specs.declared.Answer.{Answer}
use Rattle.output_laws.specs.Transcript.{mount}
use Rattle.output_laws.specs.Typed.{AreTyped}
use Rattle.output_laws.specs.Unchecked.{AreChecked}
use Rattle.output_laws.specs.Verdicts.{IsVerdict, yes}
use Rattle.session_workers.specs.Finished.{IsRun, AreWhole, asked_by}
use Rattle.session_workers.specs.MountRuns.{IsSerialRun}
-- what a run's mounts are asked for: one, whose store is empty and makes all its changes together
pub use Rattle.session_workers.specs.MountRuns.{IsEmptyMount}
use Rattle.run_words.specs.declared.settings.Input.{Input}
use Rattle.run_words.specs.declared.settings.Input.TheVariants.{Files, Made}
use Rattle.script_runner.specs.Asked.{AreAskedFor, AreOfFiles}
use Rattle.script_runner.specs.declared.outcome.Outcome.{Outcome}
use Rattle.script_runner.specs.declared.writing.Report.{Report}
use Rattle.script_runner.specs.declared.writing.Report.TheVariants.{Answers, Summary}
use Rattle.script_streams.specs.Putting.{Takes, IsGoing, IsBroken, IsStopped}
use Rattle.script_streams.specs.Standing.{are_all_ok, holds_memory}
use Rattle.script_streams.specs.Writing.{text_of_logs}

-- these scripts were run over the mounts. But under status 5, each line that isn't blank has its answer, up to one that is want of memory;
-- where a session ended without an answer to a line nothing was written, which `silent` says
pub record HasRunTexts (scripts : List (List ℕ)) (old new : List Part) (outcome : Outcome) (silent : Type 0) : Type 0 where
  pub whole : Bool
  pub run : IsRun scripts old new outcome.history outcome.logs whole outcome.unfinished
  pub full : outcome.status ≢ 5 → whole ≡ true
  pub unwritten : whole ≡ false → silent
  -- the answers are such as their type says
  pub typed : AreTyped outcome.logs

-- these files were read and run so
pub record HasRunFiles (contents : Option Contents) (files : List (List ℕ)) (old new : List Part) (outcome : Outcome) (silent : Type 0) : Type 0 where
  pub scripts : List (List ℕ)
  pub read : AreOfFiles contents files scripts
  pub ran : HasRunTexts scripts old new outcome silent

-- sessions were started: the scripts that the words ask for were run over the mounts, each in a session of its own
pub record HasRun (contents : Option Contents) (words : List (List ℕ)) (old new : List Part) (outcome : Outcome) (silent : Type 0) : Type 0 where
  pub scripts : List (List ℕ)
  pub asked : AreAskedFor contents words scripts
  pub ran : HasRunTexts scripts old new outcome silent

-- all that is to be told of a run was written
abbrev pub HasAnswers : ℕ → Type 0
HasAnswers status = (status ≡ 0) ⊎ (status ≡ 1)

-- what became of a text by the status: all of it was given and taken; the sink took no more of it; or a front part was taken and memory was wanting, in
-- the run or for the rest
pub record IsPut {X : Type 0} (takes : Takes X) (from : X) (text : List ℕ) (status : ℕ) (to : X) : Type 0 where
  pub whole : HasAnswers status → IsGoing takes from text [] to
  pub refused : status ≡ 4 → IsBroken takes from text to
  pub stopped : status ≡ 5 → IsStopped takes from text to

-- one script alone: the answers are those of the single session on plain arrays as they are printed, and so are the events
pub record IsSingleOutcome (mount script : List ℕ) (outcome : Outcome) : Type 0 where
  pub answers : outcome.logs ≡ map answer_of (single_session mount 0 (asked_by (mount ∷ []) script)).answers ∷ []
  pub events : outcome.history ≡ (single_session mount 0 (asked_by (mount ∷ []) script)).session.events

-- SERIAL TRANSACTIONS. The scripts ran in sessions of their own, and the logs are printed ones of these sessions. Each committed transaction whose
-- reads are repeatable printed what one thread reads from plain arrays when commits and resizes run in printed order, and the store holds exactly these
-- arrays in the end. A conflict names a chunk that was read, and a later commit or resize of another session that touched it. A transaction that only wrote
-- is refused by a resize, a failed store or want of memory alone. No answer is that changes can't be made together, that a chunk is damaged or that metadata
-- is bad
pub record IsSerialOutcome (contents : Option Contents) (words : List (List ℕ)) (old new : List Part) (outcome : Outcome) : Type 0 where
  pub scripts : List (List ℕ)
  pub asked : AreAskedFor contents words scripts
  pub serial : IsSerialRun scripts old new outcome.history outcome.logs
  -- each line that isn't blank has its answer, up to one that is want of memory, but where memory was wanting for an answer
  pub whole : outcome.status ≢ 5 → AreWhole (names_of old) scripts outcome.logs
  -- one script alone, where the stores' counts of faults stayed and all answers were written, gives what the single session gives
  pub single : HasAnswers outcome.status → (mount script : List ℕ) → names_of old ≡ mount ∷ [] → scripts ≡ script ∷ [] → faults_of new ≡ faults_of old → IsSingleOutcome mount script outcome

-- over one store that is called `memory`, the right verdict on what the logs print is yes, by as many events as there are, where nothing ended in want of
-- memory and each line of the scripts is one that is checked
abbrev pub IsAnsweredYes : List (List ℕ) → List Part → Outcome → Type 0
IsAnsweredYes scripts old outcome = names_of old ≡ mount ∷ [] → outcome.status ≢ 5 → holds_memory outcome.logs ≡ false → AreChecked scripts
    → IsVerdict scripts (text_of_logs outcome.logs) (yes (length outcome.history))

-- WHAT A CHECKER ANSWERS. The text of the logs of the scripts that the words ask for is answered yes
pub record IsYesOutcome (contents : Option Contents) (words : List (List ℕ)) (old : List Part) (outcome : Outcome) : Type 0 where
  pub scripts : List (List ℕ)
  pub asked : AreAskedFor contents words scripts
  pub answered : IsAnsweredYes scripts old outcome

-- these scripts were run over the mounts, and where those are one empty store, the text of the logs is answered yes
pub record HasRunGiven (scripts : List (List ℕ)) (old new : List Part) (outcome : Outcome) (silent : Type 0) : Type 0 where
  pub ran : HasRunTexts scripts old new outcome silent
  pub fits : IsEmptyMount old → IsAnsweredYes scripts old outcome

-- no session was started
pub record IsUnstarted (outcome : Outcome) : Type 0 where
  pub history : outcome.history ≡ []
  pub unfinished : outcome.unfinished ≡ []

-- no place
abbrev pub is_empty : List ℕ → Bool
is_empty [] = true
is_empty (p ∷ ps) = false

-- 0 where every line did what it asks for and every mount was finished, else 1
abbrev pub status_of : Outcome → ℕ
status_of outcome = if are_all_ok outcome.logs && is_empty outcome.unfinished then 0 else 1

-- what is written of a run by words with this input: the text of all logs where they name files, one line where the scripts are made
abbrev pub text_by : Input → Outcome → List ℕ
text_by (Files first) outcome = text_of_logs outcome.logs
text_by (Made number) outcome = summary_text outcome.logs outcome.history

-- what is to be told of logs and a history
abbrev pub text_of : Report → List (List Answer) → List Event → List ℕ
text_of Answers logs history = text_of_logs logs
text_of Summary logs history = summary_text logs history
