-- What has one answer, whatever the history.
use Rattle.std.specs.Prelude.{◌≡◌, ℕ, List, [], ◌∷◌, length, ◌+◌, Option, Some, None, Ok, Err}
use Rattle.serde_json.specs.Data.{Data}
use Rattle.transcript_cut.specs.Text.{answer_text}
use Rattle.transcript_cut.specs.Answers.{answer_data}
use Rattle.history.specs.declared.event.Mode.{Mode}
use Rattle.history.specs.Acts.{Asked, binds, stages, begins, aborts}
use Rattle.history.specs.Answers as old
use Rattle.history.specs.Answers.{Body, Text}
use Rattle.history.specs.Commit.{Transaction}
use Rattle.history.specs.Viewing.{viewed_body}
use Rattle.stack_driver.specs.declared.view.View.{View}
use Rattle.transcript_cut.specs.Fitting.{printed_at}

-- this answer is the only one that what is asked may have
pub data HasOneAnswer : Asked → Body → Type 0 where
  refusal : {answer : Body} → HasOneAnswer (Err answer) answer
  viewed : {name : Text} {view : View} → HasOneAnswer (Ok (binds name view)) (viewed_body name view)
  staged : {t : Transaction} {view : View} {words : List ℕ}
      → HasOneAnswer (Ok (stages t view words)) (old.staged (length words))
  begun : {mode : Mode} → HasOneAnswer (Ok (begins mode)) old.begun
  aborted : HasOneAnswer (Ok aborts) old.aborted

-- the text is that of an answer that prints one number of an event
pub record IsToldWithNumber (answer : ℕ → Body) (line : ℕ) (text : List ℕ) (d : Data) : Type 0 where
  pub number : ℕ
  pub printed : text ≡ answer_text (printed_at line (answer number))
  pub object : d ≡ answer_data (printed_at line (answer number))

-- a write of so many cells is told by one event
abbrev pub IsWritten : ℕ → ℕ → List ℕ → Data → Type 0
IsWritten cells line text d = IsToldWithNumber (λ n. old.written cells (n ∷ [])) line text d

-- so is a commit
abbrev pub IsCommitted : ℕ → List ℕ → Data → Type 0
IsCommitted line text d = IsToldWithNumber (λ n. old.committed (n ∷ [])) line text d

-- it is the answer that a store call failed behind so many events, none of a commit's being done
pub record IsFailure (n : ℕ) (line : ℕ) (text : List ℕ) (d : Data) : Type 0 where
  pub printed : text ≡ answer_text (printed_at line (old.store_failed (n + 1) [] None))
  pub object : d ≡ answer_data (printed_at line (old.store_failed (n + 1) [] None))

-- behind so many, or it is no such answer
abbrev pub IsFailedBehind : Option ℕ → ℕ → List ℕ → Data → Type 0
IsFailedBehind (Some n) line text d = IsFailure n line text d
IsFailedBehind None line text d = (n : ℕ) → ¬ IsFailure n line text d
