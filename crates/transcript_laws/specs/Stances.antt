-- Which transaction stands before a line, by the lines and their answers alone.
use Rattle.std.specs.Prelude.{ℕ, List, [], ◌∷◌, Bool, Option, Some, None, if◌then◌else◌}
use Rattle.std.specs.List.{fold}
use Rattle.serde_json.specs.Data.{Data}
use Rattle.history.specs.declared.event.Mode.{Mode}
use Rattle.history.specs.Commit.{Transaction}
use Rattle.history.specs.Lines.{Line, refused, opening, viewing, joining, reading, writing, beginning, committing, aborting, resizing, resolving}
use Rattle.transcript_laws.specs.Transcript.{Told}
use Rattle.transcript_laws.specs.Numbers.{done_in, failed_in, damaged_in}

-- a transaction without its operations: where it was begun, and its flags
pub record Stance : Type 0 where
  pub line : ℕ
  pub mode : Mode

-- what is left of one by a commit, where these were done, these failed, and a chunk is damaged or not
abbrev pub stance_left : List ℕ → List ℕ → Bool → Option Stance → Option Stance
stance_left done failed damaged None = None
stance_left [] [] damaged (Some s) = if damaged then Some s else None
stance_left [] (n ∷ failed) damaged (Some s) = Some s
stance_left (m ∷ done) failed damaged (Some s) = None

-- what stands behind a begin
abbrev pub stance_begun : ℕ → Mode → Option Stance → Option Stance
stance_begun line mode None = Some (record { line = line; mode = mode })
stance_begun line mode (Some s) = Some s

-- what stands behind a line with an answer: no array, view or value counts
abbrev pub stance_by : ℕ → Data → Line → Option Stance → Option Stance
stance_by line answer (refused error) s = s
stance_by line answer (opening name leaves build) s = s
stance_by line answer (viewing name of changes) s = s
stance_by line answer (joining name of join changes) s = s
stance_by line answer (reading name changes down) s = s
stance_by line answer (writing name changes values) s = s
stance_by line answer (beginning mode) s = stance_begun line mode s
stance_by line answer committing s = stance_left (done_in answer) (failed_in answer) (damaged_in answer) s
stance_by line answer aborting s = None
stance_by line answer (resizing name shape) s = s
stance_by line answer (resolving name) s = s

-- what stands behind the first lines of a session
abbrev pub stance : List Told → Option Stance
stance told = fold (λ s (t : Told). stance_by t.number t.answer t.asked s) None told

-- the same of a transaction
abbrev pub stance_of : Option Transaction → Option Stance
stance_of None = None
stance_of (Some t) = Some (record { line = t.line; mode = t.mode })
