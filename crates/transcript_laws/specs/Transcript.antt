-- A transcript, cut into the answers to the lines of some scripts.
use Rattle.std.specs.Prelude.{◌≡◌, ℕ, ◌+◌, List, [], ◌∷◌, ◌++◌, codes, if◌then◌else◌}
use Rattle.std.specs.List.{flat_map}
use Rattle.serde_json.specs.Data.{Data}
use Rattle.script_lines.specs.Script.{lines_of, is_blank}
use Rattle.answer_data.specs.Lines.{IsAnswerText}
use Rattle.history.specs.Answers.{Text}
use Rattle.history.specs.Lines.{Line}
use Rattle.line_meanings.specs.Meanings.{line_of_bytes}

-- the name of the one mount on which the arrays of a transcript lie
abbrev pub mount : Text
mount = codes "memory"

-- a line of a script that isn't blank: its session, its number and its bytes
pub record ScriptLine : Type 0 where
  pub session : ℕ
  pub number : ℕ
  pub bytes : List ℕ

-- the lines of a script that aren't blank, where the first of these has the number n
abbrev pub lines_from : ℕ → ℕ → List (List ℕ) → List ScriptLine
lines_from session n [] = []
lines_from session n (bytes ∷ lines) =
    if is_blank bytes then lines_from session (n + 1) lines
    else record { session = session; number = n; bytes = bytes } ∷ lines_from session (n + 1) lines

-- the lines of scripts that aren't blank, script by script, the first script being that of this session
abbrev pub lines_of_scripts : ℕ → List (List ℕ) → List ScriptLine
lines_of_scripts session [] = []
lines_of_scripts session (script ∷ scripts) =
    lines_from session 1 (lines_of script) ++ lines_of_scripts (session + 1) scripts

-- what a line asks for
abbrev pub asked_by : ScriptLine → Line
asked_by line = line_of_bytes (mount ∷ []) line.bytes

-- a line of a script, what it asks for, and what the transcript has for it: a text with its LF, which is this object
pub record Told : Type 0 where
  pub session : ℕ
  pub number : ℕ
  pub asked : Line
  pub text : List ℕ
  pub answer : Data

-- this is told of the line
pub record IsToldOf (line : ScriptLine) (told : Told) : Type 0 where
  pub session : told.session ≡ line.session
  pub number : told.number ≡ line.number
  pub asked : told.asked ≡ asked_by line
  pub answer : IsAnswerText line.number told.text told.answer

-- these are told of the lines, one of each
abbrev pub AreToldOf : List ScriptLine → List Told → Type 0
AreToldOf [] [] = Unit {0}
AreToldOf [] (told ∷ more) = ⊥
AreToldOf (line ∷ lines) [] = ⊥
AreToldOf (line ∷ lines) (told ∷ more) = IsToldOf line told × AreToldOf lines more

-- part 1: the transcript has for each line that isn't blank, in order, one compact object with its number, and
-- nothing else. An LF stands at the end of each and nowhere else, so a missing last LF or a rest behind it doesn't
-- fit
pub record IsCut (scripts : List (List ℕ)) (transcript : List ℕ) (told : List Told) : Type 0 where
  pub each : AreToldOf (lines_of_scripts 0 scripts) told
  pub whole : transcript ≡ flat_map (λ (t : Told). t.text) told
