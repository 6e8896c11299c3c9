-- What is kept of an answer, and of what a line asks for.
use Rattle.std.specs.Prelude.{◌≡◌, ℕ, List, [], ◌∷◌, ◌++◌, Option, Some, None, Ok, Bool, true, false}
use Rattle.std.specs.List.{AllZip}
use Rattle.serde_json.specs.Data.{Data}
use Rattle.serde_json.specs.View.{view}
use Rattle.transcript_laws.specs.Form.{Form, form_of, IsSoundOther}
use Rattle.transcript_laws.specs.Lines.{command_of_line}
use Rattle.transcript_laws.specs.Transcript.{mount, ScriptLine, lines_of_scripts}
use Rattle.transcript_laws.specs.Unchecked.{is_unchecked_form, is_unchecked_in, AreChecked, IsFirstUnchecked}
use Rattle.transcript_laws.specs.declared.Command.{Command}
use Rattle.transcript_cut.specs.Plain.{cell_answer}
use Rattle.transcript_cut.specs.Spans.{line_at, IsPlaced}
use Rattle.transcript_cut.specs.declared.said.KeptAnswer.{KeptAnswer}
use Rattle.transcript_cut.specs.declared.said.KeptAnswer.TheVariants.{Whole, Cell}
use Rattle.transcript_cut.specs.declared.unchecked.Asking.{Asking}
use Rattle.transcript_cut.specs.declared.unchecked.Asking.TheVariants.{Checked, Unchecked}

-- the answer that is kept
abbrev pub data_kept : KeptAnswer → Data
data_kept (Whole value) = view value
data_kept (Cell number word) = cell_answer number word

-- of an answer itself is kept, or nothing
abbrev pub IsKeptOf : Data → Option KeptAnswer → Type 0
IsKeptOf answer None = Unit {0}
IsKeptOf answer (Some kept) = data_kept kept ≡ answer

-- the bytes of a line are this command, which opens nothing
pub record IsReadAs (bytes : List ℕ) (command : Command) : Type 0 where
  pub form : command_of_line (mount ∷ []) bytes ≡ Ok (form_of command)
  pub other : IsSoundOther command

-- of a line of these bytes the command that it is is kept, or nothing
abbrev pub IsCommandIn : List ℕ → Option Command → Type 0
IsCommandIn bytes None = Unit {0}
IsCommandIn bytes (Some command) = IsReadAs bytes command

abbrev pub IsCommandOf : ScriptLine → Option Command → Type 0
IsCommandOf line kept = IsCommandIn line.bytes kept

-- so it is of each
abbrev pub AreCommandsOf : List ScriptLine → List (Option Command) → Type 0
AreCommandsOf lines commands = AllZip IsCommandOf lines commands

-- all lines of the scripts are checked, and this is kept of them; or this is the first that isn't
abbrev pub IsAsking : List (List ℕ) → Asking → Type 0
IsAsking scripts (Checked commands) = AreChecked scripts × AreCommandsOf (lines_of_scripts 0 scripts) commands
IsAsking scripts (Unchecked line) = IsFirstUnchecked scripts (line_at scripts line) × IsPlaced scripts line

-- where a line of this form is checked, this is kept of it
abbrev pub IsCheckedForm : Form → Option (Option Command) → Type 0
IsCheckedForm form None = is_unchecked_form form ≡ true
IsCheckedForm form (Some None) = is_unchecked_form form ≡ false
IsCheckedForm form (Some (Some command)) = (is_unchecked_form form ≡ false) × (form ≡ form_of command) × IsSoundOther command

-- what is kept of a line that is checked stands behind what was kept before
abbrev pub IsKeptIfChecked : Option (Option Command) → List (Option Command) → List (Option Command) → Bool → Type 0
IsKeptIfChecked None old new checked = checked ≡ false
IsKeptIfChecked (Some kept) old new checked = (checked ≡ true) × (new ≡ old ++ kept ∷ [])

-- a line of these bytes was read: where it is checked, one more is kept
abbrev pub IsLineRead : List ℕ → List (Option Command) → List (Option Command) → Bool → Type 0
IsLineRead bytes old new true =
    (is_unchecked_in (command_of_line (mount ∷ []) bytes) ≡ false)
    × ((kept : Option Command) × (new ≡ old ++ kept ∷ []) × IsCommandIn bytes kept)
IsLineRead bytes old new false = is_unchecked_in (command_of_line (mount ∷ []) bytes) ≡ true
