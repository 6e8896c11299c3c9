-- The scripts and transcripts that aren't checked.
use Rattle.std.specs.Prelude.{◌≡◌, ℕ, List, [], ◌∷◌, ◌++◌, Bool, true, false, ◌&&◌, Some, None, option_and_then, Result, Ok, Err, codes, unwrap_or}
use Rattle.std.specs.List.{list_any, flat_map, AllByRecursion}
use Rattle.serde_json.specs.Data.{Data}
use Rattle.serde_json.specs.Find.{get, as_bool}
use Rattle.json_forms.specs.Bytes.{data_of}
use Rattle.json_forms.specs.Members.{has_exactly}
use Rattle.line_meanings.specs.declared.SpecLeaf.{SpecLeaf}
use Rattle.line_meanings.specs.declared.SpecLeaf.TheVariants.{Zarr, N5, Zarr3, Given}
use Rattle.line_meanings.specs.Form.{Form, opening, viewing, joining, reading, writing, beginning, committing, aborting, resizing, resolving}
use Rattle.line_meanings.specs.Lines.{command_of_line}
use Rattle.line_meanings.specs.declared.LineError.{LineError}
use Rattle.answer_data.specs.Lines.{has_lf}
use Rattle.transcript_laws.specs.Transcript.{mount, ScriptLine, lines_of_scripts, Told, AreToldOf}

-- a leaf of the driver zarr3
abbrev pub is_zarr3 : SpecLeaf → Bool
is_zarr3 (Zarr at path want may_open may_create) = false
is_zarr3 (N5 at path want may_open may_create) = false
is_zarr3 (Zarr3 at path want may_open may_create) = true
is_zarr3 (Given numbers) = false

-- such a command isn't checked: a resize, a resolve, an open whose Spec has a node of the driver zarr3, a downsampled
-- read, a joined view
abbrev pub is_unchecked_form : Form → Bool
is_unchecked_form (opening name plan) = list_any is_zarr3 plan.leaves
is_unchecked_form (viewing name of transform steps) = false
is_unchecked_form (joining name kind layers transform steps) = true
is_unchecked_form (reading name steps None) = false
is_unchecked_form (reading name steps (Some down)) = true
is_unchecked_form (writing name steps values) = false
is_unchecked_form (beginning atomic repeatable_read) = false
is_unchecked_form committing = false
is_unchecked_form aborting = false
is_unchecked_form (resizing name shape) = true
is_unchecked_form (resolving name) = true

-- a line without the form of a command is checked
abbrev pub is_unchecked_in : Result Form LineError → Bool
is_unchecked_in (Ok form) = is_unchecked_form form
is_unchecked_in (Err e) = false

-- the line has the form of such a command
abbrev pub is_unchecked : ScriptLine → Bool
is_unchecked line = is_unchecked_in (command_of_line (mount ∷ []) line.bytes)

-- each line of the scripts is checked
abbrev pub AreChecked : List (List ℕ) → Type 0
AreChecked scripts = AllByRecursion (λ line. is_unchecked line ≡ false) (lines_of_scripts 0 scripts)

-- an object that has `line`, and `memory`, which is true, and no other member
abbrev pub is_memory_answer : Data → Bool
is_memory_answer d = has_exactly (codes "line" ∷ codes "memory" ∷ []) d && unwrap_or
    (option_and_then as_bool (get (codes "memory") d)) false

-- the bytes are such an object
pub record IsMemoryAnswer (bytes : List ℕ) : Type 0 where
  pub answer : Data
  pub json : data_of bytes ≡ Some answer
  pub memory : is_memory_answer answer ≡ true

-- the transcript has an answer of want of memory, the first, where an answer to this line should stand, and those
-- before it are what part 1 asks for
pub record IsCutOff (scripts : List (List ℕ)) (transcript : List ℕ) (line : ScriptLine) : Type 0 where
  pub earlier : List ScriptLine
  pub later : List ScriptLine
  pub lines : lines_of_scripts 0 scripts ≡ earlier ++ line ∷ later
  pub told : List Told
  pub each : AreToldOf earlier told
  pub none : AllByRecursion (λ (t : Told). is_memory_answer t.answer ≡ false) told
  pub bytes : List ℕ
  pub one_line : has_lf bytes ≡ false
  pub memory : IsMemoryAnswer bytes
  pub rest : List ℕ
  pub parts : transcript ≡ flat_map (λ (t : Told). t.text) told ++ (bytes ++ 10 ∷ rest)

-- the line is the first of the scripts that isn't checked
pub record IsFirstUnchecked (scripts : List (List ℕ)) (line : ScriptLine) : Type 0 where
  pub earlier : List ScriptLine
  pub later : List ScriptLine
  pub lines : lines_of_scripts 0 scripts ≡ earlier ++ line ∷ later
  pub checked : AllByRecursion (λ l. is_unchecked l ≡ false) earlier
  pub unchecked : is_unchecked line ≡ true

-- the transcript isn't checked, because of this line: the first of the scripts that isn't checked, else that of the
-- first answer of want of memory
pub data IsNotChecked (scripts : List (List ℕ)) (transcript : List ℕ) (line : ScriptLine) : Type 0 where
  by_script : IsFirstUnchecked scripts line → IsNotChecked scripts transcript line
  by_memory : AreChecked scripts → IsCutOff scripts transcript line → IsNotChecked scripts transcript line
