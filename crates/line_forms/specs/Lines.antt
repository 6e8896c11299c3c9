-- Which command a line is.
use Rattle.std.specs.Prelude.{ℕ, List, [], ◌∷◌, codes, Option, Some, None, Result, Err, count_by, ◌==◌, if◌then◌else◌}
use Rattle.serde_json.specs.Data.{Data}
use Rattle.json_forms.specs.Bytes.{data_of}
use Rattle.line_forms.specs.Form.{Form, committing, aborting}
use Rattle.line_parts.specs.Parts.{has}
use Rattle.line_forms.specs.Small.{open_form, begin_form, word_form, resize_form, resolve_form}
use Rattle.line_forms.specs.Reads.{read_form, write_form}
use Rattle.line_forms.specs.Views.{view_form}
use Rattle.line_parts.specs.declared.error.LineError.{LineError}
use Rattle.line_parts.specs.declared.error.LineError.TheVariants.{NotJson, NotCommand}

-- the members that name a command
abbrev pub command_names : List (List ℕ)
command_names =
    codes "open" ∷ codes "view" ∷ codes "read" ∷ codes "write"
    ∷ codes "begin" ∷ codes "commit" ∷ codes "abort" ∷ codes "resize" ∷ codes "resolve" ∷ []

-- how many of them an object has
abbrev pub command_count : Data → ℕ
command_count d = count_by (λ name. has name d) command_names

-- one of the commands without steps
unfoldable pub small_form : Data → Result Form LineError
small_form d =
    if has (codes "begin") d then begin_form d
    else (if has (codes "commit") d then word_form (codes "commit") committing d
    else (if has (codes "abort") d then word_form (codes "abort") aborting d
    else (if has (codes "resize") d then resize_form d
    else resolve_form d)))

-- one of those that open nothing
unfoldable pub other_form : Data → Result Form LineError
other_form d =
    if has (codes "view") d then view_form d
    else (if has (codes "read") d then read_form d
    else (if has (codes "write") d then write_form d
    else small_form d))

-- the command of an object that has one of these members
unfoldable pub command_in : List (List ℕ) → Data → Result Form LineError
command_in names d = if has (codes "open") d then open_form names d else other_form d

-- the command that a value is
abbrev pub command_of_data : List (List ℕ) → Data → Result Form LineError
command_of_data names d = if command_count d == 1 then command_in names d else Err NotCommand

-- the same, where there may be no JSON
abbrev pub command_of_found : List (List ℕ) → Option Data → Result Form LineError
command_of_found names None = Err NotJson
command_of_found names (Some d) = command_of_data names d

-- the command that the bytes of a line are, where these are the names of mounts, or the first cause why they are none
abbrev pub command_of_line : List (List ℕ) → List ℕ → Result Form LineError
command_of_line names bytes = command_of_found names (data_of bytes)
