-- What a line means to the history.
use Rattle.std.specs.Prelude.{ℕ, List, [], map, Option, Some, None, Result, Ok, Err, if◌then◌else◌}
use Rattle.line_answers.specs.Lines.{FormError, bad_line, Line}
use Rattle.line_answers.specs.Lines as history
use Rattle.line_answers.specs.Refusals.{form_error}
use Rattle.line_forms.specs.Form.{Form, opening, viewing, joining, reading, writing, beginning, committing, aborting, resizing, resolving}
use Rattle.line_forms.specs.Lines.{command_of_line}
use Rattle.line_forms.specs.declared.LineError.{LineError}
use Rattle.script_lines.specs.Script.{lines_of, is_blank}
use Rattle.line_meanings.specs.Changes.{changes_of}
use Rattle.line_meanings.specs.Openings.{leaves_of, build_of}
use Rattle.line_meanings.specs.Joins.{join_of}
use Rattle.line_meanings.specs.Numbers.{values_of, downsampling_of}

-- what a command asks, in the history's words
abbrev pub line_of : Form → Line
line_of (opening name plan) = history.opening name (leaves_of plan) (build_of plan)
line_of (viewing name of transform steps) = history.viewing name of (changes_of transform steps)
line_of (joining name kind layers transform steps) = history.joining name layers (join_of kind) (changes_of transform steps)
line_of (reading name steps down) = history.reading name (changes_of None steps) (downsampling_of down)
line_of (writing name steps values) = history.writing name (changes_of None steps) (values_of values)
line_of (beginning atomic repeatable_read) = history.beginning (record { atomic = atomic; repeatable_read = repeatable_read })
line_of committing = history.committing
line_of aborting = history.aborting
line_of (resizing name shape) = history.resizing name shape
line_of (resolving name) = history.resolving name

-- a line without the form of a command; want of memory is no such fault
abbrev pub refused_by : Option FormError → Line
refused_by (Some fault) = history.refused fault
refused_by None = history.refused (bad_line [])

abbrev pub line_in : Result Form LineError → Line
line_in (Ok form) = line_of form
line_in (Err e) = refused_by (form_error e)

-- what the bytes of a line mean, where these are the names of mounts
abbrev pub line_of_bytes : List (List ℕ) → List ℕ → Line
line_of_bytes names bytes = line_in (command_of_line names bytes)

-- what a line of a script asks, where these are the names of mounts: nothing where it is blank
abbrev pub asked_line : List (List ℕ) → List ℕ → Option Line
asked_line names line = if is_blank line then None else Some (line_of_bytes names line)

-- what a script asks, line by line
abbrev pub asked_by : List (List ℕ) → List ℕ → List (Option Line)
asked_by names script = map (asked_line names) (lines_of script)
