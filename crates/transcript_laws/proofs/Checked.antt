-- What lines ask for that are checked.
use Rattle.std.proofs.Common.{◌≡◌, ℕ, ◌+◌, List, [], ◌∷◌, ◌++◌, map, Bool, true, false, cond, Option, Some, None, Result, Ok, Err, refl}
use Rattle.std.specs.List.{AllByRecursion}
use Rattle.line_meanings.specs.Form.{Form}
use Rattle.line_meanings.specs.Form as form
use Rattle.line_meanings.specs.Lines.{command_of_line}
use Rattle.line_meanings.specs.declared.LineError.{LineError}
use Rattle.line_meanings.specs.Refusals.{form_error}
use Rattle.line_meanings.specs.Meanings.{line_of, line_in, line_of_bytes, refused_by, asked_line}
use Rattle.script_lines.specs.Script.{lines_of, is_blank}
use Rattle.stack_driver.specs.Views.{look_of}
use Rattle.stack_driver.specs.declared.view.View.{View}
use Rattle.history.specs.Acts.{Act, Asked, opens, binds, reads, stages, writes, begins, commits, aborts, resizes, resolves, outside, inside, changed, write_act, read_of, write_of, act_of}
use Rattle.history.specs.Commit.{Transaction}
use Rattle.history.specs.Lines.{FormError, Line, refused, opening, viewing, joining, reading, writing, beginning, committing, aborting, resizing, resolving}
use Rattle.history.specs.Sessions.{Names}
use Rattle.history.specs.Viewing.{shape_of, view_fault, cell_fault}
use Rattle.history.proofs.Asking.{IsAskedBy, named_by, changes_by, without_by, values_by}
use Rattle.serial_runs.specs.Runs.{Script}
use Rattle.transcript_laws.specs.Transcript.{mount, ScriptLine, lines_from, lines_of_scripts}
use Rattle.transcript_laws.specs.Unchecked.{is_unchecked_form, is_unchecked_in, is_unchecked, AreChecked}
use Rattle.transcript_laws.specs.Outputs.{scripts_of}

-- a line that is checked: no resize, resolve, downsampled read or join
abbrev pub IsCheckedLine : Line → Type 0
IsCheckedLine (refused error) = Unit {0}
IsCheckedLine (opening name leaves build) = Unit {0}
IsCheckedLine (viewing name of changes) = Unit {0}
IsCheckedLine (joining name of join changes) = ⊥
IsCheckedLine (reading name changes down) = down ≡ None
IsCheckedLine (writing name changes values) = Unit {0}
IsCheckedLine (beginning mode) = Unit {0}
IsCheckedLine committing = Unit {0}
IsCheckedLine aborting = Unit {0}
IsCheckedLine (resizing name shape) = ⊥
IsCheckedLine (resolving name) = ⊥

-- so is each line that isn't blank
abbrev pub IsChecked : Option Line → Type 0
IsChecked None = Unit {0}
IsChecked (Some line) = IsCheckedLine line

abbrev pub AreCheckedLines : Script → Type 0
AreCheckedLines script = AllByRecursion IsChecked script

-- what such a line does
abbrev pub IsCheckedAct : Act → Type 0
IsCheckedAct (opens name leaves build) = Unit {0}
IsCheckedAct (binds name view) = Unit {0}
IsCheckedAct (reads view down) = down ≡ None
IsCheckedAct (stages t view words) = Unit {0}
IsCheckedAct (writes view words) = Unit {0}
IsCheckedAct (begins mode) = Unit {0}
IsCheckedAct (commits t) = Unit {0}
IsCheckedAct aborts = Unit {0}
IsCheckedAct (resizes array shape) = ⊥
IsCheckedAct (resolves name view array) = ⊥

form_checked : (f : Form) → is_unchecked_form f ≡ false → IsCheckedLine (line_of f)
form_checked (form.opening name plan) is = tt
form_checked (form.viewing name of transform steps) is = tt
form_checked (form.joining name kind layers transform steps) is = absurd (cc)
form_checked (form.reading name steps None) is = refl
form_checked (form.reading name steps (Some down)) is = absurd (cc)
form_checked (form.writing name steps values) is = tt
form_checked (form.beginning atomic repeatable_read) is = tt
form_checked form.committing is = tt
form_checked form.aborting is = tt
form_checked (form.resizing name shape) is = absurd (cc)
form_checked (form.resolving name) is = absurd (cc)

refused_checked : (fault : Option FormError) → IsCheckedLine (refused_by fault)
refused_checked None = tt
refused_checked (Some f) = tt

-- what has the form of a checked command, or none, asks for what is checked
pub in_checked : (r : Result Form LineError) → is_unchecked_in r ≡ false → IsCheckedLine (line_in r)
in_checked (Ok f) is = form_checked f is
in_checked (Err e) is = refused_checked (form_error e)

line_checked : (session n : ℕ) (bytes : List ℕ) → is_unchecked (record { session = session; number = n; bytes = bytes }) ≡ false → IsCheckedLine (line_of_bytes (mount ∷ []) bytes)
line_checked session n bytes is = in_checked (command_of_line (mount ∷ []) bytes) is

abbrev AreAllChecked : List ScriptLine → Type 0
AreAllChecked lines = AllByRecursion (λ line. is_unchecked line ≡ false) lines

front : (lines more : List ScriptLine) → AreAllChecked (lines ++ more) → AreAllChecked lines
front [] more are = tt
front (line ∷ lines) more are = (are.0, front lines more are.1)

back : (lines more : List ScriptLine) → AreAllChecked (lines ++ more) → AreAllChecked more
back [] more are = are
back (line ∷ lines) more are = back lines more are.1

by_blank : (session n : ℕ) (bytes : List ℕ) (rest : List ScriptLine) (lines : Script) (blank : Bool) → (AreAllChecked rest → AreCheckedLines lines)
    → AreAllChecked (cond blank rest (record { session = session; number = n; bytes = bytes } ∷ rest)) → AreCheckedLines (cond blank None (Some (line_of_bytes (mount ∷ []) bytes)) ∷ lines)
by_blank session n bytes rest lines true more are = (tt, more are)
by_blank session n bytes rest lines false more are = (line_checked session n bytes are.0, more are.1)

lines_checked : (session n : ℕ) (lines : List (List ℕ)) → AreAllChecked (lines_from session n lines) → AreCheckedLines (map (asked_line (mount ∷ [])) lines)
lines_checked session n [] are = tt
lines_checked session n (bytes ∷ lines) are = by_blank session n bytes (lines_from session (n + 1) lines) (map (asked_line (mount ∷ [])) lines) (is_blank bytes) (lines_checked session (n + 1) lines) are

scripts_checked : (session : ℕ) (scripts : List (List ℕ)) → AreAllChecked (lines_of_scripts session scripts) → AllByRecursion AreCheckedLines (scripts_of scripts)
scripts_checked session [] are = tt
scripts_checked session (script ∷ scripts) are = (
  lines_checked session 1 (lines_of script) (front (lines_from session 1 (lines_of script)) (lines_of_scripts (session + 1) scripts) are),
  scripts_checked (session + 1) scripts (back (lines_from session 1 (lines_of script)) (lines_of_scripts (session + 1) scripts) are),
)

-- each script's lines are checked
pub all_checked : (scripts : List (List ℕ)) → AreChecked scripts → AllByRecursion AreCheckedLines (scripts_of scripts)
all_checked scripts are = scripts_checked 0 scripts are

outside_checked : (t : Option Transaction) (asked : Asked) → IsAskedBy IsCheckedAct asked → IsAskedBy IsCheckedAct (outside t asked)
outside_checked None asked is = is
outside_checked (Some u) asked is = tt

inside_checked : (t : Option Transaction) (act : Transaction → Act) → ((u : Transaction) → IsCheckedAct (act u)) → IsAskedBy IsCheckedAct (inside t act)
inside_checked None act is = tt
inside_checked (Some u) act is = is u

write_checked : (t : Option Transaction) (v : View) (words : List ℕ) → IsCheckedAct (write_act t v words)
write_checked None v words = tt
write_checked (Some u) v words = tt

-- what a line that is checked does
pub act_checked : (names : Names) (t : Option Transaction) (line : Line) → IsCheckedLine line → IsAskedBy IsCheckedAct (act_of names t line)
act_checked names t (refused error) is = tt
act_checked names t (opening name leaves build) is = outside_checked t (Ok (opens name leaves build)) tt
act_checked names t (viewing name of changes) is = named_by IsCheckedAct of (names of) _ (λ v there. changes_by IsCheckedAct (changed (Ok v) changes) _ (λ made of_these. tt))
act_checked names t (joining name of join changes) is = absurd is
act_checked names t (reading name changes None) is =
    named_by IsCheckedAct name (names name) _
    (λ v there. changes_by IsCheckedAct (changed (Ok v) changes) (read_of None)
    (λ w of_these. without_by IsCheckedAct (view_fault w) _ (λ fits. without_by IsCheckedAct (cell_fault w) (Ok (reads w None)) (λ found. refl))))
act_checked names t (reading name changes (Some down)) is = absurd (cc)
act_checked names t (writing name changes values) is =
    named_by IsCheckedAct name (names name) _
    (λ v there. changes_by IsCheckedAct (changed (Ok v) changes) (write_of t values)
    (λ w of_these. without_by IsCheckedAct (view_fault w) _ (λ fits. values_by IsCheckedAct (values (look_of w).dtype (shape_of w)) _ (λ words given. without_by IsCheckedAct (cell_fault w) (Ok (write_act t w words)) (λ found. write_checked t w words)))))
act_checked names t (beginning mode) is = outside_checked t (Ok (begins mode)) tt
act_checked names t committing is = inside_checked t commits (λ u. tt)
act_checked names t aborting is = inside_checked t (λ u. aborts) (λ u. tt)
act_checked names t (resizing name shape) is = absurd is
act_checked names t (resolving name) is = absurd is
