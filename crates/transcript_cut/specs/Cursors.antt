-- The lines that are left of some scripts.
use Rattle.std.specs.Prelude.{ℕ, ◌+◌, List, ◌++◌, drop}
use Rattle.script_lines.specs.Script.{lines_of}
use Rattle.transcript_laws.specs.Transcript.{ScriptLine, lines_from, lines_of_scripts}
use Rattle.transcript_cut.specs.Spans.{script_of}

-- those of a session's script from a byte on, at which the line of this number begins, and those of the scripts behind it
abbrev pub lines_behind : List (List ℕ) → ℕ → ℕ → ℕ → List ScriptLine
lines_behind scripts session number from =
    lines_from session number (lines_of (drop from (script_of scripts session)))
    ++ lines_of_scripts (session + 1) (drop (session + 1) scripts)
