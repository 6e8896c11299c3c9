-- Bytes of a text, and lines of scripts by where they stand.
use Rattle.std.specs.Prelude.{◌<◌, ◌≤◌, ℕ, ◌-◌, List, [], take, drop, length}
use Rattle.std.specs.List.{slice_index_or}
use Rattle.transcript_laws.specs.Transcript.{ScriptLine}
use Rattle.transcript_cut.specs.declared.said.Span.{Span}
use Rattle.transcript_cut.specs.declared.said.AskedLine.{AskedLine}

-- the bytes from the first up to, and without, the last
abbrev pub bytes_at : Span → List ℕ → List ℕ
bytes_at span text = take (span.upto - span.from) (drop span.from text)

-- they lie in the text
pub record IsSpanOf (text : List ℕ) (span : Span) : Type 0 where
  pub order : span.from ≤ span.upto
  pub within : span.upto ≤ length text

-- the script of a session, which is empty where there is none
abbrev pub script_of : List (List ℕ) → ℕ → List ℕ
script_of scripts session = slice_index_or scripts session []

-- the line that stands there
abbrev pub line_at : List (List ℕ) → AskedLine → ScriptLine
line_at scripts line = record {
  session = line.session;
  number = line.number;
  bytes = bytes_at line.bytes (script_of scripts line.session);
}

-- a line stands there
pub record IsPlaced (scripts : List (List ℕ)) (line : AskedLine) : Type 0 where
  pub session : line.session < length scripts
  pub bytes : IsSpanOf (script_of scripts line.session) line.bytes
