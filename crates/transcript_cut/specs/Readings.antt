-- What the bytes of JSON are read in, one after another.
use Rattle.std.specs.Prelude.{ℕ, ◌==◌, Option, Some, None, if◌then◌else◌}
use Rattle.transcript_laws.specs.AnswerLines as json
use Rattle.transcript_laws.specs.AnswerLines.{is_white}
use Rattle.transcript_cut.specs.declared.compact.Reading.{Reading}
use Rattle.transcript_cut.specs.declared.compact.Reading.TheVariants.{Outside, Inside, Escaped}

-- the same reading
abbrev pub reading_of : Reading → json.Reading
reading_of Outside = json.outside
reading_of Inside = json.inside
reading_of Escaped = json.escaped

-- what the byte behind this one is read in; none behind white space outside of texts
abbrev pub reading_after : Reading → ℕ → Option Reading
reading_after Outside b = if is_white b then None else (if b == 34 then Some Inside else Some Outside)
reading_after Inside b = if b == 92 then Some Escaped else (if b == 34 then Some Outside else Some Inside)
reading_after Escaped b = Some Inside
