-- A wrong transcript of three cells: its write names an event by a number past 64 bits, and its read shows no write.
use Rattle.std.specs.Prelude.{ℕ, List, [], ◌∷◌, ◌++◌, codes, pos}
use Rattle.std.specs.Float.{binary64}
use Rattle.std.specs.Float.Ieee.{of_int}
use Rattle.serde_json.specs.Data.{Data, number, float}
use Rattle.json_forms.specs.Lists.{list_of}
use Rattle.json_forms.specs.Members.{object_of}
use Rattle.json_forms.specs.Numbers.{natural}
use Rattle.transcript_laws.specs.Transcript.{Told}
use Rattle.transcript_laws.specs.ThreeCells.{bytes_2, bytes_3, text_1}
use Rattle.transcript_laws.specs.ThreeCellsTold.{told}

-- the lines of the write and of the read
abbrev pub text_2 : List ℕ
text_2 = codes "{\"commit\":[18446744073709551616],\"line\":2,\"write\":3}"

abbrev pub text_3 : List ℕ
text_3 = codes "{\"line\":3,\"origin\":[0],\"values\":[0,0,0]}"

abbrev pub transcript : List ℕ
transcript = (text_1 ++ 10 ∷ []) ++ ((text_2 ++ 10 ∷ []) ++ ((text_3 ++ 10 ∷ []) ++ []))

-- the objects that these are; the number is a float
abbrev pub object_2 : Data
object_2 = object_of ((codes "commit", list_of (number (float (of_int binary64 (pos 18446744073709551616))) ∷ []))
    ∷ (codes "line", natural 2) ∷ (codes "write", natural 3) ∷ [])

abbrev pub object_3 : Data
object_3 = object_of ((codes "line", natural 3) ∷ (codes "origin", list_of (natural 0 ∷ []))
    ∷ (codes "values", list_of (natural 0 ∷ natural 0 ∷ natural 0 ∷ [])) ∷ [])

-- what is told by them
abbrev pub told_2 : Told
told_2 = told 2 bytes_2 text_2 object_2

abbrev pub told_3 : Told
told_3 = told 3 bytes_3 text_3 object_3
