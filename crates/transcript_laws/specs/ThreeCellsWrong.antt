-- Two wrong transcripts of three cells: by one the write was event 3, by the other the last cell was read as 4.
use Rattle.std.specs.Prelude.{ℕ, List, [], ◌∷◌, ◌++◌, codes}
use Rattle.serde_json.specs.Data.{Data}
use Rattle.json_forms.specs.Lists.{list_of}
use Rattle.json_forms.specs.Members.{object_of}
use Rattle.json_forms.specs.Numbers.{natural}
use Rattle.transcript_laws.specs.Transcript.{Told}
use Rattle.transcript_laws.specs.ThreeCells.{bytes_2, bytes_3, text_1, text_2, text_3}
use Rattle.transcript_laws.specs.ThreeCellsTold.{line, told}

-- the wrong lines, and the transcripts that have them
abbrev pub wrong_2 : List ℕ
wrong_2 = codes "{\"commit\":[3],\"line\":2,\"write\":3}"

abbrev pub wrong_3 : List ℕ
wrong_3 = codes "{\"line\":3,\"origin\":[0],\"values\":[1,2,4]}"

abbrev pub wrong_commit : List ℕ
wrong_commit = (text_1 ++ 10 ∷ []) ++ ((wrong_2 ++ 10 ∷ []) ++ ((text_3 ++ 10 ∷ []) ++ []))

abbrev pub wrong_value : List ℕ
wrong_value = (text_1 ++ 10 ∷ []) ++ ((text_2 ++ 10 ∷ []) ++ ((wrong_3 ++ 10 ∷ []) ++ []))

-- the objects that the wrong lines are
abbrev pub wrong_object_2 : Data
wrong_object_2 =
    object_of ((codes "commit", list_of (natural 3 ∷ [])) ∷ (codes "line", natural 2) ∷ (codes "write", natural 3) ∷ [])

abbrev pub wrong_object_3 : Data
wrong_object_3 = object_of ((codes "line", natural 3) ∷ (codes "origin", list_of (natural 0 ∷ []))
    ∷ (codes "values", list_of (natural 1 ∷ natural 2 ∷ natural 4 ∷ [])) ∷ [])

-- what is told by them
abbrev pub wrong_told_2 : Told
wrong_told_2 = told 2 bytes_2 wrong_2 wrong_object_2

abbrev pub wrong_told_3 : Told
wrong_told_3 = told 3 bytes_3 wrong_3 wrong_object_3
