-- A transcript of bytes: a script opens an array of three cells in chunks of two, writes it and reads it back.
use Rattle.std.specs.Prelude.{ℕ, List, [], ◌∷◌, ◌++◌, codes}

-- the script's lines
abbrev pub bytes_1 : List ℕ
bytes_1 =
    codes "{\"open\":\"a\",\"spec\":{\"driver\":\"zarr\",\"kvstore\":{\"driver\":\"memory\",\"path\":\"a\"},"
    ++ codes "\"metadata\":{\"chunks\":[2],\"dtype\":\"<i4\",\"shape\":[3]},\"create\":true}}"

abbrev pub bytes_2 : List ℕ
bytes_2 = codes "{\"write\":\"a\",\"values\":[1,2,3]}"

abbrev pub bytes_3 : List ℕ
bytes_3 = codes "{\"read\":\"a\"}"

-- one script
abbrev pub scripts : List (List ℕ)
scripts = (bytes_1 ++ 10 ∷ bytes_2 ++ 10 ∷ bytes_3 ++ 10 ∷ []) ∷ []

-- the lines of its transcript, without their LFs; the last shows this text for the last cell
abbrev pub text_1 : List ℕ
text_1 =
    codes "{\"domain\":{\"exclusive_max\":[[3]],\"inclusive_min\":[0]},\"dtype\":\"int32\","
    ++ codes "\"events\":[1],\"line\":1,\"open\":\"a\"}"

abbrev pub text_2 : List ℕ
text_2 = codes "{\"commit\":[2],\"line\":2,\"write\":3}"

abbrev pub text_3 : List ℕ
text_3 = codes "{\"line\":3,\"origin\":[0],\"values\":[1,2,3]}"

-- the transcript
abbrev pub transcript : List ℕ
transcript = (text_1 ++ 10 ∷ []) ++ ((text_2 ++ 10 ∷ []) ++ ((text_3 ++ 10 ∷ []) ++ []))
