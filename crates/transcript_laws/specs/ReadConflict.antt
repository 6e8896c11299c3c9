-- A transcript of two sessions: the first reads an array under repeatable read, the second writes it, and the first has
-- a conflict.
use Rattle.std.specs.Prelude.{ℕ, List, [], ◌∷◌, ◌++◌, codes, true}

-- the first script's lines
abbrev pub bytes_1 : List ℕ
bytes_1 =
    codes "{\"open\":\"a\",\"spec\":{\"driver\":\"zarr\",\"kvstore\":{\"driver\":\"memory\",\"path\":\"a\"},"
    ++ codes "\"metadata\":{\"chunks\":[2],\"dtype\":\"<i4\",\"shape\":[2]},\"create\":true}}"

abbrev pub bytes_2 : List ℕ
bytes_2 = codes "{\"begin\":{\"repeatable_read\":true}}"

abbrev pub bytes_3 : List ℕ
bytes_3 = codes "{\"read\":\"a\"}"

abbrev pub bytes_4 : List ℕ
bytes_4 = codes "{\"commit\":true}"

-- the second's
abbrev pub bytes_5 : List ℕ
bytes_5 = codes "{\"open\":\"a\",\"spec\":{\"driver\":\"zarr\",\"kvstore\":{\"driver\":\"memory\",\"path\":\"a\"}}}"

abbrev pub bytes_6 : List ℕ
bytes_6 = codes "{\"write\":\"a\",\"values\":[0,6]}"

abbrev pub scripts : List (List ℕ)
scripts =
    (bytes_1 ++ 10 ∷ bytes_2 ++ 10 ∷ bytes_3 ++ 10 ∷ bytes_4 ++ 10 ∷ [])
    ∷ (bytes_5 ++ 10 ∷ bytes_6 ++ 10 ∷ []) ∷ []

-- the lines of the transcript without their LFs
abbrev pub text_1 : List ℕ
text_1 =
    codes "{\"domain\":{\"exclusive_max\":[[2]],\"inclusive_min\":[0]},\"dtype\":\"int32\","
    ++ codes "\"events\":[1],\"line\":1,\"open\":\"a\"}"

abbrev pub text_2 : List ℕ
text_2 = codes "{\"begin\":true,\"line\":2}"

abbrev pub text_3 : List ℕ
text_3 = codes "{\"line\":3,\"origin\":[0],\"values\":[0,0]}"

abbrev pub text_4 : List ℕ
text_4 = codes "{\"conflict\":{\"key\":\"memory/a/0\",\"now\":2,\"read\":1},\"line\":4}"

abbrev pub text_5 : List ℕ
text_5 =
    codes "{\"domain\":{\"exclusive_max\":[[2]],\"inclusive_min\":[0]},\"dtype\":\"int32\","
    ++ codes "\"events\":[],\"line\":1,\"open\":\"a\"}"

abbrev pub text_6 : List ℕ
text_6 = codes "{\"commit\":[2],\"line\":2,\"write\":2}"

-- three wrong ones: what came between is said to be event 1; nothing came between what was read and event 2; and
-- nothing was read before event 1, the first session's own opening
abbrev pub late_4 : List ℕ
late_4 = codes "{\"conflict\":{\"key\":\"memory/a/0\",\"now\":1,\"read\":1},\"line\":4}"

abbrev pub same_4 : List ℕ
same_4 = codes "{\"conflict\":{\"key\":\"memory/a/0\",\"now\":2,\"read\":2},\"line\":4}"

abbrev pub own_4 : List ℕ
own_4 = codes "{\"conflict\":{\"key\":\"memory/a/0\",\"now\":1,\"read\":0},\"line\":4}"

-- the transcript with this text for the conflict
abbrev pub transcript_of : List ℕ → List ℕ
transcript_of text =
    (text_1 ++ 10 ∷ []) ++ ((text_2 ++ 10 ∷ []) ++ ((text_3 ++ 10 ∷ []) ++ ((text ++ 10 ∷ [])
    ++ ((text_5 ++ 10 ∷ []) ++ ((text_6 ++ 10 ∷ []) ++ [])))))
