-- The nine scripts that are made from a number. Each line is compact JSON with its members in byte order, and an LF.
use Rattle.std.specs.Prelude.{ℕ, ◌+◌, ◌*◌, ◌%◌, List, ◌++◌, codes, decimal, map, nat_lt, if◌then◌else◌}
use Rattle.std.specs.List.{range_with_len}
use Rattle.made_scripts.specs.Texts.{parts, list_of}

-- the number for the cell at this place of an array
abbrev pub number_at : ℕ → ℕ → ℕ
number_at number place = (number + 31 * place) % 1000 + number % 100

-- the numbers for 1000 cells, from a place on
unfoldable pub row_text : ℕ → ℕ → List ℕ
row_text number from = list_of 1000 (λ k. decimal (number_at number (from + k)))

-- the numbers for every fourth row of an array of 1000 columns, 25 rows from one on
unfoldable pub rows_text : ℕ → ℕ → List ℕ
rows_text number first = list_of 25 (λ k. row_text number (1000 * (first + 4 * k)))

-- makes the array of 1000 by 1000 cells, or opens it where it is there
abbrev pub open_shared : List ℕ
open_shared = codes "{\"open\":\"m\",\"spec\":{\"create\":true,\"driver\":\"zarr\",\"kvstore\":{\"driver\":\"memory\",\"path\":\"made\"},\"metadata\":{\"chunks\":[100,100],\"dtype\":\"<i4\",\"shape\":[1000,1000]},\"open\":true}}\n"

abbrev pub begin : List ℕ
begin = codes "{\"begin\":{}}\n"

abbrev pub begin_repeatable : List ℕ
begin_repeatable = codes "{\"begin\":{\"repeatable_read\":true}}\n"

abbrev pub commit : List ℕ
commit = codes "{\"commit\":true}\n"

-- writes every fourth row among 100, from this one on
unfoldable pub write_rows : ℕ → ℕ → ℕ → List ℕ
write_rows number first end =
    (codes "{\"steps\":[{\"dims\":[0],\"slice\":{\"start\":" ++ decimal first ++ codes ",\"step\":4,\"stop\":")
    ++ (codes "" ++ decimal end ++ codes "}}],\"values\":")
    ++ rows_text number first
    ++ codes ",\"write\":\"m\"}\n"

-- the part of a session that writes every fourth row: those of 100 rows in a transaction of its own
unfoldable pub write_block : ℕ → ℕ → ℕ → List ℕ
write_block number session block = begin ++ write_rows number (100 * block + session) (100 * block + 100) ++ commit

-- the script of a session that writes every fourth row of the shared array
unfoldable pub shared_script : ℕ → ℕ → List ℕ
shared_script number session = open_shared ++ parts 10 (write_block number session)

-- makes an array of 1000 cells that is the session's own
unfoldable pub open_own : ℕ → List ℕ
open_own session =
    codes "{\"open\":\"o\",\"spec\":{\"create\":true,\"driver\":\"zarr\",\"kvstore\":{\"driver\":\"memory\",\"path\":\"own" ++ decimal session
    ++ codes "\"},\"metadata\":{\"chunks\":[100],\"dtype\":\"<i4\",\"shape\":[1000]}}}\n"

-- writes all of it
unfoldable pub write_own : ℕ → List ℕ
write_own number = codes "{\"values\":" ++ row_text number 0 ++ codes ",\"write\":\"o\"}\n"

-- reads 100 of its cells
unfoldable pub read_part : ℕ → List ℕ
read_part block =
    (codes "{\"read\":\"o\",\"steps\":[{\"slice\":{\"start\":" ++ decimal (100 * block) ++ codes ",\"stop\":")
    ++ (codes "" ++ decimal (100 * block + 100) ++ codes "}}]}\n")

-- writes one number to these
unfoldable pub write_part : ℕ → List ℕ
write_part block =
    (codes "{\"steps\":[{\"slice\":{\"start\":" ++ decimal (100 * block) ++ codes ",\"stop\":")
    ++ (codes "" ++ decimal (100 * block + 100) ++ codes "}}],\"values\":")
    ++ (codes "" ++ decimal block ++ codes ",\"write\":\"o\"}\n")

-- both in a transaction of their own
unfoldable pub own_block : ℕ → List ℕ
own_block block = begin_repeatable ++ read_part block ++ write_part block ++ commit

-- the script of a session with an array of its own
unfoldable pub own_script : ℕ → ℕ → List ℕ
own_script number session = open_own session ++ write_own number ++ parts 10 own_block

-- opens the array of an earlier session
unfoldable pub open_again : ℕ → List ℕ
open_again session =
    (codes "{\"open\":\"o" ++ decimal session ++ codes "\",\"spec\":{\"driver\":\"zarr\",\"kvstore\":{\"driver\":\"memory\",\"path\":\"own")
    ++ (codes "" ++ decimal session ++ codes "\"}}}\n")

unfoldable pub read_again : ℕ → List ℕ
read_again session = codes "{\"read\":\"o" ++ decimal session ++ codes "\"}\n"

-- opens the shared array as it is
abbrev pub open_made : List ℕ
open_made = codes "{\"open\":\"m\",\"spec\":{\"driver\":\"zarr\",\"kvstore\":{\"driver\":\"memory\",\"path\":\"made\"}}}\n"

abbrev pub read_made : List ℕ
read_made = codes "{\"read\":\"m\"}\n"

-- the script of the last session, which reads all arrays in one transaction
unfoldable pub reading_script : List ℕ
reading_script =
    open_made
    ++ parts 4 (λ k. open_again (4 + k))
    ++ begin_repeatable
    ++ read_made
    ++ parts 4 (λ k. read_again (4 + k))
    ++ commit

-- the script of a session: 0 to 3 write rows of one array, 4 to 7 have one each, and the last reads them all
abbrev pub script_of : ℕ → ℕ → List ℕ
script_of number session =
    if nat_lt session 4 then shared_script number session else (if nat_lt session 8 then own_script number session else reading_script)

-- the nine scripts
abbrev pub made : ℕ → List (List ℕ)
made number = map (script_of number) (range_with_len 0 9)
