-- The names of chunks, read back.
use Rattle.std.specs.Prelude.{◌≡◌, ◌≤◌, ℕ, ◌*◌, ◌-◌, ◌^◌, List, [], ◌∷◌, ◌++◌, length, codes, decimal, Bool, false, ◌==◌, ◌||◌}
use Rattle.std.specs.List.{AllByRecursion, flat_map}
use Rattle.zarr_chunks.specs.Key as zarr
use Rattle.zarr3_chunks.specs.Key as zarr3
use Rattle.history.specs.Names.{chunk_name}
use Rattle.history.specs.declared.array.ArrayInfo.{ArrayInfo}
use Rattle.history.specs.declared.array.Home.{Home}
use Rattle.history.specs.declared.array.Home.TheVariants.{Zarr, N5, Zarr3, Local}
use Rattle.history.specs.Arrays.{form_of}
use Rattle.history.specs.Chunks.{AreStarts, IsIndexOf}

-- the text is the name of a chunk of the array, also past its shape
abbrev pub IsChunkName : ArrayInfo → List ℕ → Type 0
IsChunkName info name = (index : List ℕ) × IsIndexOf info index × (chunk_name (form_of info.home) index ≡ name)

-- the key of the one chunk of the local array that the event of this number opened
abbrev pub local_key : ℕ → List ℕ
local_key n = codes "array/" ++ decimal n ++ 47 ∷ [] ++ codes "0"

-- the index has the rank of the array's chunks; a local array's one chunk has the same name at any rank
abbrev pub HasRank : Home → List ℕ → Type 0
HasRank (Zarr mount path meta) index = length index ≡ length meta.chunks
HasRank (N5 mount path meta) index = length index ≡ length meta.block
HasRank (Zarr3 mount path meta) index = length index ≡ length meta.chunks
HasRank (Local start) index = Unit {0}

-- the digits are those of an index at which a chunk of this size begins at a finite index
abbrev pub IsStart : ℕ → List ℕ → Type 0
IsStart size digits = (c : ℕ) × (c * size ≤ 2 ^ 62 - 2) × (decimal c ≡ digits)

-- a plus stands in front, or a zero before another digit
abbrev pub has_other_front : List ℕ → Bool
has_other_front [] = false
has_other_front (b ∷ []) = b == 43
has_other_front (b ∷ c ∷ digits) = b == 43 || b == 48

-- the text has the separator and such digits for each of the sizes
abbrev pub AreBehind : List ℕ → ℕ → List ℕ → Type 0
AreBehind sizes separator text =
    (index : List ℕ) × (length index ≡ length sizes) × AreStarts sizes index × (flat_map (λ i. separator ∷ decimal i) index ≡ text)

-- each size is at least 1
abbrev pub ArePositive : List ℕ → Type 0
ArePositive sizes = AllByRecursion (λ n. 1 ≤ n) sizes

-- the numbers in decimal with the separator between them, and "0" where there is none
abbrev pub joined : ℕ → List ℕ → List ℕ
joined separator [] = codes "0"
joined separator (i ∷ index) = decimal i ++ flat_map (λ j. separator ∷ decimal j) index

-- the text is such numbers, one for each size, at which chunks begin at finite indices
abbrev pub IsJoined : List ℕ → ℕ → List ℕ → Type 0
IsJoined sizes separator text = (index : List ℕ) × (length index ≡ length sizes) × AreStarts sizes index × (joined separator index ≡ text)

-- the text is "c" and behind it the separator and such digits for each size
abbrev pub IsEncoded : List ℕ → ℕ → List ℕ → Type 0
IsEncoded sizes separator text = (behind : List ℕ) × (99 ∷ behind ≡ text) × AreBehind sizes separator behind

-- the text is the name of a chunk, by the format
abbrev pub IsNameIn : Home → List ℕ → Type 0
IsNameIn (Zarr mount path meta) name = IsJoined meta.chunks (zarr.separator meta.slash) name
IsNameIn (N5 mount path meta) name = IsJoined meta.block 47 name
IsNameIn (Zarr3 mount path meta) name = IsEncoded meta.chunks (zarr3.separator meta.dot) name
IsNameIn (Local start) name = codes "0" ≡ name
