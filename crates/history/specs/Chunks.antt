-- The chunks of arrays, their cells, and the keys under which the store holds them.
use Rattle.std.specs.Prelude.{◌≡◌, ◌≤◌, ℕ, ◌+◌, ◌*◌, ◌/◌, ◌%◌, ◌-◌, ◌^◌, List, [], ◌∷◌, ◌++◌, length, codes, decimal, Bool, ◌&&◌, ◌==◌, Option, Some, None}
use Rattle.std.specs.List.{AllByRecursion}
use Rattle.std.specs.Option.{option_map}
use Rattle.std.specs.Str.{bytes_eq}
use Rattle.stack_driver.specs.Targets.{Cell}
use Rattle.chunk_forms.specs.Names as names
use Rattle.history.specs.declared.array.ArrayInfo.{ArrayInfo}
use Rattle.history.specs.declared.array.Home.{Home}
use Rattle.history.specs.declared.array.Home.TheVariants.{Zarr, N5, Zarr3, Local}
use Rattle.history.specs.History.{History}
use Rattle.history.specs.Arrays.{Known, known_after, chunk_shape, form_of}

-- a chunk: an array's number, and the chunk's index in the grid of chunks
pub record Chunk : Type 0 where
  pub array : ℕ
  pub index : List ℕ

-- the two are one chunk of one array
abbrev pub is_chunk : Chunk → Chunk → Bool
is_chunk a b = a.array == b.array && bytes_eq a.index b.index

-- the chunk index of an index vector: along each dimension the index divided by the chunk's size
abbrev pub chunk_index : List ℕ → List ℕ → List ℕ
chunk_index (n ∷ chunk) (x ∷ index) = x / n ∷ chunk_index chunk index
chunk_index chunk index = []

-- the index vector within its chunk
abbrev pub within_chunk : List ℕ → List ℕ → List ℕ
within_chunk (n ∷ chunk) (x ∷ index) = x % n ∷ within_chunk chunk index
within_chunk chunk index = []

-- the index vector in the array of one within the chunk of this index
abbrev pub in_array : List ℕ → List ℕ → List ℕ → List ℕ
in_array (n ∷ chunk) (c ∷ place) (x ∷ index) = (c * n + x) ∷ in_array chunk place index
in_array chunk place index = []

-- the chunk of a cell of this array; where there is no array, its index has no dimension
abbrev pub chunk_in : Option Known → Cell → Chunk
chunk_in None x = record { array = x.array; index = [] }
chunk_in (Some k) x = record { array = x.array; index = chunk_index (chunk_shape k.info) x.index }

-- the chunk of a cell
abbrev pub chunk_of : History → Cell → Chunk
chunk_of events x = chunk_in (known_after events x.array) x

-- the cell of a chunk at an index vector within it, also past the array's shape
abbrev pub cell_at : Known → Chunk → List ℕ → Cell
cell_at k c index = record { array = c.array; index = in_array (chunk_shape k.info) c.index index }

-- each dimension of the chunk begins at a finite index
abbrev pub AreStarts : List ℕ → List ℕ → Type 0
AreStarts (n ∷ chunk) (c ∷ index) = (c * n ≤ 2 ^ 62 - 2) × AreStarts chunk index
AreStarts chunk index = Unit {0}

-- a local array has one chunk
abbrev pub IsWholeIfLocal : Home → List ℕ → Type 0
IsWholeIfLocal (Zarr mount path meta) index = Unit {0}
IsWholeIfLocal (N5 mount path meta) index = Unit {0}
IsWholeIfLocal (Zarr3 mount path meta) index = Unit {0}
IsWholeIfLocal (Local start) index = AllByRecursion (λ c. c ≡ 0) index

-- the index of a chunk of the array, also past its shape
pub record IsIndexOf (info : ArrayInfo) (index : List ℕ) : Type 0 where
  pub rank : length index ≡ length (chunk_shape info)
  pub starts : AreStarts (chunk_shape info) index
  pub whole : IsWholeIfLocal info.home index

-- what stands before the chunk's name in each key of the array: MOUNT/PATH/, or for a local array array/N/, N being the number
-- of the event that opened it
abbrev pub home_text : Home → ℕ → List ℕ
home_text (Zarr mount path meta) n = mount ++ 47 ∷ path ++ 47 ∷ []
home_text (N5 mount path meta) n = mount ++ 47 ∷ path ++ 47 ∷ []
home_text (Zarr3 mount path meta) n = mount ++ 47 ∷ path ++ 47 ∷ []
home_text (Local start) n = codes "array/" ++ decimal n ++ 47 ∷ []

-- the text with which each key of an array of the run begins
abbrev pub keys_text : Known → List ℕ
keys_text k = home_text k.info.home k.opened

-- the key of the array's metadata; a local array has none
abbrev pub metadata_key : Known → Option (List ℕ)
metadata_key k = option_map (λ name. keys_text k ++ name) (names.metadata_name (form_of k.info.home))

-- the key of the chunk with this index
abbrev pub chunk_key : Known → List ℕ → List ℕ
chunk_key k index = keys_text k ++ names.chunk_name (form_of k.info.home) index

-- the key of a chunk of this array, where there is one
abbrev pub key_in : Option Known → Chunk → Option (List ℕ)
key_in None c = None
key_in (Some k) c = Some (chunk_key k c.index)

-- the key of a chunk, where its array is in the history
abbrev pub key_of : History → Chunk → Option (List ℕ)
key_of events c = key_in (known_after events c.array) c
