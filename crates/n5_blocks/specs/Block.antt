-- The grammar of a block's bytes.
use Rattle.std.specs.Prelude.{◌≡◌, ℕ, ◌-◌, ◌*◌, ◌<◌, ◌++◌, min, true, List, [], ◌∷◌, length, slice_index}
use Rattle.std.specs.List.{flat_map}
use Rattle.chunk_elements.specs.Numbers.{IsWord}
use Rattle.chunk_elements.specs.Bytes.{byte_count, word_bytes}
pub use Rattle.chunk_elements.specs.Elements.{element_bytes, word_at}
use Rattle.chunk_elements.specs.Places.{cell_count, IsInside, f_place}
pub use Rattle.chunk_elements.specs.Blocks.{AreWithin}
use Rattle.chunk_elements.specs.declared.Dtype.{Dtype}
use Rattle.chunk_elements.specs.declared.Dtype.TheVariants.{U16, U32}
use Rattle.n5_blocks.specs.Metadata.{Metadata}

-- the header of a block of these sizes: mode 0 and the number of dimensions in two bytes each, then each size in four,
-- the highest byte first
abbrev pub header : List ℕ → List ℕ
header sizes = word_bytes U16 true 0 ++ word_bytes U16 true (length sizes) ++ flat_map (word_bytes U32 true) sizes

-- the bytes are one element for each cell of these sizes and nothing else: the first index runs fastest, and the highest
-- byte of an element stands first
pub record AreElements (dtype : Dtype) (sizes bytes : List ℕ) (word : List ℕ → ℕ) : Type 0 where
  pub count : length bytes ≡ cell_count sizes * byte_count dtype
  pub elements : (index : List ℕ) → IsInside sizes index
      → element_bytes (byte_count dtype) bytes (f_place sizes index) ≡ word_bytes dtype true (word index)
  pub are_words : (index : List ℕ) → IsInside sizes index → IsWord dtype (word index)

-- the bytes store cells of these sizes, a header and elements, and give each index vector of the block its word; a cell
-- that isn't stored has 0
pub record StoresCells (m : Metadata) (sizes bytes : List ℕ) (word : List ℕ → ℕ) : Type 0 where
  pub within : AreWithin m.block sizes
  pub parts : (elements : List ℕ) × (bytes ≡ header sizes ++ elements) × AreElements m.dtype sizes elements word
  pub lacking : (index : List ℕ) → IsInside m.block index → ¬ IsInside sizes index → word index ≡ 0

-- the bytes are a block of the array, of some stored sizes, in which each index vector has this word
pub record SpellsBlock (m : Metadata) (bytes : List ℕ) (word : List ℕ → ℕ) : Type 0 where
  pub stored : (sizes : List ℕ) × StoresCells m sizes bytes word

-- the sizes of a block as far as the array reaches, whose block index this is
abbrev pub cut_sizes : List ℕ → List ℕ → List ℕ → List ℕ
cut_sizes (n ∷ block) (s ∷ dimensions) (c ∷ index) = min n (s - c * n) ∷ cut_sizes block dimensions index
cut_sizes block dimensions index = []

-- the bytes are what is written for the block of this index: it reaches only as far as the array
abbrev pub WritesBlock : Metadata → List ℕ → List ℕ → (List ℕ → ℕ) → Type 0
WritesBlock m index bytes word = StoresCells m (cut_sizes m.block m.dimensions index) bytes word

-- the block of this index has a cell inside the array: its first one
pub record IsReached (m : Metadata) (index : List ℕ) : Type 0 where
  pub rank : length index ≡ length m.dimensions
  pub inside : (k : ℕ) → k < length m.dimensions → slice_index index k * slice_index m.block k < slice_index m.dimensions k

-- each cell of the block that lies outside the array has 0
abbrev pub IsZeroOutside : Metadata → List ℕ → (List ℕ → ℕ) → Type 0
IsZeroOutside m index word = (cell : List ℕ) → IsInside m.block cell → ¬ IsInside (cut_sizes m.block m.dimensions index) cell → word cell ≡ 0
