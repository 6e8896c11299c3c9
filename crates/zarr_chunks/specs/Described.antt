-- Which metadata bytes are.
use Rattle.std.specs.Prelude.{◌≡◌, ◌⊎◌, ℕ, pos, List, [], ◌∷◌, Bool, false, map, codes, Option, Some, None, option_and_then}
use Rattle.chunk_elements.specs.Bytes.{byte_count}
use Rattle.chunk_elements.specs.Numbers.{number_of}
use Rattle.chunk_elements.specs.declared.Dtype.{Dtype}
use Rattle.serde_json.specs.Data.{Data, null, string}
use Rattle.serde_json.specs.Find.{get}
use Rattle.meta_forms.specs.Bytes.{data_of}
use Rattle.meta_forms.specs.Numbers.{natural, whole_number}
use Rattle.meta_forms.specs.Lists.{list_of}
use Rattle.zarr_chunks.specs.Key.{separator}
use Rattle.zarr_chunks.specs.Metadata.{Metadata, IsMetadata}
use Rattle.zarr_chunks.specs.Written.{type_name, byte_order, order_text}

-- the text names the type and the byte order; where an element is one byte, each of "|", "<" and ">" does
pub record NamesType (text : List ℕ) (dtype : Dtype) (big : Bool) : Type 0 where
  pub mark : ℕ
  pub text_is : text ≡ mark ∷ type_name dtype
  pub mark_is : (mark ≡ byte_order dtype big) ⊎ ((byte_count dtype ≡ 1) × ((mark ≡ 60) ⊎ (mark ≡ 62)))

-- the member is null, or the whole number of the fill
abbrev pub IsFillMember : Option Data → Dtype → Option ℕ → Type 0
IsFillMember member dtype None = member ≡ Some null
IsFillMember member dtype (Some word) = option_and_then whole_number member ≡ Some (number_of dtype word)

-- the data describes the array, whatever further members it has
pub record Describes (d : Data) (m : Metadata) : Type 0 where
  pub format : option_and_then whole_number (get (codes "zarr_format") d) ≡ Some (pos 2)
  pub shape : get (codes "shape") d ≡ Some (list_of (map natural m.shape))
  pub chunks : get (codes "chunks") d ≡ Some (list_of (map natural m.chunks))
  pub dtype : (text : List ℕ) × (get (codes "dtype") d ≡ Some (string text)) × NamesType text m.dtype m.big
  pub compressor : get (codes "compressor") d ≡ Some null
  pub fill : IsFillMember (get (codes "fill_value") d) m.dtype m.fill
  pub order : get (codes "order") d ≡ Some (string (order_text m.order))
  pub filters : (get (codes "filters") d ≡ Some null) ⊎ (get (codes "filters") d ≡ Some (list_of []))
  pub between : (get (codes "dimension_separator") d ≡ Some (string (separator m.slash ∷ [])))
      ⊎ ((get (codes "dimension_separator") d ≡ None) × (m.slash ≡ false))

-- the bytes are JSON that describes the array, and the rules of metadata hold
pub record SpellsMetadata (m : Metadata) (bytes : List ℕ) : Type 0 where
  pub rules : IsMetadata m
  pub described : (d : Data) × (data_of bytes ≡ Some d) × Describes d m
