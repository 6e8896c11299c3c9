-- Which metadata bytes are.
use Rattle.std.specs.Prelude.{◌≡◌, ◌⊎◌, ℕ, pos, List, [], ◌∷◌, Bool, true, false, map, codes, Some, None, is_some, option_and_then}
use Rattle.chunk_elements.specs.Bytes.{byte_count}
use Rattle.chunk_elements.specs.DtypeNames.{dtype_name}
use Rattle.chunk_elements.specs.Numbers.{number_of}
use Rattle.chunk_elements.specs.declared.Dtype.{Dtype}
use Rattle.serde_json.specs.Data.{Data, string, boolean}
use Rattle.serde_json.specs.Find.{get, as_object}
use Rattle.meta_forms.specs.Bytes.{data_of}
use Rattle.meta_forms.specs.Lists.{list_of}
use Rattle.meta_forms.specs.Members.{is_among}
use Rattle.meta_forms.specs.Numbers.{natural, whole_number}
use Rattle.zarr3_chunks.specs.Key.{separator}
use Rattle.zarr3_chunks.specs.Written.{endian}
use Rattle.zarr3_chunks.specs.Metadata.{Metadata, IsMetadata}

-- the members that say something of the array, or are passed over whatever they are
abbrev pub known_members : List (List ℕ)
known_members =
    codes "zarr_format" ∷ codes "node_type" ∷ codes "shape" ∷ codes "data_type" ∷ codes "chunk_grid" ∷ codes "chunk_key_encoding"
    ∷ codes "fill_value" ∷ codes "codecs" ∷ codes "storage_transformers" ∷ codes "attributes" ∷ codes "dimension_names" ∷ []

-- the data is an object without this member
pub record IsWithout (d : Data) (name : List ℕ) : Type 0 where
  pub is_object : is_some (as_object d) ≡ true
  pub lacks : get name d ≡ None

-- the grid is regular, of chunks of these sizes
pub record IsGrid (d : Data) (chunks : List ℕ) : Type 0 where
  pub name_is : get (codes "name") d ≡ Some (string (codes "regular"))
  pub sizes : (c : Data) × (get (codes "configuration") d ≡ Some c) × (get (codes "chunk_shape") c ≡ Some (list_of (map natural chunks)))

-- keys have this text between the indices; "/" need not be said
pub record EncodesKeys (d : Data) (dot : Bool) : Type 0 where
  pub name_is : get (codes "name") d ≡ Some (string (codes "default"))
  pub between :
      ((c : Data) × (get (codes "configuration") d ≡ Some c) × (get (codes "separator") c ≡ Some (string (separator dot ∷ []))))
      ⊎ ((c : Data) × (get (codes "configuration") d ≡ Some c) × IsWithout c (codes "separator") × (dot ≡ false))
      ⊎ ((get (codes "configuration") d ≡ None) × (dot ≡ false))

-- the bytes of an element stand in this order, which need not be said where it has one byte and makes no difference there
pub record EncodesBytes (d : Data) (dtype : Dtype) (big : Bool) : Type 0 where
  pub name_is : get (codes "name") d ≡ Some (string (codes "bytes"))
  pub order :
      ((c : Data) × (get (codes "configuration") d ≡ Some c) × (get (codes "endian") c ≡ Some (string (endian big))))
      ⊎ ((c : Data) × (get (codes "configuration") d ≡ Some c) × (get (codes "endian") c ≡ Some (string (endian true)))
      × (byte_count dtype ≡ 1))
      ⊎ ((c : Data) × (get (codes "configuration") d ≡ Some c) × IsWithout c (codes "endian") × (byte_count dtype ≡ 1))
      ⊎ ((get (codes "configuration") d ≡ None) × (byte_count dtype ≡ 1))

-- a member need not be understood
abbrev pub NeedNotBeUnderstood : Data → Type 0
NeedNotBeUnderstood value = get (codes "must_understand") value ≡ Some (boolean false)

-- the data describes the array; a further member need not be understood
pub record Describes (d : Data) (m : Metadata) : Type 0 where
  pub format : option_and_then whole_number (get (codes "zarr_format") d) ≡ Some (pos 3)
  pub node : get (codes "node_type") d ≡ Some (string (codes "array"))
  pub shape : get (codes "shape") d ≡ Some (list_of (map natural m.shape))
  pub dtype : get (codes "data_type") d ≡ Some (string (dtype_name m.dtype))
  pub grid : (g : Data) × (get (codes "chunk_grid") d ≡ Some g) × IsGrid g m.chunks
  pub keys : (e : Data) × (get (codes "chunk_key_encoding") d ≡ Some e) × EncodesKeys e m.dot
  pub fill : option_and_then whole_number (get (codes "fill_value") d) ≡ Some (number_of m.dtype m.fill)
  pub codecs : (e : Data) × (get (codes "codecs") d ≡ Some (list_of (e ∷ []))) × EncodesBytes e m.dtype m.big
  pub transformers : (get (codes "storage_transformers") d ≡ None) ⊎ (get (codes "storage_transformers") d ≡ Some (list_of []))
  pub others : (name : List ℕ) (value : Data) → get name d ≡ Some value → is_among name known_members ≡ false → NeedNotBeUnderstood value

-- the bytes are JSON that describes the array, and the rules of metadata hold
pub record SpellsMetadata (m : Metadata) (bytes : List ℕ) : Type 0 where
  pub rules : IsMetadata m
  pub described : (d : Data) × (data_of bytes ≡ Some d) × Describes d m
