-- The written form of metadata.
use Rattle.std.specs.Prelude.{ℕ, Bool, List, [], ◌∷◌, map, codes, if◌then◌else◌}
use Rattle.chunk_elements.specs.DtypeNames.{dtype_name}
use Rattle.chunk_elements.specs.Numbers.{number_of}
use Rattle.serde_json.specs.Data.{Data, string}
use Rattle.meta_forms.specs.Numbers.{natural, integer}
use Rattle.meta_forms.specs.Lists.{list_of}
use Rattle.meta_forms.specs.Members.{object_of}
use Rattle.zarr3_chunks.specs.Key.{separator}
use Rattle.zarr3_chunks.specs.Metadata.{Metadata}

-- an object of a name and a configuration of one member
abbrev pub named : List ℕ → List ℕ → Data → Data
named name member value = object_of ((codes "configuration", object_of ((member, value) ∷ [])) ∷ (codes "name", string name) ∷ [])

-- "big" where the highest byte stands first, else "little"
abbrev pub endian : Bool → List ℕ
endian big = if big then codes "big" else codes "little"

-- the eight members, by their names in byte order
abbrev pub metadata_data : Metadata → Data
metadata_data m = object_of (
    (codes "chunk_grid", named (codes "regular") (codes "chunk_shape") (list_of (map natural m.chunks)))
    ∷ (codes "chunk_key_encoding", named (codes "default") (codes "separator") (string (separator m.dot ∷ [])))
    ∷ (codes "codecs", list_of (named (codes "bytes") (codes "endian") (string (endian m.big)) ∷ []))
    ∷ (codes "data_type", string (dtype_name m.dtype)) ∷ (codes "fill_value", integer (number_of m.dtype m.fill))
    ∷ (codes "node_type", string (codes "array")) ∷ (codes "shape", list_of (map natural m.shape)) ∷ (codes "zarr_format", natural 3) ∷ [])
