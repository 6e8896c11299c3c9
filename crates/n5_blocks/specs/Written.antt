-- The written form of metadata.
use Rattle.std.specs.Prelude.{[], ◌∷◌, map, codes}
use Rattle.chunk_elements.specs.DtypeNames.{dtype_name}
use Rattle.serde_json.specs.Data.{Data, string}
use Rattle.meta_forms.specs.Numbers.{natural}
use Rattle.meta_forms.specs.Lists.{list_of}
use Rattle.meta_forms.specs.Members.{object_of}
use Rattle.n5_blocks.specs.Metadata.{Metadata}

-- no compression
abbrev pub raw : Data
raw = object_of ((codes "type", string (codes "raw")) ∷ [])

-- the four members, by their names in byte order
abbrev pub metadata_data : Metadata → Data
metadata_data m = object_of (
    (codes "blockSize", list_of (map natural m.block)) ∷ (codes "compression", raw)
    ∷ (codes "dataType", string (dtype_name m.dtype)) ∷ (codes "dimensions", list_of (map natural m.dimensions)) ∷ [])
