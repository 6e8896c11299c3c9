-- Which metadata bytes are.
use Rattle.std.specs.Prelude.{◌≡◌, ℕ, List, map, codes, Some}
use Rattle.chunk_elements.specs.DtypeNames.{dtype_name}
use Rattle.serde_json.specs.Data.{Data, string}
use Rattle.serde_json.specs.Find.{get}
use Rattle.meta_forms.specs.Bytes.{data_of}
use Rattle.meta_forms.specs.Numbers.{natural}
use Rattle.meta_forms.specs.Lists.{list_of}
use Rattle.n5_blocks.specs.Metadata.{Metadata, IsMetadata}

-- the data describes the array, whatever further members it and its compression have
pub record Describes (d : Data) (m : Metadata) : Type 0 where
  pub dimensions : get (codes "dimensions") d ≡ Some (list_of (map natural m.dimensions))
  pub block : get (codes "blockSize") d ≡ Some (list_of (map natural m.block))
  pub dtype : get (codes "dataType") d ≡ Some (string (dtype_name m.dtype))
  pub compression : (c : Data) × (get (codes "compression") d ≡ Some c) × (get (codes "type") c ≡ Some (string (codes "raw")))

-- the bytes are JSON that describes the array, and the rules of metadata hold
pub record SpellsMetadata (m : Metadata) (bytes : List ℕ) : Type 0 where
  pub rules : IsMetadata m
  pub described : (d : Data) × (data_of bytes ≡ Some d) × Describes d m
