-- The written form of metadata may be written, and describes the metadata.
use Rattle.std.proofs.Common.{◌≡◌, ℕ, ◌≤◌, List, [], ◌∷◌, map, false, refl, arith}
use Rattle.serde_json.specs.Data.{depth, items_depth}
use Rattle.serde_json.specs.Read.{max_depth}
use Rattle.serde_json.specs.View.{items_of}
use Rattle.serde_json.specs.Written.{has_float}
use Rattle.serde_json.proofs.OnLiterals.{serde_json_on_literals}
use Rattle.meta_forms.specs.Numbers.{natural}
use Rattle.meta_forms.proofs.Laws.{has_float-naturals}
use Rattle.n5_blocks.specs.Metadata.{Metadata}
use Rattle.n5_blocks.specs.Written.{raw, metadata_data}
use Rattle.n5_blocks.specs.Described.{Describes}

-- there is no float
pub has_float-metadata : (m : Metadata) → has_float (metadata_data m) ≡ false
has_float-metadata m = rw (has_float-naturals m.block, has_float-naturals m.dimensions) refl

items_depth-naturals : (ns : List ℕ) → items_depth (items_of (map natural ns)) ≡ 0
items_depth-naturals [] = refl
items_depth-naturals (n ∷ ns) = rw (items_depth-naturals ns) refl

-- it nests two levels deep
pub depth-metadata : (m : Metadata) → depth (metadata_data m) ≤ max_depth
depth-metadata m = rw (items_depth-naturals m.block, items_depth-naturals m.dimensions) (omega arith)

-- it describes the metadata
pub Describes-metadata : (m : Metadata) → Describes (metadata_data m) m
unfolding serde_json_on_literals
Describes-metadata m = record {
  dimensions = refl;
  block = refl;
  dtype = refl;
  compression = (raw, refl, refl);
}
