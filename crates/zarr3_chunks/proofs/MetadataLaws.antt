-- The written form of metadata may be written, and describes the metadata.
use Rattle.std.proofs.Common.{◌≡◌, inl, ℕ, ℤ, pos, negsuc, ◌≤◌, List, [], ◌∷◌, map, codes, false, Some, None, refl, arith}
use Rattle.serde_json.specs.Data.{depth, items_depth, string}
use Rattle.serde_json.specs.Read.{max_depth}
use Rattle.serde_json.specs.View.{items_of}
use Rattle.serde_json.specs.Written.{has_float}
use Rattle.serde_json.proofs.OnLiterals.{serde_json_on_literals}
use Rattle.meta_forms.specs.Lists.{list_of}
use Rattle.meta_forms.specs.Members.{object_of}
use Rattle.meta_forms.specs.Numbers.{natural, integer, whole_number}
use Rattle.meta_forms.proofs.Laws.{has_float-integer, has_float-naturals}
use Rattle.chunk_elements.specs.Numbers.{number_of}
use Rattle.zarr3_chunks.specs.Key.{separator}
use Rattle.zarr3_chunks.specs.Metadata.{Metadata}
use Rattle.zarr3_chunks.specs.Written.{named, endian, metadata_data}
use Rattle.zarr3_chunks.specs.Described.{Describes}
use Rattle.zarr3_chunks.specs.Read.{unread_member}
use Rattle.zarr3_chunks.proofs.OtherLaws.{others_from_none}

-- there is no float
pub has_float-metadata : (m : Metadata) → has_float (metadata_data m) ≡ false
has_float-metadata m = rw (has_float-naturals m.chunks, has_float-integer (number_of m.dtype m.fill), has_float-naturals m.shape) refl

items_depth-naturals : (ns : List ℕ) → items_depth (items_of (map natural ns)) ≡ 0
items_depth-naturals [] = refl
items_depth-naturals (n ∷ ns) = rw (items_depth-naturals ns) refl

-- it nests four levels deep
pub depth-metadata : (m : Metadata) → depth (metadata_data m) ≤ max_depth
depth-metadata m = rw (items_depth-naturals m.chunks, items_depth-naturals m.shape) (omega arith)

-- the number of an integer is that integer
whole_number-integer : (z : ℤ) → whole_number (integer z) ≡ Some z
whole_number-integer (pos n) = refl
whole_number-integer (negsuc n) = refl

-- no further member stands in it
pub unread_member-metadata : (m : Metadata) → unread_member (metadata_data m) ≡ None
unfolding serde_json_on_literals
unread_member-metadata m = refl

-- it describes the metadata
pub Describes-metadata : (m : Metadata) → Describes (metadata_data m) m
unfolding serde_json_on_literals
Describes-metadata m = record {
  format = refl;
  node = refl;
  shape = refl;
  dtype = refl;
  grid = (named (codes "regular") (codes "chunk_shape") (list_of (map natural m.chunks)), refl, record { name_is = refl; sizes = (object_of ((codes "chunk_shape", list_of (map natural m.chunks)) ∷ []), refl, refl) });
  keys = (
    named (codes "default") (codes "separator") (string (separator m.dot ∷ [])),
    refl,
    record {
      name_is = refl;
      between = inl (object_of ((codes "separator", string (separator m.dot ∷ [])) ∷ []), refl, refl);
    },
  );
  fill = whole_number-integer (number_of m.dtype m.fill);
  codecs = (
    named (codes "bytes") (codes "endian") (string (endian m.big)),
    refl,
    record {
      name_is = refl;
      order = inl (object_of ((codes "endian", string (endian m.big)) ∷ []), refl, refl);
    },
  );
  transformers = inl refl;
  others = others_from_none (metadata_data m) (unread_member-metadata m);
}
