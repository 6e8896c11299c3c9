use Rattle.std.proofs.Common.{◌≡◌, ℕ, List, ◌||◌, codes, Bool, true, false, refl, sym}
use Rattle.std.specs.Str.{bytes_eq}
use Rattle.std.proofs.lemmas.Slice.Eq.{bytes_eq-Decides}
use Rattle.zarr3_chunks.proofs.members.is_known.Goals as goal

-- another name than the first, and none of the others
other : (known name : List ℕ) (rest : Bool) → ¬ (name ≡ known) → rest ≡ false → (bytes_eq known name || rest) ≡ false
other known name rest differ none =
    elim (bytes_eq known name) as (λ b. bytes_eq known name ≡ b → (b || rest) ≡ false) [
      | true ↦ λ same. absurd (differ (sym ((bytes_eq-Decides known name).0 same)))
      | false ↦ λ _. none
    ] refl

pub returns-in_default : goal.returns-in_default
returns-in_default c =
    sym (other (codes "zarr_format") c.args.name.now _ c.in_default.not-zarr_format (other (codes "node_type") c.args.name.now _ c.in_default.not-node_type (other (codes "shape") c.args.name.now _ c.in_default.not-shape (other (codes "data_type") c.args.name.now _ c.in_default.not-data_type (other (codes "chunk_grid") c.args.name.now _ c.in_default.not-chunk_grid (other (codes "chunk_key_encoding") c.args.name.now _ c.in_default.not-chunk_key_encoding (other (codes "fill_value") c.args.name.now _ c.in_default.not-fill_value (other (codes "codecs") c.args.name.now _ c.in_default.not-codecs (other (codes "storage_transformers") c.args.name.now _ c.in_default.not-storage_transformers (other (codes "attributes") c.args.name.now _ c.in_default.not-attributes (other (codes "dimension_names") c.args.name.now _ c.in_default.not-dimension_names (refl))))))))))))
