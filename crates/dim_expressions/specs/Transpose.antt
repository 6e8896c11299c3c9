-- `transpose`: the selected dimensions at positions, the others in their order.
use Rattle.std.specs.Prelude.{◌≡◌, ◌<◌, ℕ, ◌==◌, ℤ, not, if◌then◌else◌, List, length, map, slice_index_or, Option, Some, None, unwrap_or, Result, Err}
use Rattle.index_transform.specs.Transforms.{DomainAndMaps}
use Rattle.json_forms.specs.Lists.{all_of}
use Rattle.dim_changes.specs.declared.cause.Cause.{Cause}
use Rattle.dim_changes.specs.declared.cause.Cause.TheVariants.{Count, Target}
use Rattle.dim_changes.specs.Dims.{position_of, spot_in, others, dim_at, label_at}
use Rattle.dim_changes.specs.Causes.{over}
use Rattle.step_forms.specs.Selection.{has_repeat}
use Rattle.dim_expressions.specs.Left.{all_dims, rank_of, passed}

-- what stands in a list goes to the same spot of another one, and each of the others to the next of those that aren't there
abbrev pub carried_by : List ℕ → List ℕ → List ℕ → ℕ → Option ℕ → ℕ
carried_by rest to free x (Some spot) = slice_index_or to spot 0
carried_by rest to free x None = slice_index_or free (unwrap_or (spot_in rest x) 0) 0

abbrev pub carried : ℕ → List ℕ → List ℕ → ℕ → ℕ
carried rank from to x = carried_by (others from rank) to (others to rank) x (spot_in from x)

-- `transpose`: the old dimension at a position of the result: the selected one whose target it is, or the next of the others
abbrev pub old_dim : ℕ → List ℕ → List ℕ → ℕ → ℕ
old_dim rank selected targets position = carried rank targets selected position

-- the position of an old dimension: its target, or the next of the other positions
abbrev pub new_position : ℕ → List ℕ → List ℕ → ℕ → ℕ
new_position rank selected targets dim = carried rank selected targets dim

-- the two lists are inverse: a dimension's position leads back to it, and a position's dimension to the position
abbrev pub AreInverse : ℕ → List ℕ → List ℕ → Type 0
AreInverse rank selected targets =
    (k : ℕ) → k < rank
    → (old_dim rank selected targets (new_position rank selected targets k) ≡ k) × (new_position rank selected targets (old_dim rank selected targets k) ≡ k)

abbrev pub transpose_view : DomainAndMaps → List ℕ → List ℕ → DomainAndMaps
transpose_view u selected targets = record {
  domain = record {
    dims = map (λ position. dim_at u.domain.dims (old_dim (rank_of u) selected targets position)) (all_dims (rank_of u));
    labels = map (λ position. label_at u.domain.labels (old_dim (rank_of u) selected targets position)) (all_dims (rank_of u));
  };
  maps = map (λ dim. passed (new_position (rank_of u) selected targets dim)) (all_dims (rank_of u));
}

abbrev pub to_targets : DomainAndMaps → List ℕ → Option (List ℕ) → Result DomainAndMaps Cause
to_targets u selected None = Err Target
to_targets u selected (Some targets) = if has_repeat targets then Err Target else over u (transpose_view u selected targets)

abbrev pub transpose_answer : DomainAndMaps → List ℕ → List ℤ → Result DomainAndMaps Cause
transpose_answer u selected targets =
    if not (length targets == length selected) then Err Count
    else to_targets u selected (all_of (position_of (rank_of u)) targets)
