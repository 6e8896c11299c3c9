-- Lists that no cause is against.
use Rattle.std.proofs.Common.{◌≡◌, ◌∙◌, ◌⊎◌, inl, inr, ℕ, ◌+◌, ◌<◌, ◌||◌, nat_le, not, Bool, true, false, cond, ℤ, pos, Some, None, List, length, get_or, refl, sym, ap, arith}
use Rattle.std.proofs.lemmas.Bool.Decides.{nat_tests}
use Rattle.std.specs.List.{list_all, list_any}
use Rattle.cells.proofs.Laws.{list_all-at}
use Rattle.index_intervals.specs.Bounds.{Bounds}
use Rattle.index_intervals.specs.Members.{effective_lo, effective_hi}
use Rattle.index_transform.specs.declared.map.OutMap.{OutMap}
use Rattle.index_transform.specs.Transforms.{DomainAndMaps}
use Rattle.index_transform.specs.Values.{is_effective}
use Rattle.transform_composition.specs.Reading.{depends_on}
use Rattle.dim_changes.specs.declared.cause.Cause.TheVariants.{OutOfRange, TooLarge}
use Rattle.dim_changes.specs.Causes.{first_cause}
use Rattle.dim_changes.specs.Dims.{spot_in, dim_at}
use Rattle.dim_expressions.specs.Arrays.{entries_cause, length_cause, array_cause, array_causes, array_at}
use Rattle.dim_changes.proofs.Laws.{spot_in-Some}
use Rattle.dim_expressions.proofs.AtLaws.{none_at, none_of_two}

-- each entry is an index of the dimension, and a list that is too long is needed by no output
pub record IsListFor (u : DomainAndMaps) (dim : ℕ) (entries : List ℤ) : Type 0 where
  pub effective : list_all (is_effective (dim_at u.domain.dims dim)) entries ≡ true
  pub needed : (nat_le (length entries) 4194304 ≡ true) ⊎ (list_any (depends_on dim) u.maps ≡ false)

no_entries_cause : (dim : Bounds) (entries : List ℤ) → entries_cause dim entries ≡ None → list_all (is_effective dim) entries ≡ true
no_entries_cause dim entries e = told (list_all (is_effective dim) entries) e
  where
    told : (b : Bool) → cond b None (Some (OutOfRange (effective_lo dim) (effective_hi dim))) ≡ None → b ≡ true
    told true f = refl
    told false f = cc

no_length_cause : (maps : List OutMap) (dim : ℕ) (entries : List ℤ) → length_cause maps dim entries ≡ None
    → (nat_le (length entries) 4194304 ≡ true) ⊎ (list_any (depends_on dim) maps ≡ false)
no_length_cause maps dim entries e = told (nat_le (length entries) 4194304) (list_any (depends_on dim) maps) e
  where
    told : (b c : Bool) → cond (b || not c) None (Some TooLarge) ≡ None → (b ≡ true) ⊎ (c ≡ false)
    told true c f = inl refl
    told false false f = inr refl
    told false true f = cc

pub arrays-fit : (u : DomainAndMaps) (arrays : List (List ℤ)) (selected : List ℕ) → first_cause (array_causes u arrays selected) ≡ None
    → (dim spot : ℕ) → spot_in selected dim ≡ Some spot → IsListFor u dim (array_at arrays spot)
arrays-fit u arrays selected e dim spot q =
    let p = spot_in-Some selected dim spot q in
    let z : 0 + spot ≡ spot = omega arith in
    let none = none_at (array_cause u arrays) 0 selected e spot 0 p.inside in
    let here : array_cause u arrays (spot, dim) ≡ None =
    ap (λ (x : ℕ). array_cause u arrays (spot, x)) (sym (p.there 0)) ∙ ap (λ (k : ℕ). array_cause u arrays (k, get_or selected spot 0)) (sym z) ∙ none in
    let two = none_of_two (entries_cause (dim_at u.domain.dims dim) (array_at arrays spot)) (length_cause u.maps dim (array_at arrays spot)) here in
    record {
      effective = no_entries_cause (dim_at u.domain.dims dim) (array_at arrays spot) two.0;
      needed = no_length_cause u.maps dim (array_at arrays spot) two.1;
    }

-- the first index of a list that is too long
pub first-effective : (p : ℤ → Bool) (entries : List ℤ) → list_all p entries ≡ true → nat_le (length entries) 4194304 ≡ false → p (get_or entries 0 (pos 0)) ≡ true
first-effective p entries e f = list_all-at p entries (pos 0) e 0 (let some : 0 < length entries = grind (arith, nat_tests) in some)
