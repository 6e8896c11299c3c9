-- The identity over a domain is a transform.
use Rattle.std.proofs.Common.{◌≡◌, ◌∙◌, suc, ℕ, ◌+◌, ◌<◌, ◌==◌, nat_lt, nat_le, true, ◌&&◌, List, [], ◌∷◌, ◌++◌, length, drop, refl, sym, ap, arith, pos, append_assoc}
use Rattle.std.proofs.lemmas.Bool.Decides.{nat_tests}
use Rattle.std.proofs.Math.Seq.{drop-cons}
use Rattle.std.specs.List.{list_all}
use Rattle.cells.proofs.Laws.{both_true}
use Rattle.index_intervals.specs.Bounds.{Bounds, are_bounds}
use Rattle.index_transform.specs.declared.domain.Domain.{Domain}
use Rattle.index_transform.specs.declared.map.OutMap.{OutMap}
use Rattle.index_transform.specs.declared.map.OutMap.TheVariants.{Strided}
use Rattle.index_transform.specs.Maps.{is_map, is_plain}
use Rattle.index_transform.specs.Transforms.{IsDomain, IsTransform}
use Rattle.index_transform.specs.Identity.{identity_maps, identity_over}

-- one map more
pub identity_maps-next : (dims : List Bounds) (k : ℕ) (maps all : List OutMap) → k < length dims → maps ++ identity_maps k (drop k dims) ≡ all
    → (maps ++ Strided (pos 0) (pos 1) k ∷ []) ++ identity_maps (k + 1) (drop (k + 1) dims) ≡ all
identity_maps-next [] k maps all h e = absurd (omega (arith, h))
identity_maps-next (b ∷ bs) k maps all h e =
    let one : k + 1 ≡ suc k = omega arith in
    let step : identity_maps k (drop k (b ∷ bs)) ≡ Strided (pos 0) (pos 1) k ∷ identity_maps (k + 1) (drop (suc k) (b ∷ bs)) = ap (identity_maps k) (drop-cons (b ∷ bs) k b h) in
    append_assoc maps (Strided (pos 0) (pos 1) k ∷ []) (identity_maps (k + 1) (drop (k + 1) (b ∷ bs)))
    ∙ ap (λ (n : ℕ). maps ++ Strided (pos 0) (pos 1) k ∷ identity_maps (k + 1) (drop n (b ∷ bs))) one
    ∙ sym (ap (λ (ms : List OutMap). maps ++ ms) step) ∙ e

pub length-identity_maps : (k : ℕ) (dims : List Bounds) → length (identity_maps k dims) ≡ length dims
length-identity_maps k [] = refl
length-identity_maps k (d ∷ dims) = ap suc (length-identity_maps (k + 1) dims)

from_dims : (all dims : List Bounds) (k : ℕ) → k + length dims ≡ length all → list_all (is_map all) (identity_maps k dims) ≡ true
from_dims all [] k e = refl
from_dims all (d ∷ dims) k e =
    let less : nat_lt k (length all) ≡ true = grind (arith, nat_tests, e) in
    both_true (nat_lt k (length all)) (list_all (is_map all) (identity_maps (k + 1) dims)) less (from_dims all dims (k + 1) (omega (arith, e)))

are_plain : (dims : List Bounds) (k : ℕ) → list_all is_plain (identity_maps k dims) ≡ true
are_plain [] k = refl
are_plain (d ∷ dims) k = are_plain dims (k + 1)

pub IsTransform-identity : (domain : Domain) → IsDomain domain → list_all are_bounds domain.dims ≡ true → IsTransform (identity_over domain)
IsTransform-identity domain d b = record {
  ranks =
      let n = length-identity_maps 0 domain.dims in
      let r : nat_le (length domain.dims) 32 ≡ true = let h = d.rank in grind (arith, nat_tests, h) in
      let s : (length domain.labels == length domain.dims) ≡ true = let h = d.same in grind (arith, nat_tests, h) in
      let m : nat_le (length (identity_maps 0 domain.dims)) 32 ≡ true = rw n r in
      both_true (nat_le (length domain.dims) 32 && (length domain.labels == length domain.dims)) (nat_le (length (identity_maps 0 domain.dims)) 32) (both_true (nat_le (length domain.dims) 32) (length domain.labels == length domain.dims) r s) m;
  labels = d.labels;
  maps = from_dims domain.dims domain.dims 0 (omega arith);
  plain = are_plain domain.dims 0;
  bounds = b;
}
