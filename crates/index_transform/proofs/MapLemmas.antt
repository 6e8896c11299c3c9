-- The maps that a transform keeps.
use Rattle.std.proofs.Common.{◌≡◌, ℕ, ◌+◌, Bool, true, false, cond, not, ◌&&◌, List, [], ◌∷◌, map, refl, Some, None, pos}
use Rattle.std.proofs.lemmas.List.{length-map}
use Rattle.std.specs.List.{list_all, position_from}
use Rattle.std.specs.Ordering.{int_eq}
use Rattle.index_intervals.specs.Bounds.{Bounds, are_bounds}
use Rattle.index_transform.specs.declared.domain.Domain.{Domain}
use Rattle.index_transform.specs.declared.map.OutMap.{OutMap}
use Rattle.index_transform.specs.declared.map.OutMap.TheVariants.{Constant, Strided, Indexed}
use Rattle.index_transform.specs.Maps.{is_map, is_plain, plain_map, has_ranks, are_labels}
use Rattle.index_transform.specs.Transforms.{IsTransform, first_bad_map}

-- where no element fails, all pass
pub list_all-position_from : {X : Type 0} (p : X → Bool) (i : ℕ) (xs : List X)
    → position_from (λ x. not (p x)) i xs ≡ None → list_all p xs ≡ true
list_all-position_from p i [] e = refl
list_all-position_from p i (x ∷ xs) e = told (p x) refl (λ h. list_all-position_from p (i + 1) xs h) e
  where
    told : (b : Bool) → p x ≡ b → (position_from (λ x. not (p x)) (i + 1) xs ≡ None → list_all p xs ≡ true)
        → cond (not b) (Some i) (position_from (λ x. not (p x)) (i + 1) xs) ≡ None → (p x && list_all p xs) ≡ true
    told true f h e = rw f (h e)
    told false f h e = cc

-- a map made plain goes from the same dimensions
is_map-plain_map : (dims : List Bounds) (m : OutMap) → is_map dims m ≡ true → is_map dims (plain_map m) ≡ true
is_map-plain_map dims (Constant offset) e = refl
is_map-plain_map dims (Strided offset stride dim) e = told (int_eq stride (pos 0))
  where
    told : (b : Bool) → is_map dims (cond b (Constant offset) (Strided offset stride dim)) ≡ true
    told true = refl
    told false = e
is_map-plain_map dims (Indexed offset stride sizes entries) e = told (int_eq stride (pos 0))
  where
    told : (b : Bool) → is_map dims (cond b (Constant offset) (Indexed offset stride sizes entries)) ≡ true
    told true = refl
    told false = e

is_plain-plain_map : (m : OutMap) → is_plain (plain_map m) ≡ true
is_plain-plain_map (Constant offset) = refl
is_plain-plain_map (Strided offset stride dim) = told (int_eq stride (pos 0)) refl
  where
    told : (b : Bool) → int_eq stride (pos 0) ≡ b → is_plain (cond b (Constant offset) (Strided offset stride dim)) ≡ true
    told true e = refl
    told false e = rw e refl
is_plain-plain_map (Indexed offset stride sizes entries) = told (int_eq stride (pos 0)) refl
  where
    told : (b : Bool) → int_eq stride (pos 0) ≡ b → is_plain (cond b (Constant offset) (Indexed offset stride sizes entries)) ≡ true
    told true e = refl
    told false e = rw e refl

all_map-plain_map : (dims : List Bounds) (ms : List OutMap) → list_all (is_map dims) ms ≡ true → list_all (is_map dims) (map plain_map ms) ≡ true
all_map-plain_map dims [] e = refl
all_map-plain_map dims (m ∷ ms) e = both (is_map dims m) refl (λ h. all_map-plain_map dims ms h) e
  where
    both : (b : Bool) → is_map dims m ≡ b → (list_all (is_map dims) ms ≡ true → list_all (is_map dims) (map plain_map ms) ≡ true)
        → (b && list_all (is_map dims) ms) ≡ true → (is_map dims (plain_map m) && list_all (is_map dims) (map plain_map ms)) ≡ true
    both true f h e = rw (is_map-plain_map dims m f) (h e)
    both false f h e = cc

all_plain-plain_map : (ms : List OutMap) → list_all is_plain (map plain_map ms) ≡ true
all_plain-plain_map [] = refl
all_plain-plain_map (m ∷ ms) = rw (is_plain-plain_map m) (all_plain-plain_map ms)

-- what passed the tests is a transform
pub IsTransform-plain : (domain : Domain) (ms : List OutMap) → has_ranks domain ms ≡ true → are_labels domain.labels ≡ true
    → first_bad_map domain ms ≡ None → list_all are_bounds domain.dims ≡ true → IsTransform (record { domain = domain; maps = map plain_map ms })
IsTransform-plain domain ms r l f b = record {
  ranks = rw length-map r;
  labels = l;
  maps = all_map-plain_map domain.dims ms (list_all-position_from (is_map domain.dims) 0 ms f);
  plain = all_plain-plain_map ms;
  bounds = b;
}
