-- The least interval around several: the least lower and the greatest upper bound, each with its flag.
use Rattle.std.specs.Prelude.{◌≡◌, pos, negsuc, int_le, false, ◌&&◌, ◌||◌, IsTrue, List, [], ◌∷◌, fold}
use Rattle.std.specs.Int.{int_max, int_min}
use Rattle.std.specs.List.{list_all, list_any}
use Rattle.std.specs.Ordering.{int_eq}
use Rattle.index_intervals.specs.Bounds.{Bounds}

-- the least interval around two; a bound is implicit where one of the two that attains it has it implicit
abbrev pub around : Bounds → Bounds → Bounds
around a b = record {
  lo = int_min a.lo b.lo;
  hi = int_max a.hi b.hi;
  lo_implicit = (int_le a.lo b.lo && a.lo_implicit) || (int_le b.lo a.lo && b.lo_implicit);
  hi_implicit = (int_le b.hi a.hi && a.hi_implicit) || (int_le a.hi b.hi && b.hi_implicit);
}

-- the least interval around several, which is empty where there are none
abbrev pub around_all : List Bounds → Bounds
around_all [] = record { lo = pos 0; hi = negsuc 0; lo_implicit = false; hi_implicit = false }
around_all (dim ∷ dims) = fold around dim dims

-- its bounds are the least lower and the greatest upper one; each is implicit where an interval that attains it has it implicit
pub record IsAround (dims : List Bounds) (b : Bounds) : Type 0 where
  pub lo_least : IsTrue (list_all (λ dim. int_le b.lo dim.lo) dims)
  pub lo_attained : IsTrue (list_any (λ dim. int_eq dim.lo b.lo) dims)
  pub lo_flag : b.lo_implicit ≡ list_any (λ dim. int_eq dim.lo b.lo && dim.lo_implicit) dims
  pub hi_greatest : IsTrue (list_all (λ dim. int_le dim.hi b.hi) dims)
  pub hi_attained : IsTrue (list_any (λ dim. int_eq dim.hi b.hi) dims)
  pub hi_flag : b.hi_implicit ≡ list_any (λ dim. int_eq dim.hi b.hi && dim.hi_implicit) dims
