-- The numbers whose multiple by a stride lies in an interval.
use Rattle.std.specs.Prelude.{ℤ, pos, neg_ℤ, ◌+ℤ◌, ◌*ℤ◌, ◌≤ℤ◌, ◌<ℤ◌, unsigned_abs, if◌then◌else◌}
use Rattle.std.specs.Int.{int_div_euclid, is_negative}
use Rattle.index_intervals.specs.Bounds.{Bounds, IsIndex, is_index}

-- the quotient by a positive number, rounded down and up
abbrev pub quotient_down : ℤ → ℤ → ℤ
quotient_down x n = int_div_euclid x n

abbrev pub quotient_up : ℤ → ℤ → ℤ
quotient_up x n = neg_ℤ (int_div_euclid (neg_ℤ x) n)

-- q is the greatest number with q * n at most x
pub record IsQuotientDown (x n q : ℤ) : Type 0 where
  pub at_most : (q *ℤ n) ≤ℤ x
  pub greatest : x <ℤ (q *ℤ n +ℤ n)

-- q is the least number with q * n at least x
pub record IsQuotientUp (x n q : ℤ) : Type 0 where
  pub at_least : x ≤ℤ (q *ℤ n)
  pub least : (q *ℤ n) <ℤ (x +ℤ n)

-- the interval of the negated numbers: bounds and flags change places
abbrev pub mirrored : Bounds → Bounds
mirrored b = record {
  lo = neg_ℤ b.hi;
  hi = neg_ℤ b.lo;
  lo_implicit = b.hi_implicit;
  hi_implicit = b.lo_implicit;
}

-- each finite bound divided by a positive number, the lower one rounded up and the upper one down
abbrev pub contracted : Bounds → ℤ → Bounds
contracted b n = record b {
  lo = (if is_index b.lo then quotient_up b.lo n else b.lo);
  hi = (if is_index b.hi then quotient_down b.hi n else b.hi);
}

-- the interval as a stride of this sign runs through it
abbrev pub facing : Bounds → ℤ → Bounds
facing b s = if is_negative s then mirrored b else b

abbrev pub strided : Bounds → ℤ → Bounds
strided b s = contracted (facing b s) (pos (unsigned_abs s))

-- the same rounding by what quotients are; a finite bound of an empty interval is rounded too
pub record RoundsInward (b : Bounds) (n : ℤ) (r : Bounds) : Type 0 where
  pub lo : IsIndex b.lo → IsQuotientUp b.lo n r.lo
  pub hi : IsIndex b.hi → IsQuotientDown b.hi n r.hi
