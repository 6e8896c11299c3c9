-- The members of an interval as a set of integers.
use Rattle.std.specs.Prelude.{◌≡◌, ℕ, ℤ, pos, ◌+ℤ◌, ◌-ℤ◌, ◌≤ℤ◌, int_le, unsigned_abs, Bool, false, ◌&&◌, ◌||◌, if◌then◌else◌}
use Rattle.index_intervals.specs.Bounds.{Bounds, IsIndex, is_index, minus_infinity, plus_infinity}

-- a finite index between the bounds, both included, implicit bounds counted as they stand
pub record IsMember (b : Bounds) (x : ℤ) : Type 0 where
  pub index : IsIndex x
  pub above_lo : b.lo ≤ℤ x
  pub below_hi : x ≤ℤ b.hi

-- a finite index that passes no explicit bound: an implicit bound sets no limit
pub record IsEffectiveMember (b : Bounds) (x : ℤ) : Type 0 where
  pub index : IsIndex x
  pub above_lo : b.lo_implicit ≡ false → b.lo ≤ℤ x
  pub below_hi : b.hi_implicit ≡ false → x ≤ℤ b.hi

-- a number that passes no finite bound, implicit bounds counted as they stand; it need be no index itself
pub record IsWithin (b : Bounds) (x : ℤ) : Type 0 where
  pub above_lo : IsIndex b.lo → b.lo ≤ℤ x
  pub below_hi : IsIndex b.hi → x ≤ℤ b.hi

-- an infinite bound in place of each implicit one
abbrev pub effective_lo : Bounds → ℤ
effective_lo b = if b.lo_implicit then minus_infinity else b.lo

abbrev pub effective_hi : Bounds → ℤ
effective_hi b = if b.hi_implicit then plus_infinity else b.hi

-- the interval with these bounds and the old flags
abbrev pub effective_bounds : Bounds → Bounds
effective_bounds b = record b { lo = effective_lo b; hi = effective_hi b }

-- both bounds are finite, implicit ones counted as they stand
abbrev pub is_finite : Bounds → Bool
is_finite dim = is_index dim.lo && is_index dim.hi

-- how many indices a finite interval has
abbrev pub size_of : Bounds → ℕ
size_of dim = unsigned_abs (dim.hi +ℤ pos 1 -ℤ dim.lo)

-- the effective interval has an index: a bound sets no limit, or the two are in order
abbrev pub has_index : Bounds → Bool
has_index dim = dim.lo_implicit || dim.hi_implicit || int_le dim.lo dim.hi
