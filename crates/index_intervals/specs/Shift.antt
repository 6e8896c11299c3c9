-- An interval moved by a number.
use Rattle.std.specs.Prelude.{ℤ, ◌+ℤ◌, if◌then◌else◌}
use Rattle.index_intervals.specs.Bounds.{Bounds, IsIndex, is_index}

-- a finite bound moves, an infinite one stays
abbrev pub moved : ℤ → ℤ → ℤ
moved by x = if is_index x then x +ℤ by else x

abbrev pub shifted : Bounds → ℤ → Bounds
shifted b by = record b { lo = moved by b.lo; hi = moved by b.hi }

-- each finite bound stays finite
pub record CanShift (b : Bounds) (by : ℤ) : Type 0 where
  pub lo : IsIndex b.lo → IsIndex (b.lo +ℤ by)
  pub hi : IsIndex b.hi → IsIndex (b.hi +ℤ by)
