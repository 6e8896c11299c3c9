-- The two bounds of an interval of indices, each with its flag, and when they belong together.
use Rattle.std.specs.Prelude.{ℤ, pos, negsuc, ◌+ℤ◌, ◌≤ℤ◌, ◌<ℤ◌, int_le, int_lt, Bool, ◌&&◌}

-- what a contract sees of an interval: inclusive bounds, and for each whether it is implicit
pub record Bounds : Type 0 where
  pub lo : ℤ
  pub hi : ℤ
  pub lo_implicit : Bool
  pub hi_implicit : Bool

-- 2^62 - 1 on either side stands for a missing bound
abbrev pub plus_infinity : ℤ
plus_infinity = pos 4611686018427387903

abbrev pub minus_infinity : ℤ
minus_infinity = negsuc 4611686018427387902

-- the number is a finite index: it lies between the infinities
pub record IsIndex (x : ℤ) : Type 0 where
  pub above : minus_infinity <ℤ x
  pub below : x <ℤ plus_infinity

-- the same as a test
abbrev pub is_index : ℤ → Bool
is_index x = int_lt minus_infinity x && int_lt x plus_infinity

-- the lower bound is finite or minus infinity, the upper one finite or plus infinity, and they cross by one at most
pub record AreBounds (b : Bounds) : Type 0 where
  pub lo_from : minus_infinity ≤ℤ b.lo
  pub lo_below : b.lo <ℤ plus_infinity
  pub hi_above : minus_infinity <ℤ b.hi
  pub hi_to : b.hi ≤ℤ plus_infinity
  pub ordered : b.lo ≤ℤ (b.hi +ℤ pos 1)

-- the bounds cross by one at most
abbrev pub is_ordered : Bounds → Bool
is_ordered dim = int_le dim.lo (dim.hi +ℤ pos 1)

-- the rule on bounds as a test
abbrev pub are_bounds : Bounds → Bool
are_bounds dim =
    int_le minus_infinity dim.lo && int_lt dim.lo plus_infinity && int_lt minus_infinity dim.hi && int_le dim.hi plus_infinity && is_ordered dim
