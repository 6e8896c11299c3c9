-- Which cells of a domain come together in one cell of the downsampled domain.
use Rattle.std.specs.Prelude.{◌≡◌, ℕ, ◌≤◌, nat_le, ℤ, pos, ◌+ℤ◌, ◌-ℤ◌, ◌*ℤ◌, int_le, int_lt, unsigned_abs, Bool, true, false, ◌&&◌, if◌then◌else◌, List, [], ◌∷◌}
use Rattle.std.specs.Ordering.{int_eq}
use Rattle.index_intervals.specs.Bounds.{Bounds}
use Rattle.index_intervals.specs.Stride.{quotient_down, quotient_up}
use Rattle.index_transform.specs.Walks.{IsCell}
use Rattle.downsample_view.specs.declared.method.Method.{Method}
use Rattle.downsample_view.specs.declared.method.Method.TheVariants.{Stride, Min, Max}

-- a number of cells along a dimension that come together
pub record IsFactor (f : ℕ) : Type 0 where
  pub some : 1 ≤ f
  pub few : f ≤ 4194304

-- the same as a test
abbrev pub is_factor : ℕ → Bool
is_factor f = nat_le 1 f && nat_le f 4194304

-- the new lower bound: the old one by the factor, rounded down; for a stride up, so that its multiple lies in the dimension
abbrev pub origin_of : Method → ℕ → Bounds → ℤ
origin_of Stride f dim = quotient_up dim.lo (pos f)
origin_of Min f dim = quotient_down dim.lo (pos f)
origin_of Max f dim = quotient_down dim.lo (pos f)

-- how many indices there are then, up to the old exclusive upper bound by the factor, rounded up; none in an empty dimension
abbrev pub new_size : Method → ℕ → Bounds → ℕ
new_size method f dim = if int_lt dim.hi dim.lo then 0 else unsigned_abs (quotient_up (dim.hi +ℤ pos 1) (pos f) -ℤ origin_of method f dim)

abbrev pub new_dim : Method → ℕ → Bounds → Bounds
new_dim method f dim = record {
  lo = origin_of method f dim;
  hi = origin_of method f dim +ℤ pos (new_size method f dim) -ℤ pos 1;
  lo_implicit = false;
  hi_implicit = false;
}

abbrev pub new_dims : Method → List ℕ → List Bounds → List Bounds
new_dims method [] dims = []
new_dims method (f ∷ fs) [] = []
new_dims method (f ∷ fs) (dim ∷ dims) = new_dim method f dim ∷ new_dims method fs dims

-- along a dimension, the old index comes into the new one: it is the multiple, or one of as many from there on as the factor says
abbrev pub comes_into : Method → ℕ → ℤ → ℤ → Bool
comes_into Stride f y x = int_eq x (y *ℤ pos f)
comes_into Min f y x = int_le (y *ℤ pos f) x && int_lt x (y *ℤ pos f +ℤ pos f)
comes_into Max f y x = int_le (y *ℤ pos f) x && int_lt x (y *ℤ pos f +ℤ pos f)

-- the same along each dimension
abbrev pub is_in_group : Method → List ℕ → List ℤ → List ℤ → Bool
is_in_group method [] [] [] = true
is_in_group method [] [] (x ∷ xs) = false
is_in_group method [] (y ∷ ys) xs = false
is_in_group method (f ∷ fs) [] xs = false
is_in_group method (f ∷ fs) (y ∷ ys) [] = false
is_in_group method (f ∷ fs) (y ∷ ys) (x ∷ xs) = comes_into method f y x && is_in_group method fs ys xs

-- a cell of the domain comes into a new index vector
abbrev pub HasCell : Method → List ℕ → List Bounds → List ℤ → Type 0
HasCell method fs dims y = (x : List ℤ) × (IsCell dims x × is_in_group method fs y x ≡ true)
