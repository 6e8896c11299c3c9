-- Where a cell of a view lies: in which array, at which index vector, and behind which casts.
use Rattle.std.specs.Prelude.{◌≡◌, ℕ, ◌+◌, nat_lt, ℤ, pos, negsuc, int_le, List, [], ◌∷◌, Bool, true, false, ◌&&◌, ◌==◌, Result, Ok, Err, if◌then◌else◌}
use Rattle.std.specs.Str.{bytes_eq}
use Rattle.cast_driver.specs.declared.cast.Cast.{Cast}
use Rattle.cast_driver.specs.Chain.{BeginsWith, dtype_after, word_out, word_back}
use Rattle.cast_driver.specs.declared.Dtype.{Dtype}
use Rattle.transform_composition.specs.Bounds.{Bounds, is_index}
use Rattle.stack_driver.specs.declared.error.TargetError.{TargetError}
use Rattle.stack_driver.specs.declared.error.TargetError.TheVariants.{OutOfRange}

-- one number of one array; the index vector counts from 0
pub record Cell : Type 0 where
  pub array : ℕ
  pub index : List ℕ

abbrev pub is_cell : Cell → Cell → Bool
is_cell a b = a.array == b.array && bytes_eq a.index b.index

-- a cell, and the casts from it outwards
pub record Target : Type 0 where
  pub cell : Cell
  pub casts : List Cast

-- casts from some dtype that come out in this one
pub record LeadTo (casts : List Cast) (dtype : Dtype) : Type 0 where
  pub base : Dtype
  pub begins : BeginsWith base casts
  pub ends : dtype_after base casts ≡ dtype

-- a word of the array as the view shows it, and a word of the view as the array takes it
abbrev pub outwards : List Cast → ℕ → ℕ
outwards casts word = word_out casts word

abbrev pub inwards : List Cast → ℕ → ℕ
inwards casts word = word_back casts word

-- an index before those of the further dimensions, or the fault that they have
abbrev pub before : ℕ → Result (List ℕ) ℕ → Result (List ℕ) ℕ
before x (Ok xs) = Ok (x ∷ xs)
before x (Err dim) = Err dim

-- the number as an index from 0 below the size, before those of the further dimensions; else this dimension
abbrev pub in_dim : ℤ → ℕ → ℕ → Result (List ℕ) ℕ → Result (List ℕ) ℕ
in_dim (pos x) size dim rest = if nat_lt x size then before x rest else Err dim
in_dim (negsuc x) size dim rest = Err dim

-- an index vector inside a shape, counted from 0; else the first dimension outside, the first one of all having this number
abbrev pub in_shape : ℕ → List ℤ → List ℕ → Result (List ℕ) ℕ
in_shape dim [] [] = Ok []
in_shape dim [] (size ∷ shape) = Err dim
in_shape dim (x ∷ xs) [] = Err dim
in_shape dim (x ∷ xs) (size ∷ shape) = in_dim x size dim (in_shape (dim + 1) xs shape)

-- the fault is that of an index vector outside a shape
abbrev pub IsOutside : Result (List ℕ) ℕ → TargetError → Type 0
IsOutside (Ok index) e = ⊥
IsOutside (Err dim) e = e ≡ OutOfRange dim

-- the number is a finite index of the interval, its bounds as they stand
abbrev pub is_member : Bounds → ℤ → Bool
is_member dim x = is_index x && (int_le dim.lo x && int_le x dim.hi)

-- a domain has the index vector, its bounds as they stand
abbrev pub has_index : List Bounds → List ℤ → Bool
has_index [] [] = true
has_index [] (x ∷ index) = false
has_index (dim ∷ dims) [] = false
has_index (dim ∷ dims) (x ∷ index) = is_member dim x && has_index dims index
