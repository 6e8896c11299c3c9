-- The index vectors of a finite domain in C order, and how many there are.
use Rattle.std.specs.Prelude.{ℕ, zero, suc, ◌+◌, ◌*◌, nat_le, ◌==◌, ℤ, pos, ◌+ℤ◌, not, if◌then◌else◌, List, [], ◌∷◌, map, Option, Some, None, Result, Ok, Err}
use Rattle.std.specs.List.{flat_map, list_any, position_from}
use Rattle.index_intervals.specs.Bounds.{Bounds}
pub use Rattle.index_intervals.specs.Members.{is_finite}
use Rattle.index_intervals.specs.Members.{size_of}
use Rattle.index_transform.specs.declared.error.CountError.{CountError}
use Rattle.index_transform.specs.declared.error.CountError.TheVariants.{Unbounded, TooMany}

-- so many numbers from one on
abbrev pub counting : ℤ → ℕ → List ℤ
counting x zero = []
counting x (suc n) = x ∷ counting (x +ℤ pos 1) n

-- the members of a finite interval in rising order
abbrev pub members_of : Bounds → List ℤ
members_of dim = counting dim.lo (size_of dim)

-- for each member of the first interval in rising order, the cells of the rest
abbrev pub cells_of : List Bounds → List (List ℤ)
cells_of [] = [] ∷ []
cells_of (dim ∷ dims) = flat_map (λ x. map (λ cell. x ∷ cell) (cells_of dims)) (members_of dim)

-- the product of sizes, or the dimension at which it is first over 2^22
abbrev pub counted_from : ℕ → ℕ → List ℕ → Result ℕ CountError
counted_from product dim [] = Ok product
counted_from product dim (size ∷ sizes) =
    if nat_le (product * size) 4194304 then counted_from (product * size) (dim + 1) sizes else Err (TooMany dim)

abbrev pub unless_infinite : Option ℕ → Result ℕ CountError → Result ℕ CountError
unless_infinite None answer = answer
unless_infinite (Some dim) answer = Err (Unbounded dim)

-- the number of cells, or the first dimension against it; an empty dimension leaves none, whatever the others are
abbrev pub count_answer : List Bounds → Result ℕ CountError
count_answer dims =
    unless_infinite (position_from (λ dim. not (is_finite dim)) 0 dims)
    (if list_any (λ dim. size_of dim == 0) dims then Ok 0 else counted_from 1 0 (map size_of dims))
