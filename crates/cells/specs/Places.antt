-- The cells of a shape: each is named by an index vector, and numbered by a place.
use Rattle.std.specs.Prelude.{ℕ, ◌+◌, ◌*◌, ◌/◌, ◌%◌, ◌<◌, List, [], ◌∷◌, map}
use Rattle.std.specs.List.{flat_map, range_with_len}
use Rattle.cells.specs.declared.order.Order.{Order}
use Rattle.cells.specs.declared.order.Order.TheVariants.{C, F}

-- how many cells a shape has: the product of its sizes
abbrev pub cell_count : List ℕ → ℕ
cell_count [] = 1
cell_count (size ∷ shape) = size * cell_count shape

-- the index vector lies inside the shape: one index per size, and below it
abbrev pub IsInside : List ℕ → List ℕ → Type 0
IsInside [] [] = Unit {0}
IsInside [] (i ∷ index) = ⊥
IsInside (size ∷ shape) [] = ⊥
IsInside (size ∷ shape) (i ∷ index) = (i < size) × IsInside shape index

-- the index vectors of a shape, in C order: the last index changes fastest
abbrev pub index_vectors : List ℕ → List (List ℕ)
index_vectors [] = [] ∷ []
index_vectors (size ∷ shape) = flat_map (λ i. map (λ index. i ∷ index) (index_vectors shape)) (range_with_len 0 size)

-- the place in C order
abbrev pub c_place : List ℕ → List ℕ → ℕ
c_place [] index = 0
c_place (size ∷ shape) [] = 0
c_place (size ∷ shape) (i ∷ index) = i * cell_count shape + c_place shape index

-- the place in F order: the first index changes fastest
abbrev pub f_place : List ℕ → List ℕ → ℕ
f_place [] index = 0
f_place (size ∷ shape) [] = 0
f_place (size ∷ shape) (i ∷ index) = i + size * f_place shape index

-- the index vector at a place in C order
abbrev pub c_index : List ℕ → ℕ → List ℕ
c_index [] place = []
c_index (size ∷ shape) place = place / cell_count shape ∷ c_index shape (place % cell_count shape)

-- the index vector at a place in F order
abbrev pub f_index : List ℕ → ℕ → List ℕ
f_index [] place = []
f_index (size ∷ shape) place = place % size ∷ f_index shape (place / size)

-- the place of an index vector, from 0
abbrev pub place_of : List ℕ → Order → List ℕ → ℕ
place_of shape C index = c_place shape index
place_of shape F index = f_place shape index

-- the index vector at a place
abbrev pub index_at : List ℕ → Order → ℕ → List ℕ
index_at shape C place = c_index shape place
index_at shape F place = f_index shape place
