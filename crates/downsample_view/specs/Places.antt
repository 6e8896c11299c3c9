-- Where in the C order of the downsampled domain each cell comes, and the words that come to a place.
use Rattle.std.specs.Prelude.{ℕ, ◌+◌, ◌*◌, ◌==◌, nat_lt, ℤ, pos, negsuc, ◌-ℤ◌, ◌*ℤ◌, Bool, true, false, if◌then◌else◌, List, [], ◌∷◌, fold, Option, Some, None, slice_index_or, slice_set}
use Rattle.std.specs.Ordering.{int_eq}
use Rattle.cells.specs.declared.dtype.Dtype.{Dtype}
use Rattle.index_intervals.specs.Bounds.{Bounds}
use Rattle.index_intervals.specs.Stride.{quotient_down}
use Rattle.downsample_view.specs.Groups.{origin_of, new_size}
use Rattle.downsample_view.specs.Downsampled.{kept_of}
use Rattle.downsample_view.specs.declared.method.Method.{Method}
use Rattle.downsample_view.specs.declared.method.Method.TheVariants.{Stride, Min, Max}

-- for a stride only the multiples come into a cell
abbrev pub has_group : Method → ℕ → ℤ → ℤ → Bool
has_group Stride f x group = int_eq x (group *ℤ pos f)
has_group Min f x group = true
has_group Max f x group = true

-- a difference below a size
abbrev pub within : ℤ → ℕ → Option ℕ
within (pos k) size = if nat_lt k size then Some k else None
within (negsuc k) size = None

-- how far from the new lower bound the group of an old index lies
abbrev pub offset_from : Method → ℕ → ℤ → ℕ → ℤ → Option ℕ
offset_from method f origin size x = if has_group method f x (quotient_down x (pos f)) then within (quotient_down x (pos f) -ℤ origin) size else None

abbrev pub offset_of : Method → ℕ → Bounds → ℤ → Option ℕ
offset_of method f dim x = offset_from method f (origin_of method f dim) (new_size method f dim) x

-- a place in one row of many, each with so many places
abbrev pub joined_place : ℕ → Option ℕ → Option ℕ → Option ℕ
joined_place count (Some row) (Some place) = Some (row * count + place)
joined_place count (Some row) None = None
joined_place count None place = None

-- how many cells the downsampled domain has
abbrev pub new_count : Method → List ℕ → List Bounds → ℕ
new_count method [] dims = 1
new_count method (f ∷ fs) [] = 1
new_count method (f ∷ fs) (dim ∷ dims) = new_size method f dim * new_count method fs dims

-- the place of a cell's group
abbrev pub place_of : Method → List ℕ → List Bounds → List ℤ → Option ℕ
place_of method [] [] [] = Some 0
place_of method [] [] (x ∷ xs) = None
place_of method [] (dim ∷ dims) xs = None
place_of method (f ∷ fs) [] xs = None
place_of method (f ∷ fs) (dim ∷ dims) [] = None
place_of method (f ∷ fs) (dim ∷ dims) (x ∷ xs) = joined_place (new_count method fs dims) (offset_of method f dim x) (place_of method fs dims xs)

abbrev pub is_below : ℕ → Option ℕ → Bool
is_below count None = true
is_below count (Some place) = nat_lt place count

abbrev pub is_place : ℕ → Option ℕ → Bool
is_place q None = false
is_place q (Some place) = place == q

-- the words that come to a place
abbrev pub words_to : ℕ → List (Option ℕ) → List ℕ → List ℕ
words_to q [] words = []
words_to q (place ∷ places) [] = []
words_to q (place ∷ places) (w ∷ words) = if is_place q place then w ∷ words_to q places words else words_to q places words

-- what is kept of words, if there are any
abbrev pub kept_slot : Method → Dtype → List ℕ → Option ℕ
kept_slot method dtype [] = None
kept_slot method dtype (w ∷ words) = Some (fold (kept_of method dtype) w words)

-- what is kept once a word more comes
abbrev pub kept_with : Method → Dtype → Option ℕ → ℕ → ℕ
kept_with method dtype None w = w
kept_with method dtype (Some a) w = kept_of method dtype a w

-- the slots once a word comes to a place
abbrev pub put_at : Method → Dtype → List (Option ℕ) → Option ℕ → ℕ → List (Option ℕ)
put_at method dtype slots None w = slots
put_at method dtype slots (Some q) w = slice_set slots q (Some (kept_with method dtype (slice_index_or slots q None) w))

-- nothing is kept at a place yet
abbrev pub no_slot : ℕ → Option ℕ
no_slot q = None
