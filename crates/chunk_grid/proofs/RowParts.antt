-- Where a cell lies, by some outputs and by the others.
use Rattle.std.proofs.Common.{◌≡◌, ◌∙◌, ℕ, zero, suc, ◌+◌, ◌*◌, ◌/◌, ◌%◌, ◌<◌, ◌≤◌, Bool, true, false, List, [], ◌∷◌, length, drop, get_or, refl, sym, ap, subst, arith, ℤ, pos, ◌≤ℤ◌, ◌<ℤ◌, unsigned_abs}
use Rattle.std.specs.Int.{div_ceil}
use Rattle.std.proofs.Math.Nat.{div-lt_iff_lt-mul, zero-div, zero-mod}
use Rattle.std.proofs.lemmas.Grind.{div_ceil_times}
use Rattle.std.proofs.lemmas.Int.{ints}
use Rattle.std.proofs.lemmas.List.{drop_all}
use Rattle.std.proofs.lemmas.List.Elements.{All-tail}
use Rattle.cells.proofs.Laws.{c_place-step, c_place-bound}
use Rattle.cells.specs.Places.{cell_count, c_place, IsInside}
use Rattle.chunk_grid.specs.Grid.{AreFromZero, IsInShape, numbers, chunk_index, within_chunk, place_within}
use Rattle.chunk_grid.specs.Rows.{kept, all_kept}
use Rattle.chunk_grid.specs.Slots.{chunk_counts, located, together}
use Rattle.chunk_grid.proofs.GridLaws.{ArePositive, length-numbers, inside_within, chunk_index-at, within_chunk-at}

-- the numbers of some outputs, place by place
pub length-all_kept : (want : Bool) (flags : List Bool) (xs : List ℤ) → length xs ≡ length flags → length (all_kept want flags xs) ≡ length flags
length-all_kept want [] xs same = refl
length-all_kept want (f ∷ flags) [] same = absurd (omega (arith, same))
length-all_kept want (f ∷ flags) (x ∷ xs) same = ap suc (length-all_kept want flags xs (omega (arith, same)))

pub all_kept-at : (want : Bool) (flags : List Bool) (xs : List ℤ) (k : ℕ) (d : Bool) → length xs ≡ length flags → k < length flags
    → get_or (all_kept want flags xs) k (pos 0) ≡ kept want (get_or flags k d) (get_or xs k (pos 0))
all_kept-at want [] xs k d same lt = absurd (omega (arith, lt))
all_kept-at want (f ∷ flags) [] k d same lt = absurd (omega (arith, same))
all_kept-at want (f ∷ flags) (x ∷ xs) zero d same lt = refl
all_kept-at want (f ∷ flags) (x ∷ xs) (suc k) d same lt = all_kept-at want flags xs k d (omega (arith, same)) (omega (arith, lt))

kept-from_zero : (want flag : Bool) (x : ℤ) → pos 0 ≤ℤ x → pos 0 ≤ℤ kept want flag x
kept-from_zero true true x h = h
kept-from_zero true false x h = omega (arith, ints)
kept-from_zero false true x h = omega (arith, ints)
kept-from_zero false false x h = h

pub all_kept-from_zero : (want : Bool) (flags : List Bool) (xs : List ℤ) → AreFromZero xs → AreFromZero (all_kept want flags xs)
all_kept-from_zero want [] xs h = tt
all_kept-from_zero want (f ∷ flags) [] h = tt
all_kept-from_zero want (f ∷ flags) (x ∷ xs) h = (kept-from_zero want f x h.0, all_kept-from_zero want flags xs h.1)

-- they lie inside the shape where all do
kept-below : (want flag : Bool) (n : ℕ) (x : ℤ) → pos 0 ≤ℤ x → x <ℤ pos n → kept want flag x <ℤ pos n
kept-below true true n x l h = h
kept-below true false n x l h = omega (arith, ints, l, h)
kept-below false true n x l h = omega (arith, ints, l, h)
kept-below false false n x l h = h

pub all_kept-in_shape : (want : Bool) (flags : List Bool) (shape : List ℕ) (xs : List ℤ) → length flags ≡ length shape → IsInShape shape xs → IsInShape shape (all_kept want flags xs)
all_kept-in_shape want [] [] xs same h = tt
all_kept-in_shape want [] (n ∷ shape) xs same h = absurd (omega (arith, same))
all_kept-in_shape want (f ∷ flags) [] xs same h = absurd (omega (arith, same))
all_kept-in_shape want (f ∷ flags) (n ∷ shape) [] same h = absurd h
all_kept-in_shape want (f ∷ flags) (n ∷ shape) (x ∷ xs) same h =
    (kept-from_zero want f x h.0, kept-below want f n x h.0 h.1, all_kept-in_shape want flags shape xs (omega (arith, same)) h.2)

-- a chunk of an index vector inside the shape is one of the grid
below_count : (x size n : ℕ) → x < size → 0 < n → x / n < div_ceil size n
below_count x size n l some =
    let times = div_ceil_times size n some in
    let above = times.0 in
    (div-lt_iff_lt-mul {k = n} {x = x} {y = div_ceil size n} some).1 (omega (arith, l, above))

pub length-chunk_counts : (shape chunk : List ℕ) → length chunk ≡ length shape → length (chunk_counts shape chunk) ≡ length shape
length-chunk_counts [] chunk same = refl
length-chunk_counts (n ∷ shape) [] same = absurd (omega (arith, same))
length-chunk_counts (n ∷ shape) (c ∷ chunk) same = ap suc (length-chunk_counts shape chunk (omega (arith, same)))

pub chunk_counts-at : (shape chunk : List ℕ) (k : ℕ) → length chunk ≡ length shape → k < length shape → get_or (chunk_counts shape chunk) k 0 ≡ div_ceil (get_or shape k 0) (get_or chunk k 0)
chunk_counts-at [] chunk k same lt = absurd (omega (arith, lt))
chunk_counts-at (n ∷ shape) [] k same lt = absurd (omega (arith, same))
chunk_counts-at (n ∷ shape) (c ∷ chunk) zero same lt = refl
chunk_counts-at (n ∷ shape) (c ∷ chunk) (suc k) same lt = chunk_counts-at shape chunk k (omega (arith, same)) (omega (arith, lt))

pub chunk-in_grid : (shape chunk : List ℕ) (xs : List ℤ) → length chunk ≡ length shape → ArePositive chunk → IsInShape shape xs → IsInside (chunk_counts shape chunk) (chunk_index chunk (numbers xs))
chunk-in_grid [] [] [] same some h = tt
chunk-in_grid [] [] (x ∷ xs) same some h = absurd h
chunk-in_grid [] (c ∷ chunk) xs same some h = absurd (omega (arith, same))
chunk-in_grid (n ∷ shape) [] xs same some h = absurd (omega (arith, same))
chunk-in_grid (n ∷ shape) (c ∷ chunk) [] same some h = absurd h
chunk-in_grid (n ∷ shape) (c ∷ chunk) (x ∷ xs) same some h =
    let l = h.0 in
    let m = h.1 in (
      below_count (unsigned_abs x) n c (omega (arith, ints, l, m)) (some 0 0 (omega arith)),
      chunk-in_grid shape chunk xs (omega (arith, same)) (All-tail (λ size. 0 < size) c chunk some) h.2,
    )

-- the parts of the outputs of either kind are together the whole
nothing_more : (c w : ℕ) → 0 / c * w ≡ 0
nothing_more c w = let z : 0 / c ≡ 0 = zero-div c in let e : 0 / c * w ≡ 0 * w = ap (λ n. n * w) z in omega (arith, e)

nothing_within : (c w : ℕ) → 0 % c * w ≡ 0
nothing_within c w = let z : 0 % c ≡ 0 = zero-mod c in let e : 0 % c * w ≡ 0 * w = ap (λ n. n * w) z in omega (arith, e)

numbers-together : (counts chunk : List ℕ) (flags : List Bool) (xs : List ℤ) → length counts ≡ length flags → length chunk ≡ length flags → length xs ≡ length flags
    → c_place counts (chunk_index chunk (numbers (all_kept false flags xs))) + c_place counts (chunk_index chunk (numbers (all_kept true flags xs))) ≡ c_place counts (chunk_index chunk (numbers xs))
numbers-together [] [] [] [] a b e = refl
numbers-together [] [] [] (x ∷ xs) a b e = absurd (omega (arith, e))
numbers-together [] (c ∷ chunk) [] xs a b e = absurd (omega (arith, b))
numbers-together (n ∷ counts) chunk [] xs a b e = absurd (omega (arith, a))
numbers-together [] chunk (f ∷ flags) xs a b e = absurd (omega (arith, a))
numbers-together (n ∷ counts) [] (f ∷ flags) xs a b e = absurd (omega (arith, b))
numbers-together (n ∷ counts) (c ∷ chunk) (f ∷ flags) [] a b e = absurd (omega (arith, e))
numbers-together (n ∷ counts) (c ∷ chunk) (true ∷ flags) (x ∷ xs) a b e =
    omega (arith, nothing_more c (cell_count counts), numbers-together counts chunk flags xs (omega (arith, a)) (omega (arith, b)) (omega (arith, e)))
numbers-together (n ∷ counts) (c ∷ chunk) (false ∷ flags) (x ∷ xs) a b e =
    omega (arith, nothing_more c (cell_count counts), numbers-together counts chunk flags xs (omega (arith, a)) (omega (arith, b)) (omega (arith, e)))

places-together : (chunk : List ℕ) (flags : List Bool) (xs : List ℤ) → length chunk ≡ length flags → length xs ≡ length flags
    → place_within chunk (numbers (all_kept false flags xs)) + place_within chunk (numbers (all_kept true flags xs)) ≡ place_within chunk (numbers xs)
places-together [] [] [] b e = refl
places-together [] [] (x ∷ xs) b e = absurd (omega (arith, e))
places-together (c ∷ chunk) [] xs b e = absurd (omega (arith, b))
places-together [] (f ∷ flags) xs b e = absurd (omega (arith, b))
places-together (c ∷ chunk) (f ∷ flags) [] b e = absurd (omega (arith, e))
places-together (c ∷ chunk) (true ∷ flags) (x ∷ xs) b e =
    omega (arith, nothing_within c (cell_count chunk), places-together chunk flags xs (omega (arith, b)) (omega (arith, e)))
places-together (c ∷ chunk) (false ∷ flags) (x ∷ xs) b e =
    omega (arith, nothing_within c (cell_count chunk), places-together chunk flags xs (omega (arith, b)) (omega (arith, e)))

pub parts-together : (counts chunk : List ℕ) (flags : List Bool) (xs : List ℤ) → length counts ≡ length flags → length chunk ≡ length flags → length xs ≡ length flags
    → together (located counts chunk (numbers (all_kept false flags xs))) (located counts chunk (numbers (all_kept true flags xs))) ≡ located counts chunk (numbers xs)
parts-together counts chunk flags xs a b e =
    λ i. record { number = numbers-together counts chunk flags xs a b e i; place = places-together chunk flags xs b e i }

-- one output more
module _ (counts chunk : List ℕ) (xs : List ℤ) (j x done : ℕ) (long : length xs ≡ length chunk) (lt : j < length chunk) (is : x ≡ unsigned_abs (get_or xs j (pos 0))) where
  abbrev index : List ℕ
  index = chunk_index chunk (numbers xs)

  abbrev inner : List ℕ
  inner = within_chunk chunk (numbers xs)

  number_here : get_or (chunk_index chunk (numbers xs)) j 0 ≡ x / get_or chunk j 0
  number_here = chunk_index-at chunk xs j long lt ∙ ap (λ n. n / get_or chunk j 0) (sym is)

  place_here : get_or (within_chunk chunk (numbers xs)) j 0 ≡ x % get_or chunk j 0
  place_here = within_chunk-at chunk xs j long lt ∙ ap (λ n. n % get_or chunk j 0) (sym is)

  pub number-bound : length chunk ≡ length counts → IsInside counts (chunk_index chunk (numbers xs))
      → done * cell_count (drop j counts) + c_place (drop j counts) (drop j (chunk_index chunk (numbers xs))) ≡ c_place counts (chunk_index chunk (numbers xs))
      → done * get_or counts j 0 + x / get_or chunk j 0 < cell_count counts
  number-bound same inside so_far =
      subst (λ n. done * get_or counts j 0 + n < cell_count counts) number_here (c_place-bound counts index j done inside (omega (arith, same, lt)) so_far)

  pub number-step : length chunk ≡ length counts → IsInside counts (chunk_index chunk (numbers xs))
      → done * cell_count (drop j counts) + c_place (drop j counts) (drop j (chunk_index chunk (numbers xs))) ≡ c_place counts (chunk_index chunk (numbers xs))
      → (done * get_or counts j 0 + x / get_or chunk j 0) * cell_count (drop (j + 1) counts) + c_place (drop (j + 1) counts) (drop (j + 1) (chunk_index chunk (numbers xs))) ≡ c_place counts (chunk_index chunk (numbers xs))
  number-step same inside so_far =
      let next : suc j ≡ j + 1 = omega arith in
      subst (λ k. (done * get_or counts j 0 + x / get_or chunk j 0) * cell_count (drop k counts) + c_place (drop k counts) (drop k index) ≡ c_place counts index) next
      (subst (λ n. (done * get_or counts j 0 + n) * cell_count (drop (suc j) counts) + c_place (drop (suc j) counts) (drop (suc j) index) ≡ c_place counts index) number_here
      (c_place-step counts index j done inside (omega (arith, same, lt)) so_far))

  pub place-bound : ArePositive chunk
      → done * cell_count (drop j chunk) + c_place (drop j chunk) (drop j (within_chunk chunk (numbers xs))) ≡ c_place chunk (within_chunk chunk (numbers xs))
      → done * get_or chunk j 0 + x % get_or chunk j 0 < cell_count chunk
  place-bound some so_far =
      subst (λ n. done * get_or chunk j 0 + n < cell_count chunk) place_here
      (c_place-bound chunk inner j done (inside_within chunk (numbers xs) (length-numbers xs ∙ long) some) lt so_far)

  pub place-step : ArePositive chunk
      → done * cell_count (drop j chunk) + c_place (drop j chunk) (drop j (within_chunk chunk (numbers xs))) ≡ c_place chunk (within_chunk chunk (numbers xs))
      → (done * get_or chunk j 0 + x % get_or chunk j 0) * cell_count (drop (j + 1) chunk) + c_place (drop (j + 1) chunk) (drop (j + 1) (within_chunk chunk (numbers xs))) ≡ c_place chunk (within_chunk chunk (numbers xs))
  place-step some so_far =
      let next : suc j ≡ j + 1 = omega arith in
      subst (λ k. (done * get_or chunk j 0 + x % get_or chunk j 0) * cell_count (drop k chunk) + c_place (drop k chunk) (drop k inner) ≡ c_place chunk inner) next
      (subst (λ n. (done * get_or chunk j 0 + n) * cell_count (drop (suc j) chunk) + c_place (drop (suc j) chunk) (drop (suc j) inner) ≡ c_place chunk inner) place_here
      (c_place-step chunk inner j done (inside_within chunk (numbers xs) (length-numbers xs ∙ long) some) lt so_far))

-- no output is left
pub place-whole : (shape index : List ℕ) (j done : ℕ) → length shape ≤ j → done * cell_count (drop j shape) + c_place (drop j shape) (drop j index) ≡ c_place shape index → done ≡ c_place shape index
place-whole shape index j done over so_far =
    let none : drop j shape ≡ [] = drop_all j shape over in
    let whole : done * 1 + 0 ≡ c_place shape index = subst (λ (s : List ℕ). done * cell_count s + c_place s (drop j index) ≡ c_place shape index) none so_far in
    omega (arith, whole)
