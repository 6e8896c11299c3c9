-- The places of the downsampled domain are its cells in C order.
use Rattle.std.proofs.Common.{◌≡◌, ◌∙◌, ◌<◌, ℕ, zero, suc, ◌+◌, ◌*◌, ℤ, pos, ◌+ℤ◌, ◌-ℤ◌, int_lt, unsigned_abs, Bool, true, false, cond, ◌&&◌, List, [], ◌∷◌, length, map, Option, refl, sym, ap, arith}
use Rattle.std.proofs.lemmas.Int.{ints}
use Rattle.std.specs.List.{AllByRecursion, flat_map, list_all, range_with_len}
use Rattle.cells.proofs.Laws.{both_true}
use Rattle.index_intervals.specs.Bounds.{Bounds}
use Rattle.index_intervals.specs.Members.{size_of}
use Rattle.index_intervals.specs.Stride.{quotient_up}
use Rattle.index_transform.specs.Cells.{counting, cells_of, members_of}
use Rattle.index_transform.proofs.Laws.{length-cells_of}
use Rattle.cells.specs.Places.{cell_count}
use Rattle.downsample_view.specs.Groups.{IsFactor, is_in_group, new_dim, new_dims, new_size, origin_of}
use Rattle.downsample_view.specs.Downsampled.{words_where}
use Rattle.downsample_view.specs.Places.{offset_of, joined_place, new_count, place_of, is_below, is_place, words_to}
use Rattle.downsample_view.specs.declared.method.Method.{Method}
use Rattle.downsample_view.proofs.Offsets.{comes-offset, offset-below}
use Rattle.downsample_view.proofs.Rows.{map-map, map-flat_map, flat_map-same, map-same, range-same, rows-are, joined-is, joined-below}

-- each place lies below the number of cells
pub place-below : (method : Method) (fs : List ℕ) (dims : List Bounds) (x : List ℤ) → is_below (new_count method fs dims) (place_of method fs dims x) ≡ true
place-below method [] [] [] = refl
place-below method [] [] (x ∷ xs) = refl
place-below method [] (d ∷ ds) xs = refl
place-below method (f ∷ fs) [] xs = refl
place-below method (f ∷ fs) (d ∷ ds) [] = refl
place-below method (f ∷ fs) (d ∷ ds) (x ∷ xs) =
    joined-below (new_count method fs ds) (new_size method f d) (offset_of method f d x) (place_of method fs ds xs)
    (offset-below method f (origin_of method f d) (new_size method f d) x) (place-below method fs ds xs)

pub all-below : (method : Method) (fs : List ℕ) (dims : List Bounds) (cells : List (List ℤ)) → list_all (is_below (new_count method fs dims)) (map (place_of method fs dims) cells) ≡ true
all-below method fs dims [] = refl
all-below method fs dims (x ∷ xs) =
    both_true (is_below (new_count method fs dims) (place_of method fs dims x)) (list_all (is_below (new_count method fs dims)) (map (place_of method fs dims) xs))
    (place-below method fs dims x) (all-below method fs dims xs)

-- the words that come to a place are those of the cells of that place
pub words-at : (q : ℕ) (P : List ℤ → Option ℕ) (cells : List (List ℤ)) (words : List ℕ) → words_to q (map P cells) words ≡ words_where (λ x. is_place q (P x)) cells words
words-at q P [] words = refl
words-at q P (x ∷ xs) [] = refl
words-at q P (x ∷ xs) (w ∷ ws) = ap (λ zs. cond (is_place q (P x)) (w ∷ zs) (words_to q (map P xs) ws)) (words-at q P xs ws) ∙ ap (λ zs. cond (is_place q (P x)) (w ∷ words_where (λ y. is_place q (P y)) xs ws) zs) (words-at q P xs ws)

pub size-new : (method : Method) (f : ℕ) (d : Bounds) → size_of (new_dim method f d) ≡ new_size method f d
size-new method f d = let e : origin_of method f d +ℤ pos (new_size method f d) -ℤ pos 1 +ℤ pos 1 -ℤ origin_of method f d ≡ pos (new_size method f d) = omega (arith, ints) in ap unsigned_abs e

-- an index vector whose first index passes one test and whose others pass another
abbrev first_and : (ℤ → Bool) → (List ℤ → Bool) → List ℤ → Bool
first_and p t [] = false
first_and p t (x ∷ xs) = p x && t xs

row_tests : (method : Method) (f : ℕ) (fs : List ℕ) (d : Bounds) (ds : List Bounds) (k q : ℕ) → q < new_count method fs ds → (x : List ℤ)
    → is_place (k * new_count method fs ds + q) (place_of method (f ∷ fs) (d ∷ ds) x) ≡ first_and (λ z. is_place k (offset_of method f d z)) (λ z. is_place q (place_of method fs ds z)) x
row_tests method f fs d ds k q b [] = refl
row_tests method f fs d ds k q b (x ∷ xs) = joined-is (new_count method fs ds) k q (offset_of method f d x) (place_of method fs ds xs) b (place-below method fs ds xs)

group_tests : (method : Method) (f : ℕ) (fs : List ℕ) (d : Bounds) (k : ℕ) (ys : List ℤ) → IsFactor f → k < new_size method f d → (x : List ℤ)
    → first_and (λ z. is_place k (offset_of method f d z)) (is_in_group method fs ys) x ≡ is_in_group method (f ∷ fs) ((origin_of method f d +ℤ pos k) ∷ ys) x
group_tests method f fs d k ys factor b [] = refl
group_tests method f fs d k ys factor b (x ∷ xs) =
    ap (λ t. t && is_in_group method fs ys xs) (sym (comes-offset method f (origin_of method f d) (new_size method f d) k x factor b))

-- what depends on a test of index vectors, for each place and for each cell
pub places-are : {A : Type 0} (method : Method) (fs : List ℕ) (dims : List Bounds) (F : (List ℤ → Bool) → A) → AllByRecursion IsFactor fs → length fs ≡ length dims
    → map (λ q. F (λ x. is_place q (place_of method fs dims x))) (range_with_len 0 (new_count method fs dims)) ≡ map (λ y. F (is_in_group method fs y)) (cells_of (new_dims method fs dims))
places-are {A} method [] [] F factors same = ap (λ (z : A). z ∷ []) (ap F (λ i x. only x i))
  where
    only : (x : List ℤ) → is_place 0 (place_of method [] [] x) ≡ is_in_group method [] [] x
    only [] = refl
    only (x ∷ xs) = refl
places-are method [] (d ∷ ds) F factors same = absurd (omega (arith, same))
places-are method (f ∷ fs) [] F factors same = absurd (omega (arith, same))
places-are {A} method (f ∷ fs) (d ∷ ds) F factors same =
    let b = new_count method fs ds in
    let lo = origin_of method f d in
    let n = new_size method f d in
    let row : ℤ → List A = λ y. map (λ ys. F (is_in_group method (f ∷ fs) (y ∷ ys))) (cells_of (new_dims method fs ds)) in
    let zero_row : 0 * b ≡ 0 = omega arith in
    let start : lo +ℤ pos 0 ≡ lo = omega (arith, ints) in
    ap (λ k. map (λ q. F (λ x. is_place q (place_of method (f ∷ fs) (d ∷ ds) x))) (range_with_len k (n * b))) (sym zero_row)
    ∙ rows-are (λ q. F (λ x. is_place q (place_of method (f ∷ fs) (d ∷ ds) x))) row lo b 0 n n (omega arith) (λ k below. one_row k below (places-are method fs ds (λ t. F (first_and (λ z. is_place k (offset_of method f d z)) t)) factors.1 (omega (arith, same))))
    ∙ ap (λ z. flat_map row (counting z n)) start
    ∙ ap (λ k. flat_map row (counting lo k)) (sym (size-new method f d))
    ∙ flat_map-same row (λ y. map (λ ys. F (is_in_group method (f ∷ fs) ys)) (map (λ ys. y ∷ ys) (cells_of (new_dims method fs ds)))) (members_of (new_dim method f d))
    (λ y. sym (map-map (λ ys. F (is_in_group method (f ∷ fs) ys)) (λ ys. y ∷ ys) (cells_of (new_dims method fs ds))))
    ∙ sym (map-flat_map (λ ys. F (is_in_group method (f ∷ fs) ys)) (λ y. map (λ ys. y ∷ ys) (cells_of (new_dims method fs ds))) (members_of (new_dim method f d)))
  where
    one_row : (k : ℕ) → k < new_size method f d
        → map (λ q. F (first_and (λ z. is_place k (offset_of method f d z)) (λ z. is_place q (place_of method fs ds z)))) (range_with_len 0 (new_count method fs ds))
        ≡ map (λ ys. F (first_and (λ z. is_place k (offset_of method f d z)) (is_in_group method fs ys))) (cells_of (new_dims method fs ds))
        → map (λ q. F (λ x. is_place (k * new_count method fs ds + q) (place_of method (f ∷ fs) (d ∷ ds) x))) (range_with_len 0 (new_count method fs ds))
        ≡ map (λ ys. F (is_in_group method (f ∷ fs) ((origin_of method f d +ℤ pos k) ∷ ys))) (cells_of (new_dims method fs ds))
    one_row k below rest =
        range-same (λ q. F (λ x. is_place (k * new_count method fs ds + q) (place_of method (f ∷ fs) (d ∷ ds) x)))
        (λ q. F (first_and (λ z. is_place k (offset_of method f d z)) (λ z. is_place q (place_of method fs ds z)))) 0 (new_count method fs ds) (new_count method fs ds) (omega arith)
        (λ q inside. ap F (λ i x. row_tests method f fs d ds k q inside x i))
        ∙ rest
        ∙ map-same (λ ys. F (first_and (λ z. is_place k (offset_of method f d z)) (is_in_group method fs ys))) (λ ys. F (is_in_group method (f ∷ fs) ((origin_of method f d +ℤ pos k) ∷ ys)))
        (cells_of (new_dims method fs ds)) (λ ys. ap F (λ i x. group_tests method f fs d k ys factors.0 below x i))

none_from : (xs : List ℤ) → flat_map (λ (x : ℤ). map (λ (cell : List ℤ). x ∷ cell) []) xs ≡ []
none_from [] = refl
none_from (x ∷ xs) = none_from xs

-- a domain without a cell stays without one
pub none-left : (method : Method) (fs : List ℕ) (dims : List Bounds) → length fs ≡ length dims → length (cells_of dims) ≡ 0 → cells_of (new_dims method fs dims) ≡ []
none-left method [] [] same none = absurd (omega (arith, none))
none-left method [] (d ∷ ds) same none = absurd (omega (arith, same))
none-left method (f ∷ fs) [] same none = absurd (omega (arith, same))
none-left method (f ∷ fs) (d ∷ ds) same none = told (size_of d) refl (sym (length-cells_of (d ∷ ds)) ∙ none) (none-left method fs ds (omega (arith, same)))
  where
    told : (n : ℕ) → size_of d ≡ n → size_of d * cell_count (map size_of ds) ≡ 0 → (length (cells_of ds) ≡ 0 → cells_of (new_dims method fs ds) ≡ []) → cells_of (new_dims method (f ∷ fs) (d ∷ ds)) ≡ []
    told zero e product later =
        let empty : int_lt d.hi d.lo ≡ true = (let z : d.hi +ℤ pos 1 -ℤ d.lo ≡ pos 0 = none_abs (d.hi +ℤ pos 1 -ℤ d.lo) e in grind (arith, ints, z)) in
        let size : new_size method f d ≡ 0 = ap (λ t. cond t 0 (unsigned_abs (quotient_up (d.hi +ℤ pos 1) (pos f) -ℤ origin_of method f d))) empty in
        ap (λ n. flat_map (λ y. map (λ ys. y ∷ ys) (cells_of (new_dims method fs ds))) (counting (origin_of method f d) n)) (size-new method f d ∙ size)
      where
        none_abs : (z : ℤ) → unsigned_abs z ≡ 0 → z ≡ pos 0
        none_abs z h = omega (arith, ints, h)
    told (suc n) e product later =
        let rest : length (cells_of ds) ≡ 0 = length-cells_of ds ∙ other n (cell_count (map size_of ds)) (ap (λ m. m * cell_count (map size_of ds)) (sym e) ∙ product) in
        ap (λ (cells : List (List ℤ)). flat_map (λ y. map (λ ys. y ∷ ys) cells) (members_of (new_dim method f d))) (later rest)
        ∙ none_from (members_of (new_dim method f d))
      where
        other : (n c : ℕ) → suc n * c ≡ 0 → c ≡ 0
        other n zero h = refl
        other n (suc c) h = absurd (grind (arith, h))

-- the places with one dimension more in front
pub places-more : (method : Method) (f : ℕ) (fs : List ℕ) (d : Bounds) (ds : List Bounds)
    → flat_map (λ x. map (joined_place (new_count method fs ds) (offset_of method f d x)) (map (place_of method fs ds) (cells_of ds))) (members_of d)
    ≡ map (place_of method (f ∷ fs) (d ∷ ds)) (cells_of (d ∷ ds))
places-more method f fs d ds =
    flat_map-same (λ x. map (joined_place (new_count method fs ds) (offset_of method f d x)) (map (place_of method fs ds) (cells_of ds)))
    (λ x. map (place_of method (f ∷ fs) (d ∷ ds)) (map (λ cell. x ∷ cell) (cells_of ds))) (members_of d)
    (λ x.
    map-map (joined_place (new_count method fs ds) (offset_of method f d x)) (place_of method fs ds) (cells_of ds)
    ∙ sym (map-map (place_of method (f ∷ fs) (d ∷ ds)) (λ cell. x ∷ cell) (cells_of ds)))
    ∙ sym (map-flat_map (place_of method (f ∷ fs) (d ∷ ds)) (λ x. map (λ cell. x ∷ cell) (cells_of ds)) (members_of d))
