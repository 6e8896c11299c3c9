-- Rows over which elements are moved, by strips.
use Rattle.std.proofs.Common.{◌≡◌, ℕ, zero, suc, false, drop_of_length-le, ◌+◌, ◌*◌, ◌-◌, ◌<◌, ◌≤◌, ◌^◌, Bool, List, [], ◌∷◌, ◌++◌, length, get_or, take, drop, replicate, refl, sym, ap, ◌∙◌, arith, zero-add, append-nil, append_assoc, length-append}
use Rattle.std.specs.List.{flat_map, range_with_len}
use Rattle.std.proofs.Math.Nat.{mul-le-mul, mul-le-mul_left}
use Rattle.std.proofs.Math.Seq.{drop-append-add, take-add, take-append_seam}
use Rattle.std.proofs.lemmas.List.{drop-drop, drop-replicate, length-drop, length-take-le, take-append-drop, take-replicate}
use Rattle.std.proofs.lemmas.Slice.{drop-put_mid, take-put_mid}
use borrow.Rule.Slice.PartMut.{put_mid}
use Rattle.cells.specs.Bytes.{byte_count, word_bytes}
use Rattle.cells.specs.declared.dtype.Dtype.{Dtype}
use Rattle.chunk_elements.specs.Planes.{nth_row, over_row, over_rows}
use Rattle.cells.specs.Places.{cell_count}
use Rattle.chunk_elements.specs.Blocks.{AreWithin}
use Rattle.chunk_elements.specs.Rows.{items_of, moved_row, moved_rows, word_in, words_of_rows}
use Rattle.chunk_elements.proofs.MoveLaws.{length-moved_row}
use Rattle.chunk_elements.proofs.RowSteps.{rows_more}
use Rattle.chunk_elements.proofs.TakeLaws.{items-rows, items-zeros, last_taken}
use Rattle.std.proofs.lemmas.Grind.{flat_map-append}

-- rows that are the same each
pub same_rows : (f g : ℕ → List ℕ) (a n : ℕ) → ((i : ℕ) → a ≤ i → i < a + n → f i ≡ g i) → flat_map f (range_with_len a n) ≡ flat_map g (range_with_len a n)
same_rows f g a zero each = refl
same_rows f g a (suc n) each =
    ap (λ l. l ++ flat_map f (range_with_len (a + 1) n)) (each a (omega arith) (omega arith))
    ∙ ap (λ l. g a ++ l) (same_rows f g (a + 1) n (λ i from upto. each i (omega arith) (omega arith)))

-- there are as many bytes as rows of one length have
pub length-numbered : (row : ℕ → List ℕ) (len a n : ℕ) → ((i : ℕ) → a ≤ i → i < a + n → length (row i) ≡ len) → length (flat_map row (range_with_len a n)) ≡ n * len
length-numbered row len a zero each = let none : 0 ≡ 0 * len = omega arith in none
length-numbered row len a (suc n) each =
    let here = each a (omega arith) (omega arith) in
    let rest = length-numbered row len (a + 1) n (λ i from upto. each i (omega arith) (omega arith)) in
    length-append (row a) (flat_map row (range_with_len (a + 1) n)) ∙ (omega (arith, here, rest))

-- a row of those that stand one after another
pub row_in : (row : ℕ → List ℕ) (len a n i : ℕ) (tail : List ℕ) → ((k : ℕ) → a ≤ k → k < a + n → length (row k) ≡ len) → i < n
    → take len (drop (i * len) (flat_map row (range_with_len a n) ++ tail)) ≡ row (a + i)
row_in row len a zero i tail each less = absurd (omega arith)
row_in row len a (suc n) zero tail each less =
    let rest = flat_map row (range_with_len (a + 1) n) in
    let here = each a (omega arith) (omega arith) in
    let none : 0 * len ≡ 0 = omega arith in
    let same : a ≡ a + 0 = omega arith in
    ap (λ k. take len (drop k ((row a ++ rest) ++ tail))) none
    ∙ ap (take len) (append_assoc (row a) rest tail)
    ∙ ap (λ k. take k (row a ++ (rest ++ tail))) (sym here)
    ∙ take-append_seam (row a) (rest ++ tail) ∙ ap row same
row_in row len a (suc n) (suc i) tail each less =
    let rest = flat_map row (range_with_len (a + 1) n) in
    let here = each a (omega arith) (omega arith) in
    let past : suc i * len ≡ length (row a) + i * len = omega (arith, here) in
    let same : a + 1 + i ≡ a + suc i = omega arith in
    ap (λ l. take len (drop (suc i * len) l)) (append_assoc (row a) rest tail)
    ∙ ap (λ k. take len (drop k (row a ++ (rest ++ tail)))) past
    ∙ ap (take len) (drop-append-add (row a) (rest ++ tail) (i * len))
    ∙ row_in row len (a + 1) n i tail (λ k from upto. each k (omega arith) (omega arith)) (omega arith) ∙ ap row same

-- rows of which the first are new, and the others as they were
pub record IsOver (row : ℕ → List ℕ) (width i : ℕ) (first out : List ℕ) : Type 0 where
  pub done : take (i * width) out ≡ flat_map row (range_with_len 0 i)
  pub rest : drop (i * width) out ≡ drop (i * width) first

pub over_more : (row : ℕ → List ℕ) (width i : ℕ) (first out new : List ℕ) → IsOver row width i first out → new ≡ row i → length new ≡ i * width + width - i * width → i * width ≤ length out
    → IsOver row width (i + 1) first (put_mid (i * width) (i * width + width - i * width) out new)
over_more row width i first out new was is long within =
    let end : (i + 1) * width ≡ i * width + length new = omega (arith, long) in
    let past : i * width + (i * width + width - i * width) ≤ (i + 1) * width = omega arith in
    let next : (i + 1) * width ≡ i * width + width = omega arith in
    record {
      done = rows_more row [] (take (i * width) out) _ i was.done
          (take-put_mid (i * width) (i * width + width - i * width) out new ((i + 1) * width) end within ∙ ap (λ l. take (i * width) out ++ l) is);
      rest =
          drop-put_mid (i * width) (i * width + width - i * width) out new ((i + 1) * width) past within long
          ∙ ap (λ n. drop n out) next ∙ sym (drop-drop width (i * width) out) ∙ ap (drop width) was.rest
          ∙ drop-drop width (i * width) first ∙ ap (λ n. drop n first) (sym next);
    }

-- elements, and those that follow them
pub moved_on : (dtype : Dtype) (big to : Bool) (m n s f : ℕ) (elements : List ℕ)
    → moved_row dtype big to m s f elements ++ moved_row dtype big to n s (f + m * s) elements ≡ moved_row dtype big to (m + n) s f elements
moved_on dtype big to m zero s f elements =
    let none : m ≡ m + 0 = omega arith in
    append-nil (moved_row dtype big to m s f elements) ∙ ap (λ k. moved_row dtype big to k s f elements) none
moved_on dtype big to m (suc n) s f elements =
    let one = λ (i : ℕ). word_bytes dtype to (word_in dtype big elements (f + i * s)) in
    let other = λ (i : ℕ). word_bytes dtype to (word_in dtype big elements (f + m * s + i * s)) in
    let up : n + 1 ≡ suc n = omega arith in
    let sum : m + n + 1 ≡ m + suc n = omega arith in
    let place : f + m * s + n * s ≡ f + (m + n) * s = omega arith in
    let before = flat_map one (range_with_len 0 m) in
    let behind = flat_map other (range_with_len 0 n) in
    let both = flat_map one (range_with_len 0 (m + n)) in
    ap (λ k. before ++ flat_map other (range_with_len 0 k)) (sym up)
    ∙ ap (λ l. before ++ l) (sym (rows_more other [] behind (behind ++ other n) n refl refl))
    ∙ sym (append_assoc before behind (other n))
    ∙ ap (λ l. l ++ other n) (moved_on dtype big to m n s f elements)
    ∙ ap (λ p. both ++ word_bytes dtype to (word_in dtype big elements p)) place
    ∙ rows_more one [] both (both ++ one (m + n)) (m + n) refl refl
    ∙ ap (λ k. flat_map one (range_with_len 0 k)) sum

-- a row over which nothing was moved before
pub over_row-first : (dtype : Dtype) (big to : Bool) (n s f : ℕ) (elements row : List ℕ)
    → over_row dtype big to 0 n s f elements row ≡ moved_row dtype big to n s f elements ++ drop (n * byte_count dtype) row
over_row-first dtype big to n s f elements row =
    let none : 0 * byte_count dtype ≡ 0 = omega arith in
    let sum : (0 + n) * byte_count dtype ≡ n * byte_count dtype = omega arith in
    ap (λ k. take k row ++ moved_row dtype big to n s f elements ++ drop ((0 + n) * byte_count dtype) row) none
    ∙ ap (λ k. moved_row dtype big to n s f elements ++ drop k row) sum

-- a row keeps its length
pub length-over_row : (dtype : Dtype) (big to : Bool) (n s f : ℕ) (elements row : List ℕ) → n * byte_count dtype ≤ length row → length (over_row dtype big to 0 n s f elements row) ≡ length row
length-over_row dtype big to n s f elements row fit =
    ap length (over_row-first dtype big to n s f elements row)
    ∙ length-append (moved_row dtype big to n s f elements) (drop (n * byte_count dtype) row)
    ∙ (omega (arith, length-moved_row dtype big to n s f elements, length-drop (n * byte_count dtype) row))

-- more of a row
pub over_row-more : (dtype : Dtype) (big to : Bool) (m n s f : ℕ) (elements row : List ℕ)
    → over_row dtype big to m n s (f + m * s) elements (over_row dtype big to 0 m s f elements row) ≡ over_row dtype big to 0 (m + n) s f elements row
over_row-more dtype big to m n s f elements row =
    let b = byte_count dtype in
    let before = moved_row dtype big to m s f elements in
    let more = moved_row dtype big to n s (f + m * s) elements in
    let old = drop (m * b) row in
    let len = length-moved_row dtype big to m s f elements in
    let front : take (m * b) (before ++ old) ≡ before = ap (λ k. take k (before ++ old)) (sym len) ∙ take-append_seam before old in
    let past : (m + n) * b ≡ length before + n * b = omega (arith, len) in
    let sum : m * b + n * b ≡ (m + n) * b = omega arith in
    let left : drop ((m + n) * b) (before ++ old) ≡ drop ((m + n) * b) row =
    ap (λ k. drop k (before ++ old)) past ∙ drop-append-add before old (n * b) ∙ drop-drop (n * b) (m * b) row ∙ ap (λ k. drop k row) sum in
    ap (over_row dtype big to m n s (f + m * s) elements) (over_row-first dtype big to m s f elements row)
    ∙ ap (λ l. l ++ more ++ drop ((m + n) * b) (before ++ old)) front
    ∙ ap (λ l. before ++ more ++ l) left
    ∙ ap (λ l. l ++ drop ((m + n) * b) row) (moved_on dtype big to m n s f elements)
    ∙ sym (over_row-first dtype big to (m + n) s f elements row)

-- a row of rows has its length
length-nth_row : (width rows i : ℕ) (bytes : List ℕ) → rows * width ≤ length bytes → i < rows → length (nth_row width bytes i) ≡ width
length-nth_row width rows i bytes full less =
    let up : width * (i + 1) ≤ width * rows = mul-le-mul_left width (omega arith) in
    length-take-le width (drop (i * width) bytes) (rw length-drop (omega (arith, up, full)))

-- each row was moved over
row_over : (dtype : Dtype) (big to : Bool) (rows width n step s f : ℕ) (elements bytes : List ℕ) (i : ℕ) → rows * width ≤ length bytes → n * byte_count dtype ≤ width → i < rows
    → nth_row width (over_rows dtype big to rows width 0 n step s f elements bytes) i ≡ over_row dtype big to 0 n s (f + i * step) elements (nth_row width bytes i)
row_over dtype big to rows width n step s f elements bytes i full fit less =
    let row = λ (k : ℕ). over_row dtype big to 0 n s (f + k * step) elements (nth_row width bytes k) in
    row_in row width 0 rows i (drop (rows * width) bytes)
    (λ k from upto.
    let inside : k < rows = omega (arith, upto) in
    let long = length-nth_row width rows k bytes full inside in
    length-over_row dtype big to n s (f + k * step) elements (nth_row width bytes k) (omega (arith, long, fit)) ∙ long)
    less
    ∙ ap row (zero-add i)

-- what stands behind the rows is as it was
behind_rows : (dtype : Dtype) (big to : Bool) (rows width n step s f : ℕ) (elements bytes : List ℕ) → rows * width ≤ length bytes → n * byte_count dtype ≤ width
    → drop (rows * width) (over_rows dtype big to rows width 0 n step s f elements bytes) ≡ drop (rows * width) bytes
behind_rows dtype big to rows width n step s f elements bytes full fit =
    let row = λ (k : ℕ). over_row dtype big to 0 n s (f + k * step) elements (nth_row width bytes k) in
    let all = flat_map row (range_with_len 0 rows) in
    let len = length-numbered row width 0 rows (λ k from upto.
    let inside : k < rows = omega (arith, upto) in
    let long = length-nth_row width rows k bytes full inside in
    length-over_row dtype big to n s (f + k * step) elements (nth_row width bytes k) (omega (arith, long, fit)) ∙ long) in
    let end : rows * width ≡ length all + 0 = omega (arith, len) in
    ap (λ k. drop k (all ++ drop (rows * width) bytes)) end ∙ drop-append-add all (drop (rows * width) bytes) 0

-- a strip more
pub over_rows-more : (dtype : Dtype) (big to : Bool) (rows width m n step s f : ℕ) (elements bytes : List ℕ) → rows * width ≤ length bytes → m * byte_count dtype ≤ width
    → over_rows dtype big to rows width m n step s (f + m * s) elements (over_rows dtype big to rows width 0 m step s f elements bytes)
    ≡ over_rows dtype big to rows width 0 (m + n) step s f elements bytes
over_rows-more dtype big to rows width m n step s f elements bytes full fit =
    let old = over_rows dtype big to rows width 0 m step s f elements bytes in
    let one = λ (i : ℕ). over_row dtype big to m n s (f + m * s + i * step) elements (nth_row width old i) in
    let other = λ (i : ℕ). over_row dtype big to 0 (m + n) s (f + i * step) elements (nth_row width bytes i) in
    ap (λ l. l ++ drop (rows * width) old)
    (same_rows one other 0 rows
    (λ i from upto.
    let inside : i < rows = omega (arith, upto) in
    let place : f + m * s + i * step ≡ f + i * step + m * s = omega arith in
    ap (λ p. over_row dtype big to m n s p elements (nth_row width old i)) place
    ∙ ap (over_row dtype big to m n s (f + i * step + m * s) elements) (row_over dtype big to rows width m step s f elements bytes i full fit inside)
    ∙ over_row-more dtype big to m n s (f + i * step) elements (nth_row width bytes i)))
    ∙ ap (λ l. flat_map other (range_with_len 0 rows) ++ l) (behind_rows dtype big to rows width m step s f elements bytes full fit)

-- rows one after another
cut_rows : (width : ℕ) (bytes : List ℕ) (n : ℕ) → flat_map (nth_row width bytes) (range_with_len 0 n) ≡ take (n * width) bytes
cut_rows width bytes zero = let none : 0 ≡ 0 * width = omega arith in ap (λ k. take k bytes) none
cut_rows width bytes (suc n) =
    let row = nth_row width bytes in
    let up : suc n ≡ n + 1 = omega arith in
    let sum : n * width + width ≡ suc n * width = omega arith in
    let before = flat_map row (range_with_len 0 n) in
    ap (λ k. flat_map row (range_with_len 0 k)) up
    ∙ sym (rows_more row [] before (before ++ row n) n refl refl)
    ∙ ap (λ l. l ++ row n) (cut_rows width bytes n)
    ∙ sym (take-add (n * width) width bytes) ∙ ap (λ k. take k bytes) sum

-- nothing was moved yet
pub over_rows-none : (dtype : Dtype) (big to : Bool) (rows width step s f : ℕ) (elements bytes : List ℕ) → over_rows dtype big to rows width 0 0 step s f elements bytes ≡ bytes
over_rows-none dtype big to rows width step s f elements bytes =
    let b = byte_count dtype in
    let none : 0 * b ≡ 0 = omega arith in
    ap (λ l. l ++ drop (rows * width) bytes)
    (same_rows (λ i. over_row dtype big to 0 0 s (f + i * step) elements (nth_row width bytes i)) (nth_row width bytes) 0 rows
    (λ i from upto. over_row-first dtype big to 0 s (f + i * step) elements (nth_row width bytes i) ∙ ap (λ k. drop k (nth_row width bytes i)) none)
    ∙ cut_rows width bytes rows)
    ∙ take-append-drop (rows * width) bytes

-- the first elements of each row were moved
pub record IsFront (dtype : Dtype) (big to : Bool) (rows width columns step stride from done : ℕ) (elements first out : List ℕ) : Type 0 where
  pub within : done ≤ columns
  pub over : out ≡ over_rows dtype big to rows width 0 done step stride from elements first

pub front_more : (dtype : Dtype) (big to : Bool) (rows width columns step stride from done count : ℕ) (elements first out new : List ℕ) → rows * width ≤ length first → columns * byte_count dtype ≤ width
    → IsFront dtype big to rows width columns step stride from done elements first out → done + count ≤ columns
    → new ≡ over_rows dtype big to rows width done count step stride (from + done * stride) elements out
    → IsFront dtype big to rows width columns step stride from (done + count) elements first new
front_more dtype big to rows width columns step stride from done count elements first out new full fit was within is =
    let up : byte_count dtype * done ≤ byte_count dtype * columns = mul-le-mul_left (byte_count dtype) was.within in
    record {
      within = within;
      over =
          is ∙ ap (over_rows dtype big to rows width done count step stride (from + done * stride) elements) was.over
          ∙ over_rows-more dtype big to rows width done count step stride from elements first full (omega (arith, up, fit));
    }

-- bounds of a plane
pub record PlaneFits (most_rows most_columns rows columns s from item len : ℕ) : Type 0 where
  pub room : (i : ℕ) → i < rows → from + i * s + s * rows * columns + item ≤ len + s * rows
  pub stride : s * rows * columns ≤ 2 ^ 27
  pub step : s * rows ≤ 2 ^ 27
  pub begin : from ≤ 2 ^ 28
  pub width : most_columns * item ≤ 2 ^ 27
  pub fit : columns * item ≤ most_columns * item
  pub full : rows * (most_columns * item) ≤ most_rows * most_columns * item
  pub few : most_rows * most_columns * item ≤ 2 ^ 27

pub plane_by_numbers : (most_rows most_columns rows columns s from item len : ℕ) → rows ≤ most_rows → columns ≤ most_columns → 0 < most_rows * most_columns → most_rows * most_columns ≤ 2 ^ 24 → item ≤ 8
    → from + s * (rows * columns) + item ≤ len + s → s * (most_rows * most_columns) ≤ 2 ^ 27 → len ≤ 2 ^ 27 → PlaneFits most_rows most_columns rows columns s from item len
plane_by_numbers zero most_columns rows columns s from item len r c some few small room fits long = absurd (omega arith)
plane_by_numbers (suc m) zero rows columns s from item len r c some few small room fits long = absurd (omega arith)
plane_by_numbers (suc m) (suc n) rows columns s from item len r c some few small room fits long =
    let cells : rows * columns ≤ suc m * suc n = mul-le-mul r c in
    let all : s * (rows * columns) ≤ s * (suc m * suc n) = mul-le-mul_left s cells in
    let first : s * rows ≤ s * suc m = mul-le-mul_left s r in
    let bytes : suc m * suc n * item ≤ 2 ^ 24 * 8 = mul-le-mul few small in
    let row : item * columns ≤ item * suc n = mul-le-mul_left item c in
    let rest : suc n * item * rows ≤ suc n * item * suc m = mul-le-mul_left (suc n * item) r in
    record {
      room = λ i less. let step : s * (i + 1) ≤ s * rows = mul-le-mul_left s (omega arith) in omega (arith, step, room);
      stride = omega (arith, all, fits);
      step = omega (arith, first, fits);
      begin = omega (arith, room, fits, long);
      width = omega (arith, bytes);
      fit = omega (arith, row);
      full = omega (arith, rest);
      few = omega (arith, bytes);
    }

-- the planes of a block's last two dimensions fit
pub taken_fits : (block sizes : List ℕ) (s from item len : ℕ) → length sizes ≡ 2 → AreWithin block sizes → 0 < cell_count block → cell_count block ≤ 2 ^ 24 → item ≤ 8
    → from + s * cell_count sizes + item ≤ len + s → s * cell_count block ≤ 2 ^ 27 → len ≤ 2 ^ 27
    → PlaneFits (get_or block 0 0) (get_or block 1 0) (get_or sizes 0 0) (get_or sizes 1 0) s from item len × (cell_count block ≡ get_or block 0 0 * get_or block 1 0)
taken_fits block [] s from item len two within some few small room fits long = absurd (omega (arith, two))
taken_fits block (a ∷ []) s from item len two within some few small room fits long = absurd (omega (arith, two))
taken_fits block (a ∷ b ∷ c ∷ sizes) s from item len two within some few small room fits long = absurd (omega (arith, two))
taken_fits [] (a ∷ b ∷ []) s from item len two within some few small room fits long = absurd (omega (arith, within.ranks))
taken_fits (m ∷ []) (a ∷ b ∷ []) s from item len two within some few small room fits long = absurd (omega (arith, within.ranks))
taken_fits (m ∷ n ∷ k ∷ block) (a ∷ b ∷ []) s from item len two within some few small room fits long = absurd (omega (arith, within.ranks))
taken_fits (m ∷ n ∷ []) (a ∷ b ∷ []) s from item len two within some few small room fits long =
    let first : a ≤ m = within.fit 0 (omega arith) in
    let second : b ≤ n = within.fit 1 (omega arith) in
    (plane_by_numbers m n a b s from item len first second (omega (arith, some)) (omega (arith, few)) small (omega (arith, room)) (omega (arith, fits)) long, omega arith)

-- bounds of a plane that is put
pub record PutFits (most_rows rows columns s from item len : ℕ) : Type 0 where
  pub room : (i : ℕ) → i < rows → from + i * s + s * most_rows * columns + item ≤ len + s * most_rows
  pub stride : s * most_rows * columns ≤ 2 ^ 27
  pub next : s * most_rows ≤ 2 ^ 27
  pub step : s * rows ≤ 2 ^ 27
  pub begin : from ≤ 2 ^ 28
  pub width : columns * item ≤ 2 ^ 27
  pub few : rows * (columns * item) ≤ 2 ^ 27

put_by_numbers : (most_rows most_columns rows columns s from item len : ℕ) → rows ≤ most_rows → columns ≤ most_columns → 0 < most_rows * most_columns → most_rows * most_columns ≤ 2 ^ 24 → item ≤ 8
    → from + s * (most_rows * most_columns) + item ≤ len + s → s * (most_rows * most_columns) ≤ 2 ^ 27 → len ≤ 2 ^ 27 → PutFits most_rows rows columns s from item len
put_by_numbers zero most_columns rows columns s from item len r c some few small room fits long = absurd (omega arith)
put_by_numbers (suc m) zero rows columns s from item len r c some few small room fits long = absurd (omega arith)
put_by_numbers (suc m) (suc n) rows columns s from item len r c some few small room fits long =
    let cells : rows * columns ≤ suc m * suc n = mul-le-mul r c in
    let all : s * suc m * columns ≤ s * suc m * suc n = mul-le-mul_left (s * suc m) c in
    let first : s * rows ≤ s * suc m = mul-le-mul_left s r in
    let bytes : suc m * suc n * item ≤ 2 ^ 24 * 8 = mul-le-mul few small in
    let row : item * columns ≤ item * suc n = mul-le-mul_left item c in
    let part : item * (rows * columns) ≤ item * (suc m * suc n) = mul-le-mul_left item cells in
    record {
      room = λ i less. let step : s * (i + 1) ≤ s * rows = mul-le-mul_left s (omega arith) in omega (arith, step, first, all, room);
      stride = omega (arith, all, fits);
      next = omega (arith, fits);
      step = omega (arith, first, fits);
      begin = omega (arith, room, fits, long);
      width = omega (arith, row, bytes);
      few = omega (arith, part, bytes);
    }

pub put_fits : (block sizes : List ℕ) (s from item len : ℕ) → length sizes ≡ 2 → AreWithin block sizes → 0 < cell_count block → cell_count block ≤ 2 ^ 24 → item ≤ 8
    → from + s * cell_count block + item ≤ len + s → s * cell_count block ≤ 2 ^ 27 → len ≤ 2 ^ 27
    → PutFits (get_or block 0 0) (get_or sizes 0 0) (get_or sizes 1 0) s from item len × (cell_count sizes ≡ get_or sizes 0 0 * get_or sizes 1 0)
put_fits block [] s from item len two within some few small room fits long = absurd (omega (arith, two))
put_fits block (a ∷ []) s from item len two within some few small room fits long = absurd (omega (arith, two))
put_fits block (a ∷ b ∷ c ∷ sizes) s from item len two within some few small room fits long = absurd (omega (arith, two))
put_fits [] (a ∷ b ∷ []) s from item len two within some few small room fits long = absurd (omega (arith, within.ranks))
put_fits (m ∷ []) (a ∷ b ∷ []) s from item len two within some few small room fits long = absurd (omega (arith, within.ranks))
put_fits (m ∷ n ∷ k ∷ block) (a ∷ b ∷ []) s from item len two within some few small room fits long = absurd (omega (arith, within.ranks))
put_fits (m ∷ n ∷ []) (a ∷ b ∷ []) s from item len two within some few small room fits long =
    let first : a ≤ m = within.fit 0 (omega arith) in
    let second : b ≤ n = within.fit 1 (omega arith) in
    (put_by_numbers m n a b s from item len first second (omega (arith, some)) (omega (arith, few)) small (omega (arith, room)) (omega (arith, fits)) long, omega arith)

-- what is put of a plane
put_of_numbers : (dtype : Dtype) (to : Bool) (m n a b s from item : ℕ) (items old : List ℕ) → item ≡ byte_count dtype → length old ≡ a * (b * item)
    → over_rows dtype false to a (b * item) 0 b s (s * m) from items old ≡ moved_rows dtype to (m ∷ n ∷ []) (a ∷ b ∷ []) s from items
put_of_numbers dtype to m n a b s from item items old same full =
    let row = λ (i : ℕ). moved_row dtype false to b (s * m) (from + i * s) items in
    let behind : drop (a * (b * item)) old ≡ [] = drop_of_length-le old (omega (arith, full)) in
    ap (λ l. l ++ drop (a * (b * item)) old)
    (same_rows _ row 0 a
    (λ i from' upto.
    let inside : i < a = omega (arith, upto) in
    let long = length-nth_row (b * item) a i old (omega (arith, full)) inside in
    let end : b * byte_count dtype ≡ b * item = ap (λ k. b * k) (sym same) in
    over_row-first dtype false to b (s * m) (from + i * s) items (nth_row (b * item) old i)
    ∙ ap (λ l. row i ++ l) (drop_of_length-le (nth_row (b * item) old i) (omega (arith, long, end)))
    ∙ append-nil (row i)))
    ∙ ap (λ l. flat_map row (range_with_len 0 a) ++ l) behind ∙ append-nil (flat_map row (range_with_len 0 a))

pub put_of_plane : (dtype : Dtype) (to : Bool) (block sizes : List ℕ) (s from item : ℕ) (items old new : List ℕ) → length sizes ≡ 2 → AreWithin block sizes → item ≡ byte_count dtype
    → length old ≡ cell_count sizes * byte_count dtype
    → new ≡ over_rows dtype false to (get_or sizes 0 0) (get_or sizes 1 0 * item) 0 (get_or sizes 1 0) s (s * get_or block 0 0) from items old → new ≡ moved_rows dtype to block sizes s from items
put_of_plane dtype to block [] s from item items old new two within same full is = absurd (omega (arith, two))
put_of_plane dtype to block (a ∷ []) s from item items old new two within same full is = absurd (omega (arith, two))
put_of_plane dtype to block (a ∷ b ∷ c ∷ sizes) s from item items old new two within same full is = absurd (omega (arith, two))
put_of_plane dtype to [] (a ∷ b ∷ []) s from item items old new two within same full is = absurd (omega (arith, within.ranks))
put_of_plane dtype to (m ∷ []) (a ∷ b ∷ []) s from item items old new two within same full is = absurd (omega (arith, within.ranks))
put_of_plane dtype to (m ∷ n ∷ k ∷ block) (a ∷ b ∷ []) s from item items old new two within same full is = absurd (omega (arith, within.ranks))
put_of_plane dtype to (m ∷ n ∷ []) (a ∷ b ∷ []) s from item items old new two within same full is =
    let bytes : length old ≡ a * (b * item) = full ∙ ap (λ k. a * (b * 1) * k) (sym same) ∙ (let here : a * (b * 1) * item ≡ a * (b * item) = omega arith in here) in
    is ∙ put_of_numbers dtype to m n a b s from item items old same bytes

-- what is taken of a plane
taken_of_numbers : (dtype : Dtype) (big : Bool) (m n a b s from item : ℕ) (elements old : List ℕ) → item ≡ byte_count dtype → a ≤ m → b ≤ n → old ≡ replicate (m * n * item) 0
    → over_rows dtype big false a (n * item) 0 b s (s * a) from elements old ≡ items_of dtype (words_of_rows dtype big (m ∷ n ∷ []) (a ∷ b ∷ []) s from elements)
taken_of_numbers dtype big m n a b s from item elements old same r c zeros =
    let words = λ (i : ℕ). words_of_rows dtype big (n ∷ []) (b ∷ []) (s * a) (from + i * s) elements in
    let width = n * item in
    let size : n * item ≡ n * byte_count dtype = ap (λ k. n * k) same in
    let lacking = (m - a) * (n * 1) in
    let whole : m ≡ a + (m - a) = omega (arith, r) in
    let left : m * n * item - a * (n * item) ≡ lacking * byte_count dtype =
    ap (λ k. k * n * item - a * (n * item)) whole ∙ apart a (m - a) n item ∙ ap (λ k. lacking * k) same in
    let behind : drop (a * width) old ≡ items_of dtype (replicate lacking 0) =
    ap (drop (a * width)) zeros ∙ drop-replicate (a * width) (m * n * item) 0 ∙ ap (λ k. replicate k 0) left ∙ sym (items-zeros dtype lacking) in
    ap (λ l. l ++ drop (a * width) old)
    (same_rows _ (λ i. items_of dtype (words i)) 0 a
    (λ i from' upto.
    let inside : i < a = omega (arith, upto) in
    let up : n * item * (i + 1) ≤ n * item * m = mul-le-mul_left (n * item) (omega (arith, inside, r)) in
    let zero : nth_row width old i ≡ replicate (n * byte_count dtype) 0 =
    ap (λ l. take width (drop (i * width) l)) zeros ∙ ap (take width) (drop-replicate (i * width) (m * n * item) 0)
    ∙ take-replicate width (m * n * item - i * width) 0 (omega (arith, up)) ∙ ap (λ k. replicate k 0) size in
    over_row-first dtype big false b (s * a) (from + i * s) elements (nth_row width old i)
    ∙ last_taken dtype big n b (s * a) (from + i * s) (byte_count dtype) elements (nth_row width old i) (moved_row dtype big false b (s * a) (from + i * s) elements) refl c zero refl)
    ∙ sym (items-rows dtype words (range_with_len 0 a)))
    ∙ ap (λ l. items_of dtype (flat_map words (range_with_len 0 a)) ++ l) behind
    ∙ sym (flat_map-append (word_bytes dtype false) (flat_map words (range_with_len 0 a)) (replicate lacking 0))
  where
    apart : (a k n item : ℕ) → (a + k) * n * item - a * (n * item) ≡ k * (n * 1) * item
    apart a k n item = omega arith

pub taken_of_plane : (dtype : Dtype) (big : Bool) (block sizes : List ℕ) (s from item : ℕ) (elements old new : List ℕ) → length sizes ≡ 2 → AreWithin block sizes → item ≡ byte_count dtype
    → old ≡ replicate (cell_count block * byte_count dtype) 0
    → new ≡ over_rows dtype big false (get_or sizes 0 0) (get_or block 1 0 * item) 0 (get_or sizes 1 0) s (s * get_or sizes 0 0) from elements old → new ≡ items_of dtype (words_of_rows dtype big block sizes s from elements)
taken_of_plane dtype big block [] s from item elements old new two within same zeros is = absurd (omega (arith, two))
taken_of_plane dtype big block (a ∷ []) s from item elements old new two within same zeros is = absurd (omega (arith, two))
taken_of_plane dtype big block (a ∷ b ∷ c ∷ sizes) s from item elements old new two within same zeros is = absurd (omega (arith, two))
taken_of_plane dtype big [] (a ∷ b ∷ []) s from item elements old new two within same zeros is = absurd (omega (arith, within.ranks))
taken_of_plane dtype big (m ∷ []) (a ∷ b ∷ []) s from item elements old new two within same zeros is = absurd (omega (arith, within.ranks))
taken_of_plane dtype big (m ∷ n ∷ k ∷ block) (a ∷ b ∷ []) s from item elements old new two within same zeros is = absurd (omega (arith, within.ranks))
taken_of_plane dtype big (m ∷ n ∷ []) (a ∷ b ∷ []) s from item elements old new two within same zeros is =
    let first : a ≤ m = within.fit 0 (omega arith) in
    let second : b ≤ n = within.fit 1 (omega arith) in
    let count : m * (n * 1) * byte_count dtype ≡ m * n * item = ap (λ k. m * (n * 1) * k) (sym same) ∙ (let here : m * (n * 1) * item ≡ m * n * item = omega arith in here) in
    is ∙ taken_of_numbers dtype big m n a b s from item elements old same first second (zeros ∙ ap (λ k. replicate k 0) count)
