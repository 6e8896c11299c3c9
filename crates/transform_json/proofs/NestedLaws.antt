-- Nested lists of entries, row by row.
use Rattle.std.proofs.Common.{◌≡◌, ℕ, ◌+◌, ◌*◌, ◌-◌, ◌/◌, ◌<◌, ◌≤◌, ℤ, List, [], ◌∷◌, ◌++◌, map, length, get_or, take, drop, sym, ap, ◌∙◌, arith}
use Rattle.std.specs.List.{range_with_len}
use Rattle.std.proofs.Math.Nat.{mul-le-mul_left, mul-div_cancel_left}
use Rattle.std.proofs.Math.Seq.{take-length}
use Rattle.std.proofs.lemmas.List.{map-append}
use Rattle.std.proofs.lemmas.List.FromFn.{map-range_with_len_more}
use Rattle.std.specs.List.{slice_range}
use Rattle.serde_json.specs.Data.{Data}
use Rattle.serde_json.specs.View.{view}
use Rattle.serde_json.specs.declared.value.Value.{Value}
use Rattle.json_forms.specs.Lists.{list_of}
use Rattle.cells.specs.Places.{cell_count}
use Rattle.transform_json.specs.Written.{nested_data}

-- the sizes behind the first
abbrev pub behind : List ℕ → List ℕ
behind sizes = take (length sizes - 1) (drop 1 sizes)

pub behind-cons : (s : ℕ) (ss : List ℕ) → behind (s ∷ ss) ≡ ss
behind-cons s ss = let n : length (s ∷ ss) - 1 ≡ length ss = omega arith in rw n (take-length ss)

-- a row of entries is as long as its sizes want
pub row_fits : (sizes : List ℕ) (i n : ℕ) → 1 ≤ length sizes → n ≡ cell_count sizes → i < get_or sizes 0 0 → i * cell_count (behind sizes) + cell_count (behind sizes) ≤ n
row_fits [] i n one full less = absurd (omega arith)
row_fits (s ∷ ss) i n one full less =
    let rows : cell_count ss * (i + 1) ≤ cell_count ss * s = mul-le-mul_left (cell_count ss) (omega arith) in
    rw behind-cons (omega (arith, rows, full))

-- a row's cells are its share of all
pub row-is : (sizes : List ℕ) (n : ℕ) → 1 ≤ length sizes → n ≡ cell_count sizes → 0 < get_or sizes 0 0 → n / get_or sizes 0 0 ≡ cell_count (behind sizes)
row-is [] n one full some = absurd (omega arith)
row-is (s ∷ ss) n one full some = rw (full, behind-cons) (mul-div_cancel_left (cell_count ss) some)

-- one row more
pub nested_more : (sizes : List ℕ) (entries : List ℤ) (items : List Value) (i row : ℕ) (v : Value) → row ≡ cell_count (behind sizes) → view v ≡ nested_data (behind sizes) (slice_range entries (i * row) (i * row + row))
    → map view items ≡ map (λ k. nested_data (behind sizes) (take (cell_count (behind sizes)) (drop (k * cell_count (behind sizes)) entries))) (range_with_len 0 i)
    → map view (items ++ v ∷ []) ≡ map (λ k. nested_data (behind sizes) (take (cell_count (behind sizes)) (drop (k * cell_count (behind sizes)) entries))) (range_with_len 0 (i + 1))
nested_more sizes entries items i row v as_row is so =
    let F : ℕ → Data = λ k. nested_data (behind sizes) (take (cell_count (behind sizes)) (drop (k * cell_count (behind sizes)) entries)) in
    let long : i * row + row - i * row ≡ cell_count (behind sizes) = omega (arith, as_row) in
    let one : view v ≡ F i = is ∙ ap (λ n. nested_data (behind sizes) (take n (drop (i * row) entries))) long ∙ ap (λ n. nested_data (behind sizes) (take (cell_count (behind sizes)) (drop (i * n) entries))) as_row in
    map-append view items (v ∷ []) ∙ ap (λ ds. ds ++ view v ∷ []) so ∙ ap (λ d. map F (range_with_len 0 i) ++ d ∷ []) one ∙ sym (map-range_with_len_more F 0 i i (omega arith))

-- the rows one after another are the list
pub nested_rows : (sizes : List ℕ) (entries : List ℤ) (items : List Value) (i : ℕ) → 1 ≤ length sizes → i ≡ get_or sizes 0 0
    → map view items ≡ map (λ k. nested_data (behind sizes) (take (cell_count (behind sizes)) (drop (k * cell_count (behind sizes)) entries))) (range_with_len 0 i)
    → list_of (map view items) ≡ nested_data sizes entries
nested_rows [] entries items i one end so = absurd (omega arith)
nested_rows (s ∷ ss) entries items i one end so =
    ap list_of (so ∙ ap (λ rest. map (λ k. nested_data rest (take (cell_count rest) (drop (k * cell_count rest) entries))) (range_with_len 0 i)) (behind-cons s ss))
    ∙ ap (λ n. list_of (map (λ k. nested_data ss (take (cell_count ss) (drop (k * cell_count ss) entries))) (range_with_len 0 n))) end
