-- A run over words that are all the same stages what the first of them stages alone.
use Rattle.std.proofs.Common.{◌≡◌, ◌∙◌, ℕ, zero, suc, ◌+◌, ◌<◌, ◌≤◌, List, [], ◌∷◌, Option, Some, length, get_or, replicate, set, map, refl, sym, ap, arith, zero-add}
use Rattle.std.proofs.lemmas.List.{get_or-replicate}
use Rattle.std.specs.List.{fold, range_with_len}
use Rattle.std.proofs.lemmas.List.Sums.{fold-append}
use Rattle.std.proofs.lemmas.List.FromFn.{map-range_with_len_more}
use Rattle.cells.specs.declared.run.Run.{Run}
use Rattle.cells.specs.Runs.{view_place, chunk_place, pair_at, pairs_of, first_pairs, IsRunInside, Pair}
use Rattle.rebase_writes.specs.Runs.{pairs_written}

-- the first word for each pair
abbrev pub of_first : Run → Run
of_first run = record run { view = 0; view_step = 0 }

written_more : (run : Run) (words : List ℕ) (cells : List (Option ℕ)) (k : ℕ) → pairs_written (pairs_of (first_pairs run (k + 1))) words cells
    ≡ set (pairs_written (pairs_of (first_pairs run k)) words cells) (chunk_place run k) (Some (get_or words (view_place run k) 0))
written_more run words cells k =
    let put = λ (staged : List (Option ℕ)) (pair : Pair). set staged pair.chunk (Some (get_or words pair.view 0)) in
    ap (fold put cells) (map-range_with_len_more (pair_at run) 0 k k (zero-add k)) ∙ fold-append put cells (map (pair_at run) (range_with_len 0 k)) (pair_at run k ∷ [])

first_written : (run : Run) (words : List ℕ) (cells : List (Option ℕ)) (n : ℕ) → ((k : ℕ) → k < n → get_or words (view_place run k) 0 ≡ get_or words 0 0)
    → pairs_written (pairs_of (first_pairs (of_first run) n)) words cells ≡ pairs_written (pairs_of (first_pairs run n)) words cells
first_written run words cells zero same = refl
first_written run words cells (suc n) same =
    let on : suc n ≡ n + 1 = omega arith in
    let rest = first_written run words cells n (λ k less. same k (omega (arith, less))) in
    let first : view_place (of_first run) n ≡ 0 = omega arith in
    let word : get_or words (view_place (of_first run) n) 0 ≡ get_or words (view_place run n) 0 = ap (λ v. get_or words v 0) first ∙ sym (same n (omega arith)) in
    ap (λ m. pairs_written (pairs_of (first_pairs (of_first run) m)) words cells) on
    ∙ written_more (of_first run) words cells n
    ∙ (λ i. set (rest i) (chunk_place run n) (Some (word i)))
    ∙ sym (ap (λ m. pairs_written (pairs_of (first_pairs run m)) words cells) on ∙ written_more run words cells n)

-- what is staged
pub written_by_first : (run : Run) (words : List ℕ) (cells : List (Option ℕ)) (n : ℕ) → IsRunInside run (length words) n → ((k : ℕ) → k < length words → get_or words k 0 ≡ get_or words 0 0)
    → pairs_written (pairs_of (of_first run)) words cells ≡ pairs_written (pairs_of run) words cells
written_by_first run words cells n inside same = first_written run words cells run.len (λ k less. same (view_place run k) (inside.in_view k less))

-- it lies in the same view and the same chunk
pub first_inside : (run : Run) (view n : ℕ) → IsRunInside run view n → IsRunInside (of_first run) view n
first_inside run view n inside = record {
  in_view = λ k less. let there = inside.in_view k less in let first : view_place (of_first run) k ≡ 0 = omega arith in omega (arith, there, first);
  from_first = inside.from_first;
  to_last = inside.to_last;
}

-- one word alone has each pair of it
pub one_inside : (run : Run) (view n : ℕ) → IsRunInside run view n → IsRunInside (of_first run) 1 n
one_inside run view n inside = record {
  in_view = λ k less. let first : view_place (of_first run) k ≡ 0 = omega arith in omega (arith, first);
  from_first = inside.from_first;
  to_last = inside.to_last;
}

one_more : (run : Run) (word count n : ℕ) (cells : List (Option ℕ)) → ((k : ℕ) → k < n → view_place run k < count)
    → pairs_written (pairs_of (first_pairs (of_first run) n)) (word ∷ []) cells ≡ pairs_written (pairs_of (first_pairs run n)) (replicate count word) cells
one_more run word count zero cells low = refl
one_more run word count (suc n) cells low =
    let on : suc n ≡ n + 1 = omega arith in
    let rest = one_more run word count n cells (λ k less. low k (omega (arith, less))) in
    let first : view_place (of_first run) n ≡ 0 = omega arith in
    let at : get_or (word ∷ []) (view_place (of_first run) n) 0 ≡ word = ap (λ v. get_or (word ∷ []) v 0) first in
    let there : get_or (replicate count word) (view_place run n) 0 ≡ word = get_or-replicate count (view_place run n) word 0 (low n (omega arith)) in
    let same : get_or (word ∷ []) (view_place (of_first run) n) 0 ≡ get_or (replicate count word) (view_place run n) 0 = at ∙ sym there in
    ap (λ m. pairs_written (pairs_of (first_pairs (of_first run) m)) (word ∷ []) cells) on
    ∙ written_more (of_first run) (word ∷ []) cells n
    ∙ (λ i. set (rest i) (chunk_place run n) (Some (same i)))
    ∙ sym (ap (λ m. pairs_written (pairs_of (first_pairs run m)) (replicate count word) cells) on ∙ written_more run (replicate count word) cells n)

-- what is staged by it
pub written_by_one : (run : Run) (word count : ℕ) (cells : List (Option ℕ)) (n : ℕ) → IsRunInside run count n
    → pairs_written (pairs_of (of_first run)) (word ∷ []) cells ≡ pairs_written (pairs_of run) (replicate count word) cells
written_by_one run word count cells n inside = one_more run word count run.len cells inside.in_view

-- words that are all the first
pub as_one : (words : List ℕ) → ((k : ℕ) → k < length words → get_or words k 0 ≡ get_or words 0 0) → replicate (length words) (get_or words 0 0) ≡ words
as_one words same = by words (get_or words 0 0) same
  where
    by : (xs : List ℕ) (word : ℕ) → ((k : ℕ) → k < length xs → get_or xs k 0 ≡ word) → replicate (length xs) word ≡ xs
    by [] word each = refl
    by (x ∷ xs) word each = let first : x ≡ word = each 0 (omega arith) in let rest = by xs word (λ k less. each (suc k) (omega (arith, less))) in (λ i. sym first i ∷ rest i)
