-- A run of one word: its places have the word, and the others are as they were.
use Rattle.std.proofs.Common.{◌≡◌, ◌≢◌, ℕ, zero, suc, ◌+◌, ◌<◌, ◌≤◌, pos, List, [], ◌∷◌, length, get_or, set, map, refl, sym, ap, ◌∙◌, arith, zero-add, inl, inr, subst, get_or-set_same, get_or-set_other}
use Rattle.std.specs.List.{fold, range_with_len}
use Rattle.std.proofs.lemmas.Int.{ints}
use Rattle.std.proofs.lemmas.List.{length-set}
use Rattle.std.proofs.lemmas.List.Sums.{fold-append}
use Rattle.std.proofs.lemmas.List.FromFn.{map-range_with_len_more}
use Rattle.cells.specs.declared.run.Run.{Run}
use Rattle.cells.specs.Runs.{view_place, chunk_place, pair_at, pairs_of, first_pairs, pairs_put}
use Rattle.cells.proofs.Laws.{less_or_not}

-- so many places from one on have a word, and the others are as they were
pub record AreFilled (from count word : ℕ) (old new : List ℕ) : Type 0 where
  pub size : length new ≡ length old
  pub filled : (p : ℕ) → from ≤ p → p < from + count → get_or new p 0 ≡ word
  pub before : (p : ℕ) → p < from → get_or new p 0 ≡ get_or old p 0
  pub behind : (p : ℕ) → from + count ≤ p → get_or new p 0 ≡ get_or old p 0

-- a run without gaps that has one word
pub record IsOneWord (run : Run) : Type 0 where
  pub view : run.view ≡ 0
  pub view_step : run.view_step ≡ 0
  pub chunk_step : run.chunk_step ≡ pos 1

fold_one : {A B : Type 0} (f : B → A → B) (g : ℕ → A) (b : B) (k : ℕ) → fold f b (map g (range_with_len 0 (k + 1))) ≡ f (fold f b (map g (range_with_len 0 k))) (g k)
fold_one f g b k = ap (fold f b) (map-range_with_len_more g 0 k k (zero-add k)) ∙ fold-append f b (map g (range_with_len 0 k)) (g k ∷ [])

-- the word put at one place more
filled_more : (from count word : ℕ) (old new : List ℕ) → from + count < length old → AreFilled from count word old new → AreFilled from (count + 1) word old (set new (from + count) word)
filled_more from count word old new room are = record {
  size = length-set new (from + count) word ∙ are.size;
  filled = λ p low high. elim (less_or_not p (from + count)) [
    | inl below ↦ (let apart : p ≢ from + count = omega (arith, below) in get_or-set_other new (from + count) p word 0 apart ∙ are.filled p low below)
    | inr above ↦
        let same : p ≡ from + count = omega (arith, above, high) in
        let inside : from + count < length new = omega (arith, room, are.size) in
        ap (λ q. get_or (set new (from + count) word) q 0) same ∙ get_or-set_same new (from + count) word 0 inside
  ];
  before = λ p low. let apart : p ≢ from + count = omega (arith, low) in get_or-set_other new (from + count) p word 0 apart ∙ are.before p low;
  behind = λ p high. let apart : p ≢ from + count = omega (arith, high) in get_or-set_other new (from + count) p word 0 apart ∙ are.behind p (omega (arith, high));
}

-- what a run of one word leaves
pub filled_pairs : (run : Run) (word : ℕ) (old : List ℕ) (count : ℕ) → IsOneWord run → run.chunk + count ≤ length old
    → AreFilled run.chunk count word old (pairs_put (pairs_of (first_pairs run count)) (word ∷ []) old)
filled_pairs run word old zero one room = record {
  size = refl;
  filled = λ p low high. absurd (omega (arith, low, high));
  before = λ p low. refl;
  behind = λ p high. refl;
}
filled_pairs run word old (suc count) one room =
    let so_far = pairs_put (pairs_of (first_pairs run count)) (word ∷ []) old in
    let on : suc count ≡ count + 1 = omega arith in
    let view : view_place run count ≡ 0 = seen run count one.view one.view_step in
    let place : chunk_place run count ≡ run.chunk + count = reached run count one.chunk_step in
    let put : pairs_put (pairs_of (first_pairs run (count + 1))) (word ∷ []) old ≡ set so_far (run.chunk + count) word =
    fold_one (λ laid pair. set laid pair.chunk (get_or (word ∷ []) pair.view 0)) (pair_at run) old count
    ∙ ap (λ v. set so_far (chunk_place run count) (get_or (word ∷ []) v 0)) view
    ∙ ap (λ q. set so_far q word) place in
    let all : AreFilled run.chunk (count + 1) word old (set so_far (run.chunk + count) word) =
    filled_more run.chunk count word old so_far (omega (arith, room)) (filled_pairs run word old count one (omega (arith, room))) in
    subst (λ n. AreFilled run.chunk n word old (pairs_put (pairs_of (first_pairs run n)) (word ∷ []) old)) (sym on)
    (subst (AreFilled run.chunk (count + 1) word old) (sym put) all)
  where
    seen : (run : Run) (k : ℕ) → run.view ≡ 0 → run.view_step ≡ 0 → view_place run k ≡ 0
    seen run k at none = rw none (omega (arith, at))

    reached : (run : Run) (k : ℕ) → run.chunk_step ≡ pos 1 → chunk_place run k ≡ run.chunk + k
    reached run k one = rw one (omega (arith, ints))
