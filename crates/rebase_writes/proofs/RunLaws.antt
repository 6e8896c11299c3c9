-- Laws of runs: one pair more is one cell more.
use Rattle.std.proofs.Common.{◌≡◌, ℕ, ◌+◌, List, [], ◌∷◌, map, get_or, set, Option, Some, ◌∙◌, ap, zero-add}
use Rattle.std.specs.List.{fold, range_with_len}
use Rattle.std.proofs.lemmas.List.Sums.{fold-append}
use Rattle.std.proofs.lemmas.List.FromFn.{map-range_with_len_more}
use Rattle.cells.specs.declared.run.Run.{Run}
use Rattle.cells.specs.Runs.{view_place, chunk_place, pair_at, pairs_of, first_pairs}
use Rattle.rebase_writes.specs.Runs.{pairs_written, pairs_read, shown_at, pairs_shown}
use Rattle.rebase_writes.specs.Staged.{staged_at}

-- a fold over the first numbers, and one more
pub fold_one : {A B : Type 0} (f : B → A → B) (g : ℕ → A) (b : B) (k : ℕ) → fold f b (map g (range_with_len 0 (k + 1))) ≡ f (fold f b (map g (range_with_len 0 k))) (g k)
fold_one f g b k =
    ap (fold f b) (map-range_with_len_more g 0 k k (zero-add k)) ∙ fold-append f b (map g (range_with_len 0 k)) (g k ∷ [])

pub pairs_written-more : (run : Run) (words : List ℕ) (cells : List (Option ℕ)) (k : ℕ) → pairs_written (pairs_of (first_pairs run (k + 1))) words cells
    ≡ set (pairs_written (pairs_of (first_pairs run k)) words cells) (chunk_place run k) (Some (get_or words (view_place run k) 0))
pairs_written-more run words cells k =
    fold_one (λ staged pair. set staged pair.chunk (Some (get_or words pair.view 0))) (pair_at run) cells k

pub pairs_read-more : (run : Run) (words out : List ℕ) (k : ℕ) → pairs_read (pairs_of (first_pairs run (k + 1))) words out
    ≡ set (pairs_read (pairs_of (first_pairs run k)) words out) (view_place run k) (get_or words (chunk_place run k) 0)
pairs_read-more run words out k =
    fold_one (λ shown pair. set shown pair.view (get_or words pair.chunk 0)) (pair_at run) out k

pub pairs_shown-more : (run : Run) (cells : List (Option ℕ)) (out : List ℕ) (k : ℕ) → pairs_shown (pairs_of (first_pairs run (k + 1))) cells out
    ≡ shown_at (pairs_shown (pairs_of (first_pairs run k)) cells out) (view_place run k) (staged_at cells (chunk_place run k))
pairs_shown-more run cells out k =
    fold_one (λ shown pair. shown_at shown pair.view (staged_at cells pair.chunk)) (pair_at run) out k
