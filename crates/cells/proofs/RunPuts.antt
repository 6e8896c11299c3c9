-- Laws of runs: one pair more puts one word more, and a run without gaps.
use Rattle.std.proofs.Common.{◌≡◌, ℕ, ◌+◌, ◌*◌, ◌-◌, ◌<◌, pos, false, List, [], ◌∷◌, All, length, get_or, set, take, drop, map, sym, ap, ◌∙◌, arith, zero-add}
use borrow.Rule.Slice.PartMut.{put_mid}
use Rattle.cells.specs.Bytes.{byte_count, word_bytes, word_of_bytes}
use Rattle.cells.specs.Numbers.{IsWord}
use Rattle.cells.specs.declared.dtype.Dtype.{Dtype}
use Rattle.cells.specs.Items.{words_in}
use Rattle.cells.proofs.ItemLaws.{item_put, item_taken, get_or-words_in}
use Rattle.std.specs.List.{fold, range_with_len}
use Rattle.std.proofs.lemmas.Int.{ints}
use Rattle.std.proofs.lemmas.List.Sums.{fold-append}
use Rattle.std.proofs.lemmas.List.FromFn.{map-range_with_len_more}
use Rattle.cells.specs.declared.run.Run.{Run}
use Rattle.cells.specs.Runs.{view_place, chunk_place, chunk_number, pair_at, IsRunInside, pairs_of, first_pairs, pairs_put, pairs_taken}

fold_more : {A B : Type 0} (f : B → A → B) (g : ℕ → A) (b : B) (k : ℕ) → fold f b (map g (range_with_len 0 (k + 1))) ≡ f (fold f b (map g (range_with_len 0 k))) (g k)
fold_more f g b k = ap (fold f b) (map-range_with_len_more g 0 k k (zero-add k)) ∙ fold-append f b (map g (range_with_len 0 k)) (g k ∷ [])

pub pairs_taken-more : (run : Run) (words out : List ℕ) (k : ℕ) → pairs_taken (pairs_of (first_pairs run (k + 1))) words out
    ≡ set (pairs_taken (pairs_of (first_pairs run k)) words out) (view_place run k) (get_or words (chunk_place run k) 0)
pairs_taken-more run words out k =
    fold_more (λ shown pair. set shown pair.view (get_or words pair.chunk 0)) (pair_at run) out k

pub pairs_put-more : (run : Run) (words cells : List ℕ) (k : ℕ) → pairs_put (pairs_of (first_pairs run (k + 1))) words cells
    ≡ set (pairs_put (pairs_of (first_pairs run k)) words cells) (chunk_place run k) (get_or words (view_place run k) 0)
pairs_put-more run words cells k =
    fold_more (λ laid pair. set laid pair.chunk (get_or words pair.view 0)) (pair_at run) cells k

-- without gaps a pair's place is so many behind the first
pub chunk_place-row : (run : Run) (k : ℕ) → run.chunk_step ≡ pos 1 → chunk_place run k ≡ run.chunk + k
chunk_place-row run k one = rw one (omega (arith, ints))

pub view_place-row : (run : Run) (k : ℕ) → run.view_step ≡ 1 → view_place run k ≡ run.view + k
view_place-row run k one = rw one (omega arith)

-- one word is that of all pairs
pub view_place-one : (run : Run) (k : ℕ) → run.view_step ≡ 0 → view_place run k ≡ run.view
view_place-one run k none = rw none (omega arith)

pub chunk_place-lt : (run : Run) (view n k : ℕ) → IsRunInside run view n → k < run.len → chunk_place run k < n
chunk_place-lt run view n k inside less = omega (arith, ints, inside.from_first k less, inside.to_last k less)

-- one pair more, where its word's bytes are put as an item
pub pair_put : (dtype : Dtype) (n size p view k : ℕ) (run : Run) (words cells bytes put : List ℕ) → size ≡ byte_count dtype → length bytes ≡ n * byte_count dtype
    → view ≡ view_place run k → p ≡ chunk_place run k → k < run.len → IsRunInside run (length words) n → All (IsWord dtype) words → put ≡ word_bytes dtype false (get_or words view 0)
    → words_in dtype n bytes ≡ pairs_put (pairs_of (first_pairs run k)) words cells
    → words_in dtype n (put_mid (p * size) (p * size + size - p * size) bytes put) ≡ pairs_put (pairs_of (first_pairs run (k + 1))) words cells
pair_put dtype n size p view k run words cells bytes put same full from to less inside are spelled is =
    let within : p < n = omega (arith, chunk_place-lt run (length words) n k inside less, to) in
    let seen : view < length words = omega (arith, inside.in_view k less, from) in
    item_put dtype n p size (get_or words view 0) bytes put same full within (are view 0 seen) spelled
    ∙ ap (λ l. set l p (get_or words view 0)) is
    ∙ ap (λ q. set (pairs_put (pairs_of (first_pairs run k)) words cells) q (get_or words view 0)) to
    ∙ ap (λ v. set (pairs_put (pairs_of (first_pairs run k)) words cells) (chunk_place run k) (get_or words v 0)) from
    ∙ sym (pairs_put-more run words cells k)

-- and where an item is read
pub pair_taken : (dtype : Dtype) (n size p view k word : ℕ) (run : Run) (bytes out shown : List ℕ) → size ≡ byte_count dtype
    → view ≡ view_place run k → p ≡ chunk_place run k → p < n → word ≡ word_of_bytes dtype false (take (p * size + size - p * size) (drop (p * size) bytes))
    → shown ≡ pairs_taken (pairs_of (first_pairs run k)) (words_in dtype n bytes) out
    → set shown view word ≡ pairs_taken (pairs_of (first_pairs run (k + 1))) (words_in dtype n bytes) out
pair_taken dtype n size p view k word run bytes out shown same from to within spelled is =
    let here : word ≡ get_or (words_in dtype n bytes) p 0 = item_taken dtype p size word bytes same spelled ∙ sym (get_or-words_in dtype n bytes p within) in
    ap (λ w. set shown view w) here
    ∙ ap (λ l. set l view (get_or (words_in dtype n bytes) p 0)) is
    ∙ ap (λ v. set (pairs_taken (pairs_of (first_pairs run k)) (words_in dtype n bytes) out) v (get_or (words_in dtype n bytes) p 0)) from
    ∙ ap (λ q. set (pairs_taken (pairs_of (first_pairs run k)) (words_in dtype n bytes) out) (view_place run k) (get_or (words_in dtype n bytes) q 0)) to
    ∙ sym (pairs_taken-more run (words_in dtype n bytes) out k)
