-- Laws of runs that were staged one behind another.
use Rattle.std.proofs.Common.{◌≡◌, ◌≢◌, ◌⊎◌, inl, inr, ℕ, zero, suc, ◌+◌, ◌-◌, ◌*◌, ◌/◌, ◌<◌, ◌≤◌, ◌^◌, ℤ, pos, negsuc, ◌+ℤ◌, ◌*ℤ◌, ◌≤ℤ◌, unsigned_abs, List, [], ◌∷◌, ◌++◌, All, length, get_or, set, replicate, Option, Some, None, IsSome, unwrap_or, refl, sym, ap, ◌∙◌, subst, arith, mul-add, mul-one, mul_comm, add-zero, mul-div_cancel, eq-or-lt_of_le, take, drop}
use Rattle.std.proofs.Common.{get_or-set_same, get_or-set_other}
use Rattle.std.proofs.lemmas.Int.{ints}
use Rattle.std.proofs.lemmas.List.{length-set, get_or-replicate, get_or_default, get_or-take, get_or-drop, length-replicate}
use Rattle.std.specs.List.{fold}
use Rattle.std.proofs.lemmas.List.Sums.{fold_more}
use Rattle.cells.specs.declared.run.Run.{Run}
use Rattle.cells.specs.Runs.{Pair, view_place, chunk_place, pair_at, pairs_of, pairs_put, first_pairs, IsRunInside}
use Rattle.rebase_writes.specs.Runs.{pairs_written}
use Rattle.cells.specs.Numbers.{IsWord}
use Rattle.cells.specs.declared.dtype.Dtype.{Dtype}
use Rattle.rebase_writes.specs.Staged.{staged_at, laid_over, AreWords}
use Rattle.rebase_writes.specs.Rising.{IsForward, AreRising, last_place, runs_staged}
use Rattle.cells.proofs.Laws.{less_or_not}
use Rattle.rebase_writes.proofs.RunLaws.{fold_one, pairs_written-more}

-- what stands at a place that a list of runs hasn't
abbrev pub no_run : Run
no_run = record { view = 0; view_step = 0; chunk = 0; chunk_step = pos 0; len = 0 }

-- a place of a run that goes forward, by its stride
pub forward_place : (chunk k : ℕ) (step : ℤ) → pos 1 ≤ℤ step → unsigned_abs (pos chunk +ℤ step *ℤ pos k) ≡ chunk + unsigned_abs step * k
forward_place chunk k (pos s) up = refl
forward_place chunk k (negsuc s) up = absurd (omega (arith, ints, up))

-- the stride is at least 1
pub stride-pos : (step : ℤ) → pos 1 ≤ℤ step → 1 ≤ unsigned_abs step
stride-pos step up = omega (arith, ints, up)

-- later pairs lie further
pub place_less : (run : Run) (i j : ℕ) → pos 1 ≤ℤ run.chunk_step → i < j → chunk_place run i < chunk_place run j
place_less run i j up less =
    let s = unsigned_abs run.chunk_step in
    let y = j - i - 1 in
    let split : j ≡ i + (1 + y) = omega (arith, less) in
    let here = forward_place run.chunk i run.chunk_step up in
    let there : chunk_place run j ≡ run.chunk + s * (i + (1 + y)) = forward_place run.chunk j run.chunk_step up ∙ ap (λ n. run.chunk + s * n) split in
    omega (arith, here, there, mul-add s i (1 + y), mul-add s 1 y, mul-one s, stride-pos run.chunk_step up)

pub first_place : (run : Run) → pos 1 ≤ℤ run.chunk_step → chunk_place run 0 ≡ run.chunk
first_place run up = forward_place run.chunk 0 run.chunk_step up ∙ omega arith

-- no pair lies before the first
pub from_first : (run : Run) (k : ℕ) → pos 1 ≤ℤ run.chunk_step → run.chunk ≤ chunk_place run k
from_first run k up = let is = forward_place run.chunk k run.chunk_step up in omega (arith, is)

-- nor behind the last
pub to_last : (run : Run) (k : ℕ) → pos 1 ≤ℤ run.chunk_step → k < run.len → chunk_place run k ≤ last_place run
to_last run k up less = elim (last_or_before k run.len less) [
  | inl last ↦ omega (arith, ap (λ n. chunk_place run n) last)
  | inr before ↦ omega (arith, place_less run k (run.len - 1) up before)
]
  where
    last_or_before : (k n : ℕ) → k < n → (k ≡ n - 1) ⊎ (k < n - 1)
    last_or_before k n less = eq-or-lt_of_le (omega (arith, less))

-- the number of a pair by its distance from the first
pub pair_number : (s k ahead : ℕ) → 1 ≤ s → ahead ≡ s * k → ahead / s ≡ k
pair_number s k ahead some is = ap (λ n. n / s) (is ∙ mul_comm s k) ∙ mul-div_cancel k (omega (arith, some))

-- staged cells keep their number
pub length-pairs_written : (pairs : List Pair) (words : List ℕ) (cells : List (Option ℕ)) → length (pairs_written pairs words cells) ≡ length cells
length-pairs_written [] words cells = refl
length-pairs_written (p ∷ pairs) words cells = length-pairs_written pairs words (set cells p.chunk (Some (get_or words p.view 0))) ∙ length-set cells p.chunk (Some (get_or words p.view 0))

-- a run so far, one pair more
written_more : (run : Run) (words : List ℕ) (cells : List (Option ℕ)) (n : ℕ) → pairs_written (pairs_of (first_pairs run (suc n))) words cells
    ≡ set (pairs_written (pairs_of (first_pairs run n)) words cells) (chunk_place run n) (Some (get_or words (view_place run n) 0))
written_more run words cells n =
    let on : suc n ≡ n + 1 = omega arith in
    ap (λ m. pairs_written (pairs_of (first_pairs run m)) words cells) on ∙ pairs_written-more run words cells n

-- a place that no pair has keeps what is staged there
missed_first : (run : Run) (words : List ℕ) (cells : List (Option ℕ)) (place n : ℕ) → ((k : ℕ) → k < n → chunk_place run k ≢ place)
    → staged_at (pairs_written (pairs_of (first_pairs run n)) words cells) place ≡ staged_at cells place
missed_first run words cells place zero miss = refl
missed_first run words cells place (suc n) miss =
    let apart : place ≢ chunk_place run n = λ same. miss n (omega arith) (sym same) in
    ap (λ all. staged_at all place) (written_more run words cells n)
    ∙ get_or-set_other (pairs_written (pairs_of (first_pairs run n)) words cells) (chunk_place run n) place (Some (get_or words (view_place run n) 0)) None apart
    ∙ missed_first run words cells place n (λ k less. miss k (omega (arith, less)))

pub run_missed : (run : Run) (words : List ℕ) (cells : List (Option ℕ)) (place : ℕ) → ((k : ℕ) → k < run.len → chunk_place run k ≢ place)
    → staged_at (pairs_written (pairs_of run) words cells) place ≡ staged_at cells place
run_missed run words cells place miss = missed_first run words cells place run.len miss

-- at the place of a pair its word is staged
hit_first : (run : Run) (words : List ℕ) (cells : List (Option ℕ)) (n k : ℕ) → pos 1 ≤ℤ run.chunk_step → k < n → chunk_place run k < length cells
    → staged_at (pairs_written (pairs_of (first_pairs run n)) words cells) (chunk_place run k) ≡ Some (get_or words (view_place run k) 0)
hit_first run words cells zero k up less inside = absurd (omega (arith, less))
hit_first run words cells (suc n) k up less inside =
    let so_far = pairs_written (pairs_of (first_pairs run n)) words cells in
    let size = length-pairs_written (pairs_of (first_pairs run n)) words cells in
    ap (λ all. staged_at all (chunk_place run k)) (written_more run words cells n)
    ∙ (elim (newest k n less) [
      | inl last ↦
          ap (λ m. staged_at (set so_far (chunk_place run n) (Some (get_or words (view_place run n) 0))) (chunk_place run m)) last
          ∙ get_or-set_same so_far (chunk_place run n) (Some (get_or words (view_place run n) 0)) None (omega (arith, size, inside, ap (λ m. chunk_place run m) last))
          ∙ ap (λ m. Some (get_or words (view_place run m) 0)) (sym last)
      | inr before ↦
          let further = place_less run k n up before in
          let apart : chunk_place run k ≢ chunk_place run n = λ same. absurd (omega (arith, further, same)) in
          get_or-set_other so_far (chunk_place run n) (chunk_place run k) (Some (get_or words (view_place run n) 0)) None apart ∙ hit_first run words cells n k up before inside
    ])
  where
    newest : (k n : ℕ) → k < suc n → (k ≡ n) ⊎ (k < n)
    newest k n less = eq-or-lt_of_le (omega (arith, less))

pub run_hit : (run : Run) (words : List ℕ) (cells : List (Option ℕ)) (k : ℕ) → pos 1 ≤ℤ run.chunk_step → k < run.len → chunk_place run k < length cells
    → staged_at (pairs_written (pairs_of run) words cells) (chunk_place run k) ≡ Some (get_or words (view_place run k) 0)
run_hit run words cells k up less inside = hit_first run words cells run.len k up less inside

-- runs with the same places stage the same, where they have the same words
pub alike : (one other : Run) (ws vs : List ℕ) (cells : List (Option ℕ)) (n : ℕ) → ((k : ℕ) → k < n → chunk_place one k ≡ chunk_place other k)
    → ((k : ℕ) → k < n → get_or ws (view_place one k) 0 ≡ get_or vs (view_place other k) 0)
    → pairs_written (pairs_of (first_pairs one n)) ws cells ≡ pairs_written (pairs_of (first_pairs other n)) vs cells
alike one other ws vs cells zero places words = refl
alike one other ws vs cells (suc n) places words =
    let rest = alike one other ws vs cells n (λ k less. places k (omega (arith, less))) (λ k less. words k (omega (arith, less))) in
    let place : chunk_place one n ≡ chunk_place other n = places n (omega arith) in
    let word : get_or ws (view_place one n) 0 ≡ get_or vs (view_place other n) 0 = words n (omega arith) in
    written_more one ws cells n ∙ (λ i. set (rest i) (place i) (Some (word i))) ∙ sym (written_more other vs cells n)

-- a run that goes on as another does stages as the one and then the other
pub joined : (last next : Run) (words : List ℕ) (cells : List (Option ℕ)) (a b : ℕ) → ((k : ℕ) → k < b → chunk_place last (a + k) ≡ chunk_place next k)
    → ((k : ℕ) → k < b → view_place last (a + k) ≡ view_place next k)
    → pairs_written (pairs_of (first_pairs last (a + b))) words cells
    ≡ pairs_written (pairs_of (first_pairs next b)) words (pairs_written (pairs_of (first_pairs last a)) words cells)
joined last next words cells a zero places views = ap (λ n. pairs_written (pairs_of (first_pairs last n)) words cells) (add-zero a)
joined last next words cells a (suc b) places views =
    let on : a + suc b ≡ suc (a + b) = omega arith in
    let rest = joined last next words cells a b (λ k less. places k (omega (arith, less))) (λ k less. views k (omega (arith, less))) in
    let place : chunk_place last (a + b) ≡ chunk_place next b = places b (omega arith) in
    let view : view_place last (a + b) ≡ view_place next b = views b (omega arith) in
    ap (λ n. pairs_written (pairs_of (first_pairs last n)) words cells) on
    ∙ written_more last words cells (a + b)
    ∙ (λ i. set (rest i) (place i) (Some (get_or words (view i) 0)))
    ∙ sym (written_more next words (pairs_written (pairs_of (first_pairs last a)) words cells) b)

-- a word that is staged is laid over
laid_set : (cells : List (Option ℕ)) (base : List ℕ) (place word : ℕ) → length cells ≡ length base
    → laid_over (set cells place (Some word)) base ≡ set (laid_over cells base) place word
laid_set [] [] place word same = refl
laid_set [] (b ∷ base) place word same = absurd (omega (arith, same))
laid_set (cell ∷ cells) [] place word same = absurd (omega (arith, same))
laid_set (cell ∷ cells) (b ∷ base) zero word same = refl
laid_set (cell ∷ cells) (b ∷ base) (suc place) word same = ap (λ rest. unwrap_or cell b ∷ rest) (laid_set cells base place word (omega (arith, same)))

-- pairs that are staged are put into the chunk
pub laid_pairs : (pairs : List Pair) (words : List ℕ) (cells : List (Option ℕ)) (base : List ℕ) → length cells ≡ length base
    → laid_over (pairs_written pairs words cells) base ≡ pairs_put pairs words (laid_over cells base)
laid_pairs [] words cells base same = refl
laid_pairs (p ∷ pairs) words cells base same =
    laid_pairs pairs words (set cells p.chunk (Some (get_or words p.view 0))) base (length-set cells p.chunk (Some (get_or words p.view 0)) ∙ same)
    ∙ ap (pairs_put pairs words) (laid_set cells base p.chunk (get_or words p.view 0) same)

-- where nothing is staged, the base stays
pub laid_none : (base : List ℕ) → laid_over (replicate (length base) None) base ≡ base
laid_none [] = refl
laid_none (b ∷ base) = ap (λ rest. b ∷ rest) (laid_none base)

pub length-runs_staged : (runs : List Run) (words : List ℕ) (cells : List (Option ℕ)) → length (runs_staged runs words cells) ≡ length cells
length-runs_staged [] words cells = refl
length-runs_staged (run ∷ runs) words cells = length-runs_staged runs words (pairs_written (pairs_of run) words cells) ∙ length-pairs_written (pairs_of run) words cells

-- a place that no run has keeps what is staged there
pub runs_missed : (runs : List Run) (words : List ℕ) (cells : List (Option ℕ)) (place : ℕ)
    → ((i : ℕ) (d : Run) → i < length runs → (k : ℕ) → k < (get_or runs i d).len → chunk_place (get_or runs i d) k ≢ place)
    → staged_at (runs_staged runs words cells) place ≡ staged_at cells place
runs_missed [] words cells place miss = refl
runs_missed (run ∷ runs) words cells place miss =
    runs_missed runs words (pairs_written (pairs_of run) words cells) place (λ i d less. miss (suc i) d (omega (arith, less)))
    ∙ run_missed run words cells place (miss 0 run (omega arith))

-- at the place of a pair its word is staged, where no later run has the place
pub runs_hit : (runs : List Run) (words : List ℕ) (cells : List (Option ℕ)) (i : ℕ) (d : Run) (k : ℕ) → i < length runs → pos 1 ≤ℤ (get_or runs i d).chunk_step → k < (get_or runs i d).len
    → chunk_place (get_or runs i d) k < length cells
    → ((j : ℕ) (e : Run) → i < j → j < length runs → (m : ℕ) → m < (get_or runs j e).len → chunk_place (get_or runs j e) m ≢ chunk_place (get_or runs i d) k)
    → staged_at (runs_staged runs words cells) (chunk_place (get_or runs i d) k) ≡ Some (get_or words (view_place (get_or runs i d) k) 0)
runs_hit [] words cells i d k less up within inside later = absurd (omega (arith, less))
runs_hit (run ∷ runs) words cells zero d k less up within inside later =
    runs_missed runs words (pairs_written (pairs_of run) words cells) (chunk_place run k) (λ j e below. later (suc j) e (omega arith) (omega (arith, below)))
    ∙ run_hit run words cells k up within inside
runs_hit (run ∷ runs) words cells (suc i) d k less up within inside later =
    runs_hit runs words (pairs_written (pairs_of run) words cells) i d k (omega (arith, less)) up within (omega (arith, inside, length-pairs_written (pairs_of run) words cells))
    (λ j e above below. later (suc j) e (omega (arith, above)) (omega (arith, below)))

-- words that agree where runs have theirs stage the same
pub runs_alike : (runs : List Run) (ws vs : List ℕ) (cells : List (Option ℕ))
    → ((i : ℕ) (d : Run) → i < length runs → (k : ℕ) → k < (get_or runs i d).len → get_or ws (view_place (get_or runs i d) k) 0 ≡ get_or vs (view_place (get_or runs i d) k) 0)
    → runs_staged runs ws cells ≡ runs_staged runs vs cells
runs_alike [] ws vs cells same = refl
runs_alike (run ∷ runs) ws vs cells same =
    ap (runs_staged runs ws) (alike run run ws vs cells run.len (λ k less. refl) (same 0 run (omega arith)))
    ∙ runs_alike runs ws vs (pairs_written (pairs_of run) vs cells) (λ i d less. same (suc i) d (omega (arith, less)))

-- one run more
pub runs_more : (runs : List Run) (words : List ℕ) (cells : List (Option ℕ)) (i : ℕ) (d : Run) → i < length runs
    → runs_staged (take (i + 1) runs) words cells ≡ pairs_written (pairs_of (get_or runs i d)) words (runs_staged (take i runs) words cells)
runs_more runs words cells i d less = fold_more (λ staged run. pairs_written (pairs_of run) words staged) cells runs i d less

-- each run begins behind the begin of those before
pub begins_rise : (words cells : ℕ) (runs : List Run) → AreRising words cells runs → (i j : ℕ) (d : Run) → i < j → j < length runs → (get_or runs i d).chunk < (get_or runs j d).chunk
begins_rise words cells runs are i j d less inside =
    let run = get_or runs i d in
    let forward : IsForward run = are.forward i d (omega (arith, less, inside)) in
    let end = are.apart i j d less inside in
    let first = from_first run (run.len - 1) forward.places in
    omega (arith, end, first)

pub last_or_less : (i n : ℕ) → i < n + 1 → (i ≡ n) ⊎ (i < n)
last_or_less i n less = eq-or-lt_of_le (omega (arith, less))

-- runs up to one that begins at a place or before it do so too
pub begun_front : (runs : List Run) (place middle : ℕ) (e : Run) → ((i j : ℕ) (d : Run) → i < j → j < length runs → (get_or runs i d).chunk < (get_or runs j d).chunk) → middle < length runs
    → (get_or runs middle e).chunk ≤ place → (i : ℕ) (d : Run) → i < middle + 1 → (get_or runs i d).chunk ≤ place
begun_front runs place middle e rise inside here i d less =
    let is = ap (λ (run : Run). run.chunk) (get_or_default runs middle d e inside) in
    elim (last_or_less i middle less) [
      | inl same ↦ omega (arith, here, is, ap (λ n. (get_or runs n d).chunk) same)
      | inr before ↦ omega (arith, here, is, rise i middle d before inside)
    ]

-- runs from one on that begins behind a place do so too
pub begun_back : (runs : List Run) (place middle : ℕ) (e : Run) → ((i j : ℕ) (d : Run) → i < j → j < length runs → (get_or runs i d).chunk < (get_or runs j d).chunk)
    → place < (get_or runs middle e).chunk → (i : ℕ) (d : Run) → middle ≤ i → i < length runs → place < (get_or runs i d).chunk
begun_back runs place middle e rise here i d above inside =
    let is = ap (λ (run : Run). run.chunk) (get_or_default runs middle d e (omega (arith, above, inside))) in
    elim (last_or_less middle i (omega (arith, above))) [
      | inl same ↦ omega (arith, here, is, ap (λ n. (get_or runs n d).chunk) same)
      | inr before ↦ omega (arith, here, is, rise middle i d before inside)
    ]

-- behind the end of the last run is behind the end of all
pub ends_rise : (words cells : ℕ) (runs : List Run) (e : Run) (place : ℕ) → AreRising words cells runs → 0 < length runs → last_place (get_or runs (length runs - 1) e) < place
    → (i : ℕ) (d : Run) → i < length runs → last_place (get_or runs i d) < place
ends_rise words cells runs e place are some end i d inside =
    let last = length runs - 1 in
    let is = ap last_place (get_or_default runs last d e (omega (arith, some))) in
    elim (last_or_less i last (omega (arith, inside))) [
      | inl same ↦ omega (arith, end, is, ap (λ n. last_place (get_or runs n d)) same)
      | inr before ↦
          let rise = are.apart i last d before (omega (arith, some)) in
          let first = from_first (get_or runs last d) ((get_or runs last d).len - 1) (are.forward last d (omega (arith, some))).places in
          omega (arith, rise, first, end, is)
    ]

-- runs that put the same words at the same places leave the same
pub put_alike : (one other : Run) (ws vs cells : List ℕ) (n : ℕ) → ((k : ℕ) → k < n → chunk_place one k ≡ chunk_place other k)
    → ((k : ℕ) → k < n → get_or ws (view_place one k) 0 ≡ get_or vs (view_place other k) 0)
    → pairs_put (pairs_of (first_pairs one n)) ws cells ≡ pairs_put (pairs_of (first_pairs other n)) vs cells
put_alike one other ws vs cells zero places words = refl
put_alike one other ws vs cells (suc n) places words =
    let on : suc n ≡ n + 1 = omega arith in
    let rest = put_alike one other ws vs cells n (λ k less. places k (omega (arith, less))) (λ k less. words k (omega (arith, less))) in
    let place : chunk_place one n ≡ chunk_place other n = places n (omega arith) in
    let word : get_or ws (view_place one n) 0 ≡ get_or vs (view_place other n) 0 = words n (omega arith) in
    ap (λ m. pairs_put (pairs_of (first_pairs one m)) ws cells) on
    ∙ put_more one ws cells n
    ∙ (λ i. set (rest i) (place i) (word i))
    ∙ sym (ap (λ m. pairs_put (pairs_of (first_pairs other m)) vs cells) on ∙ put_more other vs cells n)
  where
    put_more : (run : Run) (words cells : List ℕ) (k : ℕ) → pairs_put (pairs_of (first_pairs run (k + 1))) words cells
        ≡ set (pairs_put (pairs_of (first_pairs run k)) words cells) (chunk_place run k) (get_or words (view_place run k) 0)
    put_more run words cells k = fold_one (λ laid pair. set laid pair.chunk (get_or words pair.view 0)) (pair_at run) cells k

-- the word at a place of a part of a list
pub part_at : (xs : List ℕ) (from count k d : ℕ) → k < count → from + count ≤ length xs → get_or (take count (drop from xs)) k d ≡ get_or xs (from + k) d
part_at xs from count k d less inside = get_or-take count (drop from xs) k d less ∙ get_or-drop from xs k d

-- a word that is staged in the end is that of its run: no later run has its place
pub run_shown : (words : List ℕ) (cells : List (Option ℕ)) (runs : List Run) → AreRising (length words) (length cells) runs → (i : ℕ) (d : Run) (k : ℕ) → i < length runs → k < (get_or runs i d).len
    → staged_at (runs_staged runs words cells) (chunk_place (get_or runs i d) k) ≡ Some (get_or words (view_place (get_or runs i d) k) 0)
run_shown words cells runs are i d k inside less =
    let run = get_or runs i d in
    let forward = are.forward i d inside in
    let within = are.inside i d inside in
    let before = to_last run k forward.places less in
    runs_hit runs words cells i d k inside forward.places less (omega (arith, ints, within.from_first k less, within.to_last k less))
    (λ j e above below m fewer same.
    let behind = are.apart i j d above below in
    let later = get_or_default runs j e d below in
    let first = from_first (get_or runs j e) m (are.forward j e below).places in
    absurd (omega (arith, behind, before, first, same, ap (λ (r : Run). r.chunk) later)))

-- so it is a word of the dtype, where the staged words are
pub word_shown : (dtype : Dtype) (words : List ℕ) (cells : List (Option ℕ)) (runs : List Run) → AreRising (length words) (length cells) runs → AreWords dtype (runs_staged runs words cells)
    → (i : ℕ) (d : Run) (k : ℕ) → i < length runs → k < (get_or runs i d).len → IsWord dtype (get_or words (view_place (get_or runs i d) k) 0)
word_shown dtype words cells runs are all i d k inside less =
    let within = are.inside i d inside in
    all (chunk_place (get_or runs i d) k) None (omega (arith, ints, within.from_first k less, within.to_last k less, length-runs_staged runs words cells)) (get_or words (view_place (get_or runs i d) k) 0)
    (run_shown words cells runs are i d k inside less)

-- where the runs up to a number begin at a place or before it, and the others behind it, only the last of them may have it
pub none_before : (words : List ℕ) (runs : List Run) (place count : ℕ) → AreRising (length words) (2 ^ 24) runs → 0 < count → count ≤ length runs
    → ((i : ℕ) (d : Run) → i < count → (get_or runs i d).chunk ≤ place) → ((i : ℕ) (d : Run) → count ≤ i → i < length runs → place < (get_or runs i d).chunk)
    → ((k : ℕ) → k < (get_or runs (count - 1) no_run).len → chunk_place (get_or runs (count - 1) no_run) k ≢ place)
    → (cells : List (Option ℕ)) → staged_at (runs_staged runs words cells) place ≡ staged_at cells place
none_before words runs place count are some few front back last cells =
    runs_missed runs words cells place (λ i d inside k less same. elim (less_or_not i count) [
      | inr above ↦
          let first = from_first (get_or runs i d) k (are.forward i d inside).places in
          omega (arith, first, back i d above inside, same)
      | inl below ↦ elim (last_or_less i (count - 1) (omega (arith, below))) [
        | inl here ↦
            let is : get_or runs i d ≡ get_or runs (count - 1) no_run = ap (λ n. get_or runs n d) here ∙ get_or_default runs (count - 1) d no_run (omega (arith, some, few)) in
            last k (omega (arith, less, ap (λ (r : Run). r.len) is)) (ap (λ (r : Run). chunk_place r k) (sym is) ∙ same)
        | inr before ↦
            let end = are.apart i (count - 1) d before (omega (arith, some, few)) in
            let begin = front (count - 1) d (omega (arith, some)) in
            let up_to = to_last (get_or runs i d) k (are.forward i d inside).places less in
            omega (arith, end, begin, up_to, same)
      ]
    ])

-- no run has a place behind the end of the first ones and before the begin of the others
pub missed_between : (size : ℕ) (runs : List Run) (place count : ℕ) → AreRising size (2 ^ 24) runs → 0 < count → count ≤ length runs → last_place (get_or runs (count - 1) no_run) < place
    → ((i : ℕ) (d : Run) → count ≤ i → i < length runs → place < (get_or runs i d).chunk) → (words : List ℕ) (cells : List (Option ℕ))
    → staged_at (runs_staged runs words cells) place ≡ staged_at cells place
missed_between size runs place count are some few ends back words cells =
    runs_missed runs words cells place (λ i d inside k less same. elim (less_or_not i count) [
      | inr above ↦
          let first = from_first (get_or runs i d) k (are.forward i d inside).places in
          omega (arith, first, back i d above inside, same)
      | inl below ↦
          let up_to = to_last (get_or runs i d) k (are.forward i d inside).places less in
          let last = count - 1 in
          let is = ap last_place (get_or_default runs last d no_run (omega (arith, some, few))) in
          elim (last_or_less i last (omega (arith, below))) [
            | inl here ↦ omega (arith, ends, up_to, same, is, ap (λ n. last_place (get_or runs n d)) here)
            | inr before ↦
                let end = are.apart i last d before (omega (arith, some, few)) in
                let first = from_first (get_or runs last d) ((get_or runs last d).len - 1) (are.forward last d (omega (arith, some, few))).places in
                omega (arith, end, first, ends, up_to, same, is)
          ]
    ])

-- nothing is staged at first
pub none_at : (n place : ℕ) → staged_at (replicate n None) place ≡ None
none_at zero place = refl
none_at (suc n) zero = refl
none_at (suc n) (suc place) = none_at n place

-- runs that rise in a chunk rise in a larger one
pub rising_wider : (words cells more : ℕ) (runs : List Run) → cells ≤ more → AreRising words cells runs → AreRising words more runs
rising_wider words cells more runs fewer are = record {
  forward = are.forward;
  ahead = are.ahead;
  inside = λ i d below. record {
    in_view = (are.inside i d below).in_view;
    from_first = (are.inside i d below).from_first;
    to_last = λ k less. omega (arith, ints, fewer, (are.inside i d below).to_last k less);
  };
  apart = are.apart;
}

-- over a chunk with nothing staged
pub rising_over : (words n : ℕ) (runs : List Run) → AreRising words n runs → AreRising words (length (replicate {A = Option ℕ} n None)) runs
rising_over words n runs are = subst (λ cells. AreRising words cells runs) (sym (length-replicate n None)) are

-- a word that is staged is something
pub some_not_none : (o : Option ℕ) → IsSome o → o ≢ None
some_not_none None some = λ _. absurd (cc)
some_not_none (Some word) some = λ none. absurd (cc)
