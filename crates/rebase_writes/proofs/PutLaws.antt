-- Laws of one run more behind runs that were staged.
use Rattle.std.proofs.Common.{◌≡◌, ◌⊎◌, inl, inr, ℕ, ◌+◌, ◌-◌, ◌*◌, ◌<◌, ◌≤◌, ◌^◌, ℤ, pos, negsuc, ◌+ℤ◌, ◌*ℤ◌, ◌≤ℤ◌, ◌<ℤ◌, unsigned_abs, List, [], ◌∷◌, ◌++◌, All, length, get_or, set, take, drop, Option, refl, sym, ap, ◌∙◌, subst, arith, eq-or-lt_of_le}
use Rattle.std.proofs.lemmas.Int.{ints}
use Rattle.std.proofs.lemmas.List.{length-set, length-append, get_or_append_left, get_or_push, get_or_default, get_or-take, length-take-le, take_all, take_more_set, take-set-le, take-append-le, get_or-set_same}
use Rattle.cells.specs.declared.run.Run.{Run}
use Rattle.cells.specs.Runs.{view_place, chunk_place, chunk_number, pairs_of, IsRunInside}
use Rattle.cells.proofs.Laws.{less_or_not}
use Rattle.rebase_writes.specs.Runs.{pairs_written}
use Rattle.rebase_writes.specs.Rising.{IsBehind, IsForward, AreRising, last_place, runs_staged}
use Rattle.rebase_writes.proofs.RisingLaws.{no_run, forward_place, joined, runs_more}

-- a list with more behind it, cut to its own length
pub front_of : {A : Type 0} (n : ℕ) (xs ys : List A) → length xs ≡ n → take n (xs ++ ys) ≡ xs
front_of n xs ys long = take-append-le n xs ys (omega (arith, long)) ∙ take_all n xs (omega (arith, long))

-- the item at a place of a list with one more
behind_or_front : {A : Type 0} (P : A → Type 0) (xs : List A) (x : A) (i : ℕ) (d : A) → i < length (xs ++ x ∷ []) → (i < length xs → P (get_or xs i d)) → P x → P (get_or (xs ++ x ∷ []) i d)
behind_or_front P xs x i d inside front last =
    let long = length-append xs (x ∷ []) in
    elim (less_or_not i (length xs)) [
      | inl below ↦ subst P (sym (get_or_append_left xs (x ∷ []) d i below)) (front below)
      | inr above ↦ subst P (sym (get_or_push xs x d i (omega (arith, above, long, inside)))) last
    ]

-- a run that goes forward has numbers from 0 on as its places
pub number_is : (run : Run) (k : ℕ) → pos 1 ≤ℤ run.chunk_step → chunk_number run k ≡ pos (chunk_place run k)
number_is run k up = of_step run.chunk k run.chunk_step up
  where
    of_step : (chunk k : ℕ) (step : ℤ) → pos 1 ≤ℤ step → pos chunk +ℤ step *ℤ pos k ≡ pos (unsigned_abs (pos chunk +ℤ step *ℤ pos k))
    of_step chunk k (pos s) up = refl
    of_step chunk k (negsuc s) up = absurd (omega (arith, ints, up))

pub wider : (run : Run) (v words cells : ℕ) → v ≤ words → IsRunInside run v cells → IsRunInside run words cells
wider run v words cells more inside = record {
  in_view = λ k less. omega (arith, more, inside.in_view k less);
  from_first = inside.from_first;
  to_last = inside.to_last;
}

-- one run more, which begins behind the end of all others
pub rising_more : (v words cells : ℕ) (runs : List Run) (next : Run) → AreRising v cells runs → v ≤ words → IsForward next → IsRunInside next words cells
    → ((i : ℕ) (d : Run) → i < length runs → last_place (get_or runs i d) < next.chunk) → next.view ≤ next.chunk → AreRising words cells (runs ++ next ∷ [])
rising_more v words cells runs next are more forward inside behind ahead = record {
  ahead = λ i d below. behind_or_front (λ (run : Run). run.view ≤ run.chunk) runs next i d below (λ front. are.ahead i d front) ahead;
  forward = λ i d below. behind_or_front IsForward runs next i d below (λ front. are.forward i d front) forward;
  inside = λ i d below. behind_or_front (λ run. IsRunInside run words cells) runs next i d below (λ front. wider (get_or runs i d) v words cells more (are.inside i d front)) inside;
  apart = λ i j d less below.
      let long = length-append runs (next ∷ []) in
      let left : i < length runs = omega (arith, less, below, long) in
      let here = get_or_append_left runs (next ∷ []) d i left in
      elim (less_or_not j (length runs)) [
        | inl front ↦
            let there = get_or_append_left runs (next ∷ []) d j front in
            omega (arith, are.apart i j d less front, ap last_place here, ap (λ (r : Run). r.chunk) there)
        | inr last ↦
            let there = get_or_push runs next d j (omega (arith, last, long, below)) in
            omega (arith, behind i d left, ap last_place here, ap (λ (r : Run). r.chunk) there)
      ];
}

-- runs that rise over words rise over more words
pub rising_longer : (v words cells : ℕ) (runs : List Run) → v ≤ words → AreRising v cells runs → AreRising words cells runs
rising_longer v words cells runs more are = record {
  forward = are.forward;
  ahead = are.ahead;
  inside = λ i d below. wider (get_or runs i d) v words cells more (are.inside i d below);
  apart = are.apart;
}

-- the first of runs that rise rise
pub rising_take : (n v cells : ℕ) (runs : List Run) → AreRising v cells runs → n < length runs → AreRising v cells (take n runs)
rising_take n v cells runs are few = record {
  forward = λ i d below. let less = among i below in subst IsForward (sym (get_or-take n runs i d less)) (are.forward i d (omega (arith, less, few)));
  ahead = λ i d below. let less = among i below in subst (λ (run : Run). run.view ≤ run.chunk) (sym (get_or-take n runs i d less)) (are.ahead i d (omega (arith, less, few)));
  inside = λ i d below. let less = among i below in subst (λ run. IsRunInside run v cells) (sym (get_or-take n runs i d less)) (are.inside i d (omega (arith, less, few)));
  apart = λ i j d before below.
      let less = among j below in
      let here = get_or-take n runs i d (omega (arith, before, less)) in
      let there = get_or-take n runs j d less in
      omega (arith, are.apart i j d before (omega (arith, less, few)), ap last_place here, ap (λ (r : Run). r.chunk) there);
}
  where
    among : (i : ℕ) → i < length (take n runs) → i < n
    among i below = omega (arith, below, length-take-le n runs)

-- the last run ends just before the next begins, and goes on with its words
pub record GoesOn (last next : Run) : Type 0 where
  pub last_step : last.chunk_step ≡ pos 1
  pub next_step : next.chunk_step ≡ pos 1
  pub places : last.chunk + last.len ≡ next.chunk
  pub words : (k : ℕ) → view_place last (last.len + k) ≡ view_place next k

row_place : (run : Run) (k : ℕ) → run.chunk_step ≡ pos 1 → chunk_number run k ≡ pos (run.chunk + k)
row_place run k one = rw one (ap (λ n. pos (run.chunk + n)) (omega arith))

-- the words of a run that is kept stand one after another
pub words_behind : (runs : List Run) (view : ℕ) (run next : Run) (k : ℕ) → IsBehind runs view run next → view_place next k ≡ view + k
words_behind runs view run next k is = rw (is.words, is.begins) (omega arith)

-- then the whole is a run
pub forward_whole : (last next : Run) → IsForward last → GoesOn last next → IsForward (record last { len = last.len + next.len })
forward_whole last next forward on = record {
  some = omega (arith, forward.some);
  words = forward.words;
  places = forward.places;
}

pub inside_whole : (last next : Run) (words cells : ℕ) → ((k : ℕ) → k < last.len → view_place last k < words) → IsForward next → GoesOn last next → IsRunInside next words cells
    → IsRunInside (record last { len = last.len + next.len }) words cells
inside_whole last next words cells before forward on inside =
    let far = inside.to_last (next.len - 1) (omega (arith, forward.some)) in
    let far_is = row_place next (next.len - 1) on.next_step in
    let far_place : next.chunk + (next.len - 1) < cells = omega (arith, ints, far, far_is) in
    record {
      in_view = λ k less. elim (less_or_not k last.len) [
        | inl below ↦ before k below
        | inr above ↦
            let j = k - last.len in
            let on_by : last.len + j ≡ k = omega (arith, above) in
            subst (λ n. n < words) (sym (on.words j) ∙ ap (λ n. view_place last n) on_by) (inside.in_view j (omega (arith, less, above)))
      ];
      from_first = λ k less. omega (arith, ints, row_place last k on.last_step);
      to_last = λ k less. omega (arith, ints, less, row_place last k on.last_step, far_place, on.places, forward.some);
    }

-- and it stages as the one and then the other
pub staged_whole : (runs : List Run) (last next : Run) (words : List ℕ) (staged : List (Option ℕ)) (n : ℕ) → length runs ≡ n + 1 → last ≡ get_or runs n no_run → IsForward last → IsForward next → GoesOn last next
    → runs_staged (set runs n (record last { len = last.len + next.len })) words staged ≡ pairs_written (pairs_of next) words (runs_staged runs words staged)
staged_whole runs last next words staged n long is before forward on =
    let whole : Run = record last { len = last.len + next.len } in
    let all = set runs n whole in
    let size : length all ≡ n + 1 = length-set runs n whole ∙ long in
    let front = take-set-le n runs n whole (omega arith) in
    ap (λ rs. runs_staged rs words staged) (sym (take_all (n + 1) all (omega (arith, size))))
    ∙ runs_more all words staged n no_run (omega (arith, size))
    ∙ (λ i. pairs_written (pairs_of (get_or-set_same runs n whole no_run (omega (arith, long)) i)) words (runs_staged (front i) words staged))
    ∙ joined last next words (runs_staged (take n runs) words staged) last.len next.len
    (λ k less. ap unsigned_abs (row_place last (last.len + k) on.last_step ∙ ap pos (omega (arith, on.places)) ∙ sym (row_place next k on.next_step)))
    (λ k less. on.words k)
    ∙ ap (λ (r : Run). pairs_written (pairs_of next) words (pairs_written (pairs_of r) words (runs_staged (take n runs) words staged))) is
    ∙ ap (pairs_written (pairs_of next) words) (sym (runs_more runs words staged n no_run (omega (arith, long))) ∙ ap (λ rs. runs_staged rs words staged) (take_all (n + 1) runs (omega (arith, long))))

-- runs of which the last goes on rise
pub rising_whole : (runs : List Run) (last next : Run) (v words cells n : ℕ) → length runs ≡ n + 1 → last ≡ get_or runs n no_run → IsForward next → GoesOn last next → v ≤ words
    → IsRunInside next words cells → AreRising v cells runs → AreRising words cells (set runs n (record last { len = last.len + next.len }))
rising_whole runs last next v words cells n long is forward on more inside are =
    let whole : Run = record last { len = last.len + next.len } in
    let size : length (set runs n whole) ≡ n + 1 = length-set runs n whole ∙ long in
    let before : IsForward last = subst IsForward (sym is) (are.forward n no_run (omega (arith, long))) in
    let parts : set runs n whole ≡ take n runs ++ whole ∷ [] = sym (take_all (n + 1) (set runs n whole) (omega (arith, size))) ∙ take_more_set runs n whole (omega (arith, long)) in
    let within : IsRunInside last v cells = subst (λ run. IsRunInside run v cells) (sym is) (are.inside n no_run (omega (arith, long))) in
    subst (AreRising words cells) (sym parts)
    (rising_more v words cells (take n runs) whole (rising_take n v cells runs are (omega (arith, long))) more (forward_whole last next before on)
    (inside_whole last next words cells (λ k less. omega (arith, more, within.in_view k less)) forward on inside)
    (λ i d below.
    let less : i < n = omega (arith, below, length-take-le n runs) in
    let begins = ap (λ (r : Run). r.chunk) (is ∙ get_or_default runs n no_run d (omega (arith, long))) in
    omega (arith, are.apart i n d less (omega (arith, long)), ap last_place (get_or-take n runs i d less), begins))
    (subst (λ (run : Run). run.view ≤ run.chunk) (sym is) (are.ahead n no_run (omega (arith, long)))))
