-- Laws of words that are taken from runs to the places of their cells.
use Rattle.std.proofs.Common.{◌≡◌, ◌≢◌, ◌⊎◌, inl, inr, ℕ, zero, suc, ◌+◌, ◌-◌, ◌*◌, ◌<◌, ◌≤◌, ◌^◌, pos, ◌≤ℤ◌, unsigned_abs, Bool, true, false, List, length, get_or, set, replicate, Option, Some, None, refl, sym, ap, ◌∙◌, subst, arith, mul_comm, eq-or-lt_of_le, get_or-set_same, get_or-set_other}
use Rattle.std.proofs.Math.Nat.{mul-le-mul_left}
use Rattle.std.proofs.lemmas.List.{ext_get_or, length-replicate, get_or_default}
use Rattle.std.specs.Prelude.{if◌then◌else◌}
use Rattle.cells.specs.declared.run.Run.{Run}
use Rattle.cells.specs.Runs.{view_place, chunk_place}
use Rattle.cells.proofs.Laws.{equal_or_not, less_or_not}
use Rattle.rebase_writes.specs.Marks.{is_marked, marks_of}
use Rattle.rebase_writes.specs.Staged.{staged_cells, staged_at}
use Rattle.rebase_writes.specs.Rising.{IsForward, AreRising, IsCopied, last_place, runs_staged}
use Rattle.rebase_writes.proofs.StagedLaws.{length-staged_cells}
use Rattle.rebase_writes.proofs.MarkLaws.{length-marks_of, cell_at, staged_at-marks, marked_cell, bare_cell, same_cell}
use Rattle.rebase_writes.proofs.RisingLaws.{no_run, forward_place, stride-pos, place_less, from_first, to_last, last_or_less, begun_front, begun_back, begins_rise, run_shown, none_before, none_at, runs_missed, rising_over, rising_wider, length-runs_staged}

-- a run whose words begin no later than its places has each word no later than its place
pub view_before : (run : Run) (k : ℕ) → IsForward run → run.view ≤ run.chunk → view_place run k ≤ chunk_place run k
view_before run k forward ahead =
    let s = unsigned_abs run.chunk_step in
    let at = forward_place run.chunk k run.chunk_step forward.places in
    let low : k * run.view_step ≤ k * 1 = mul-le-mul_left k forward.words in
    let high : k * 1 ≤ k * s = mul-le-mul_left k (stride-pos run.chunk_step forward.places) in
    omega (arith, at, low, high, mul_comm k run.view_step, mul_comm k s, ahead)

-- a run has a place, or none of its pairs has
pub pair_or_none : (run : Run) (place n : ℕ) → ((k : ℕ) × (k < n) × (chunk_place run k ≡ place)) ⊎ ((k : ℕ) → k < n → chunk_place run k ≢ place)
pair_or_none run place zero = inr (λ k less. absurd (omega (arith, less)))
pair_or_none run place (suc n) = elim (equal_or_not (chunk_place run n) place) [
  | inl is ↦ inl (n, omega arith, is)
  | inr apart ↦ elim (pair_or_none run place n) [
    | inl found ↦ inl (found.0, omega (arith, found.1), found.2)
    | inr none ↦ inr (λ k less. elim (last_or_less k n (omega (arith, less))) [
      | inl last ↦ λ same. apart (ap (λ m. chunk_place run m) (sym last) ∙ same)
      | inr before ↦ none k before
    ])
  ]
]

-- one pair more is taken to its place
copied_more : (run : Run) (m : ℕ) (old_marks old_words marks words new_marks new_words : List ℕ) → IsForward run → run.view ≤ run.chunk → m < run.len → chunk_place run m < length words
    → IsCopied run (m + 1) old_marks old_words marks words → is_marked new_marks (chunk_place run m) ≡ true
    → ((other : ℕ) → other ≢ chunk_place run m → is_marked new_marks other ≡ is_marked marks other)
    → new_words ≡ set words (chunk_place run m) (get_or words (view_place run m) 0) → IsCopied run m old_marks old_words new_marks new_words
copied_more run m old_marks old_words marks words new_marks new_words forward ahead less inside is here others word = record {
  pairs = λ k above below. elim (same_or_later m k above) [
    | inl same ↦ (
      ap (λ n. is_marked new_marks (chunk_place run n)) (sym same) ∙ here,
      ap (λ n. get_or new_words (chunk_place run n) 0) (sym same)
          ∙ ap (λ ws. get_or ws (chunk_place run m) 0) word
          ∙ get_or-set_same words (chunk_place run m) (get_or words (view_place run m) 0) 0 inside
          ∙ (is.others (view_place run m) (λ j later within hits. absurd (omega (arith, view_before run m forward ahead, place_less run m j forward.places (omega (arith, later)), hits)))).1
          ∙ ap (λ n. get_or old_words (view_place run n) 0) same,
    )
    | inr later ↦
        let further = place_less run m k forward.places later in
        let apart : chunk_place run k ≢ chunk_place run m = λ same. absurd (omega (arith, further, same)) in
        let before = is.pairs k (omega (arith, later)) below in (
          others (chunk_place run k) apart ∙ before.0,
          ap (λ ws. get_or ws (chunk_place run k) 0) word ∙ get_or-set_other words (chunk_place run m) (chunk_place run k) (get_or words (view_place run m) 0) 0 apart ∙ before.1,
        )
  ];
  others = λ place miss.
      let apart : place ≢ chunk_place run m = λ same. miss m (omega arith) less (sym same) in
      let before = is.others place (λ k above below. miss k (omega (arith, above)) below) in (
        others place apart ∙ before.0,
        ap (λ ws. get_or ws place 0) word ∙ get_or-set_other words (chunk_place run m) place (get_or words (view_place run m) 0) 0 apart ∙ before.1,
      );
}
  where
    same_or_later : (m k : ℕ) → m ≤ k → (m ≡ k) ⊎ (m < k)
    same_or_later m k above = eq-or-lt_of_le above

-- the same, by the places as they were counted
pub copied_at : (run : Run) (m view place : ℕ) (old_marks old_words marks words new_marks : List ℕ) → view ≡ view_place run m → place ≡ chunk_place run m
    → IsForward run → run.view ≤ run.chunk → m < run.len → place < length words → IsCopied run (m + 1) old_marks old_words marks words → is_marked new_marks place ≡ true
    → ((other : ℕ) → other ≢ place → is_marked new_marks other ≡ is_marked marks other)
    → IsCopied run m old_marks old_words new_marks (set words place (get_or words view 0))
copied_at run m view place old_marks old_words marks words new_marks view_is place_is forward ahead less inside is here others =
    copied_more run m old_marks old_words marks words new_marks (set words place (get_or words view 0)) forward ahead less (omega (arith, inside, place_is)) is
    (ap (is_marked new_marks) (sym place_is) ∙ here)
    (λ other apart. others other (λ same. apart (same ∙ place_is)))
    (λ i. set words (place_is i) (get_or words (view_is i) 0))

-- cells of the runs from one on are at their places, and before the begin of these runs all is as it was
pub record IsSpreadFrom (runs : List Run) (n left : ℕ) (old marks words : List ℕ) : Type 0 where
  pub before : (place : ℕ) → ((j : ℕ) (d : Run) → left ≤ j → j < length runs → place < (get_or runs j d).chunk)
      → (is_marked marks place ≡ false) × (get_or words place 0 ≡ get_or old place 0)
  pub behind : (place j : ℕ) (d : Run) → left ≤ j → j < length runs → (get_or runs j d).chunk ≤ place
      → cell_at marks words place ≡ staged_at (runs_staged runs old (replicate n None)) place

-- one run more is taken to its places
record IsOneMore (runs : List Run) (n m : ℕ) (old marks words new_marks new_words : List ℕ) : Type 0 where
  size : length old ≡ n
  small : n ≤ 2 ^ 24
  are : AreRising n n runs
  within : m < length runs
  is : IsSpreadFrom runs n (m + 1) old marks words
  copied : IsCopied (get_or runs m no_run) 0 marks words new_marks new_words

-- the cells of later runs stay
later_cell : {runs : List Run} {n m : ℕ} {old marks words new_marks new_words : List ℕ} → IsOneMore runs n m old marks words new_marks new_words
    → (place j : ℕ) (d : Run) → m + 1 ≤ j → j < length runs → (get_or runs j d).chunk ≤ place → cell_at new_marks new_words place ≡ staged_at (runs_staged runs old (replicate n None)) place
later_cell {runs} {n} {m} {old} {marks} {words} {new_marks} {new_words} s place j d above below begins =
    let run = get_or runs m no_run in
    let forward : IsForward run = s.are.forward m no_run s.within in
    let ends = s.are.apart m j d (omega (arith, above)) below in
    let is_run : get_or runs m d ≡ run = get_or_default runs m d no_run s.within in
    let left = s.copied.others place (λ k from less hits. absurd (omega (arith, ends, ap (λ r. last_place r) is_run, to_last run k forward.places less, hits, begins))) in
    same_cell new_marks marks new_words words place left.0 left.1 ∙ s.is.behind place j d above below begins

-- and the cells up to the next run are those of this one
newest_cell : {runs : List Run} {n m : ℕ} {old marks words new_marks new_words : List ℕ} → IsOneMore runs n m old marks words new_marks new_words
    → (place : ℕ) → (get_or runs m no_run).chunk ≤ place → ((j : ℕ) (d : Run) → m + 1 ≤ j → j < length runs → place < (get_or runs j d).chunk)
    → cell_at new_marks new_words place ≡ staged_at (runs_staged runs old (replicate n None)) place
newest_cell {runs} {n} {m} {old} {marks} {words} {new_marks} {new_words} s place begins ends =
    let run = get_or runs m no_run in
    let forward : IsForward run = s.are.forward m no_run s.within in
    let over : AreRising (length old) n runs = subst (λ w. AreRising w n runs) (sym s.size) s.are in
    let was = s.is.before place ends in
    elim (pair_or_none run place run.len) [
      | inl found ↦
          let pair = s.copied.pairs found.0 (omega arith) found.1 in
          let view = view_before run found.0 forward (s.are.ahead m no_run s.within) in
          let read = s.is.before (view_place run found.0) (λ j d above below. omega (arith, view, found.2, ends j d above below)) in
          let shown = run_shown old (replicate n None) runs (rising_over (length old) n runs over) m no_run found.0 s.within found.1 in
          ap (λ p. cell_at new_marks new_words p) (sym found.2)
          ∙ marked_cell new_marks new_words (chunk_place run found.0) (get_or old (view_place run found.0) 0) pair.0 (pair.1 ∙ read.1)
          ∙ sym shown
          ∙ ap (λ p. staged_at (runs_staged runs old (replicate n None)) p) found.2
      | inr none ↦
          let left = s.copied.others place (λ k from less. none k less) in
          let back : m + 1 - 1 ≡ m = omega arith in
          bare_cell new_marks new_words place (left.0 ∙ was.0)
          ∙ sym (none_before old runs place (m + 1) (rising_wider (length old) n (2 ^ 24) runs s.small over) (omega arith) (omega (arith, s.within))
          (begun_front runs place m no_run (begins_rise n n runs s.are) s.within begins) ends
          (subst (λ c. (k : ℕ) → k < (get_or runs c no_run).len → chunk_place (get_or runs c no_run) k ≢ place) (sym back) none) (replicate n None)
          ∙ none_at n place)
    ]

pub spread_more : (runs : List Run) (n m : ℕ) (old marks words new_marks new_words : List ℕ) → length old ≡ n → n ≤ 2 ^ 24 → AreRising n n runs → m < length runs
    → IsSpreadFrom runs n (m + 1) old marks words → IsCopied (get_or runs m no_run) 0 marks words new_marks new_words → IsSpreadFrom runs n m old new_marks new_words
spread_more runs n m old marks words new_marks new_words size small are within is copied =
    let run = get_or runs m no_run in
    let forward : IsForward run = are.forward m no_run within in
    let step : IsOneMore runs n m old marks words new_marks new_words = record { size = size; small = small; are = are; within = within; is = is; copied = copied } in
    record {
      before = λ place all.
          let here : place < run.chunk = all m no_run (omega arith) within in
          let left = copied.others place (λ k from less hits. absurd (omega (arith, here, from_first run k forward.places, hits))) in
          let was = is.before place (λ j d above below. all j d (omega (arith, above)) below) in
          (left.0 ∙ was.0, left.1 ∙ was.1);
      behind = λ place j d above below begins. elim (same_or_later m j above) [
        | inr later ↦ later_cell step place j d (omega (arith, later)) below begins
        | inl same ↦
            let here : run.chunk ≤ place = omega (arith, begins, ap (λ k. (get_or runs k d).chunk) same, ap (λ (r : Run). r.chunk) (get_or_default runs m d no_run within)) in
            elim (less_or_not (m + 1) (length runs)) [
              | inr last ↦ newest_cell step place here (λ i e over under. absurd (omega (arith, last, over, under)))
              | inl more ↦ elim (less_or_not place (get_or runs (m + 1) no_run).chunk) [
                | inl before ↦ newest_cell step place here (begun_back runs place (m + 1) no_run (begins_rise n n runs are) before)
                | inr begun ↦ later_cell step place (m + 1) no_run (omega arith) more begun
              ]
            ]
      ];
    }
  where
    same_or_later : (m k : ℕ) → m ≤ k → (m ≡ k) ⊎ (m < k)
    same_or_later m k above = eq-or-lt_of_le above

-- all runs
pub spread_all : (runs : List Run) (n : ℕ) (old marks words : List ℕ) → length words ≡ n → AreRising n n runs → IsSpreadFrom runs n 0 old marks words
    → staged_cells (marks_of n marks) words ≡ runs_staged runs old (replicate n None)
spread_all runs n old marks words size are is =
    let left = length-staged_cells (marks_of n marks) words (length-marks_of n marks ∙ sym size) in
    let right = length-runs_staged runs old (replicate n None) ∙ length-replicate n None in
    ext_get_or None (staged_cells (marks_of n marks) words) (runs_staged runs old (replicate n None)) (left ∙ size ∙ sym right)
    (λ place inside.
    let less : place < n = omega (arith, inside, left, size) in
    staged_at-marks n marks words place size less ∙ (elim (less_or_not 0 (length runs)) [
      | inr none ↦ bare_at runs n old marks words are is place (λ j d above below. absurd (omega (arith, none, below)))
      | inl some ↦ elim (less_or_not place (get_or runs 0 no_run).chunk) [
        | inl before ↦ bare_at runs n old marks words are is place (begun_back runs place 0 no_run (begins_rise n n runs are) before)
        | inr begun ↦ is.behind place 0 no_run (omega arith) some begun
      ]
    ]))
  where
    bare_at : (runs : List Run) (n : ℕ) (old marks words : List ℕ) → AreRising n n runs → IsSpreadFrom runs n 0 old marks words → (place : ℕ)
        → ((j : ℕ) (d : Run) → 0 ≤ j → j < length runs → place < (get_or runs j d).chunk) → cell_at marks words place ≡ staged_at (runs_staged runs old (replicate n None)) place
    bare_at runs n old marks words are is place ends =
        bare_cell marks words place (is.before place ends).0
        ∙ sym (runs_missed runs old (replicate n None) place
        (λ i d inside k less hits. absurd (omega (arith, ends i d (omega arith) inside, from_first (get_or runs i d) k (are.forward i d inside).places, hits)))
        ∙ none_at n place)
