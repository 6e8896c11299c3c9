-- Laws of a row that is staged: its places are marked together.
use Rattle.std.proofs.Common.{◌≡◌, ◌≢◌, ◌⊎◌, inl, inr, ℕ, ◌+◌, ◌-◌, ◌<◌, ◌≤◌, ℤ, pos, ◌+ℤ◌, ◌*ℤ◌, ◌≤ℤ◌, unsigned_abs, true, List, Option, Some, None, length, get_or, refl, sym, ◌∙◌, ap, subst, arith}
use Rattle.std.proofs.lemmas.Int.{ints}
use Rattle.std.proofs.lemmas.List.{ext_get_or}
use Rattle.cells.proofs.Laws.{less_or_not}
use Rattle.cells.specs.declared.run.Run.{Run}
use Rattle.cells.specs.Runs.{view_place, chunk_place, pairs_of}
use Rattle.rebase_writes.specs.Marks.{is_marked, marks_of}
use Rattle.rebase_writes.specs.Runs.{pairs_written}
use Rattle.rebase_writes.specs.Staged.{staged_at, staged_cells}
use Rattle.rebase_writes.proofs.MarkLaws.{length-marks_of, staged_at-marks, marked_cell, same_cell}
use Rattle.rebase_writes.proofs.RisingLaws.{run_hit, run_missed, length-pairs_written}
use Rattle.rebase_writes.proofs.SpreadLaws.{pair_or_none}
use Rattle.rebase_writes.proofs.StagedLaws.{length-staged_cells}

-- the places of a run without gaps
pub row_of : (run : Run) (k : ℕ) → run.chunk_step ≡ pos 1 → chunk_place run k ≡ run.chunk + k
row_of run k step = ap (λ (s : ℤ). unsigned_abs (pos run.chunk +ℤ s *ℤ pos k)) step ∙ omega (arith, ints)

-- its marks and words in place, and all else as it was, are the run staged
pub row_staged : (run : Run) (count : ℕ) (words old_marks old_staged marks staged : List ℕ) → length old_staged ≡ count → length staged ≡ count → run.chunk_step ≡ pos 1
    → ((place : ℕ) → run.chunk ≤ place → place < run.chunk + run.len → is_marked marks place ≡ true)
    → ((place : ℕ) → (place < run.chunk) ⊎ (run.chunk + run.len ≤ place) → is_marked marks place ≡ is_marked old_marks place)
    → ((k : ℕ) → k < run.len → get_or staged (chunk_place run k) 0 ≡ get_or words (view_place run k) 0)
    → ((place : ℕ) → ((k : ℕ) → k < run.len → chunk_place run k ≢ place) → get_or staged place 0 ≡ get_or old_staged place 0)
    → staged_cells (marks_of count marks) staged ≡ pairs_written (pairs_of run) words (staged_cells (marks_of count old_marks) old_staged)
row_staged run count words old_marks old_staged marks staged full sized step here others done rest =
    let old = staged_cells (marks_of count old_marks) old_staged in
    let left = length-staged_cells (marks_of count marks) staged (length-marks_of count marks ∙ sym sized) in
    let was = length-staged_cells (marks_of count old_marks) old_staged (length-marks_of count old_marks ∙ sym full) in
    let right = length-pairs_written (pairs_of run) words old in
    let one : pos 1 ≤ℤ pos 1 = omega (arith, ints) in
    let up : pos 1 ≤ℤ run.chunk_step = subst (λ (s : ℤ). pos 1 ≤ℤ s) (sym step) one in
    ext_get_or None (staged_cells (marks_of count marks) staged) (pairs_written (pairs_of run) words old) (left ∙ sized ∙ sym (right ∙ was ∙ full))
    (λ place inside.
    let less : place < count = omega (arith, inside, left, sized) in
    staged_at-marks count marks staged place sized less ∙ (elim (pair_or_none run place run.len) [
      | inl pair ↦
          let k = pair.0 in
          let at : chunk_place run k ≡ place = pair.2 in
          let is = row_of run k step in
          marked_cell marks staged place (get_or words (view_place run k) 0) (here place (omega (arith, is, at)) (omega (arith, is, at, pair.1)))
          (subst (λ p. get_or staged p 0 ≡ get_or words (view_place run k) 0) at (done k pair.1))
          ∙ sym (ap (λ p. staged_at (pairs_written (pairs_of run) words old) p) (sym at) ∙ run_hit run words old k up pair.1 (omega (arith, at, less, was, full)))
      | inr none ↦
          same_cell marks old_marks staged old_staged place (others place (outside place none)) (rest place none)
          ∙ sym (run_missed run words old place none ∙ staged_at-marks count old_marks old_staged place full less)
    ]))
  where
    outside : (place : ℕ) → ((k : ℕ) → k < run.len → chunk_place run k ≢ place) → (place < run.chunk) ⊎ (run.chunk + run.len ≤ place)
    outside place none = elim (less_or_not place run.chunk) [
      | inl before ↦ inl before
      | inr above ↦ elim (less_or_not place (run.chunk + run.len)) [
        | inl within ↦
            let is = row_of run (place - run.chunk) step in
            let same : chunk_place run (place - run.chunk) ≡ place = omega (arith, is, above) in
            absurd (none (place - run.chunk) (omega (arith, above, within)) same)
        | inr behind ↦ inr (omega (arith, behind))
      ]
    ]
