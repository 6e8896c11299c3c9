-- Laws of what staged cells are kept in.
use Rattle.std.proofs.Common.{◌≡◌, ◌≢◌, ℕ, ◌+◌, ◌*◌, ◌<◌, ◌≤◌, ◌^◌, ◌↔◌, Bool, true, false, List, length, get_or, replicate, Option, Some, None, IsSome, refl, sym, ◌∙◌, ap, subst, arith}
use Rattle.std.proofs.lemmas.List.{length-replicate}
use Rattle.std.specs.Prelude.{if◌then◌else◌}
use Rattle.cells.specs.declared.run.Run.{Run}
use Rattle.rebase_writes.specs.Marks.{is_marked, marks_of}
use Rattle.rebase_writes.specs.Staged.{staged_cells, staged_at}
use Rattle.rebase_writes.specs.Rising.{runs_staged, cells_kept, AreRising}
use Rattle.rebase_writes.proofs.MarkLaws.{length-marks_of, cell_at, staged_at-marks}
use Rattle.rebase_writes.proofs.StagedLaws.{length-staged_cells}
use Rattle.rebase_writes.proofs.RisingLaws.{length-runs_staged}

-- runs alone
pub by_runs_is : (by_runs : Bool) (n : ℕ) (runs : List Run) (words marks : List ℕ) (all : List (Option ℕ)) → by_runs ≡ true
    → cells_kept by_runs n runs words marks ≡ all → runs_staged runs words (replicate n None) ≡ all
by_runs_is by_runs n runs words marks all is_true is = sym (ap (λ b. cells_kept b n runs words marks) is_true) ∙ is

-- marks and words alone
pub by_cells_is : (by_runs : Bool) (n : ℕ) (runs : List Run) (words marks : List ℕ) (all : List (Option ℕ)) → by_runs ≡ false
    → cells_kept by_runs n runs words marks ≡ all → staged_cells (marks_of n marks) words ≡ all
by_cells_is by_runs n runs words marks all is_false is = sym (ap (λ b. cells_kept b n runs words marks) is_false) ∙ is

-- runs are over as many cells as there are
pub length-by_runs : (n : ℕ) (runs : List Run) (words : List ℕ) (all : List (Option ℕ)) → runs_staged runs words (replicate n None) ≡ all → length all ≡ n
length-by_runs n runs words all is = sym (ap (λ (cells : List (Option ℕ)). length cells) is) ∙ length-runs_staged runs words (replicate n None) ∙ length-replicate n None

-- and so are marks and words
pub length-by_cells : (n : ℕ) (words marks : List ℕ) (all : List (Option ℕ)) → length words ≡ n → staged_cells (marks_of n marks) words ≡ all → length all ≡ n
length-by_cells n words marks all full is =
    sym (ap (λ (cells : List (Option ℕ)). length cells) is) ∙ length-staged_cells (marks_of n marks) words (length-marks_of n marks ∙ sym full) ∙ full

-- the same runs, as they are lent
pub lent_runs : (words n : ℕ) (runs lent : List Run) (kept lent_kept : List ℕ) → lent ≡ runs → lent_kept ≡ kept → AreRising (length kept) n runs → AreRising (length lent_kept) n lent
lent_runs words n runs lent kept lent_kept is words_is are =
    subst (λ (rs : List Run). AreRising (length lent_kept) n rs) (sym is) (subst (λ (ws : List ℕ). AreRising (length ws) n runs) (sym words_is) are)

-- the cell at a place is that of marks and words
pub cell_is : (n : ℕ) (words marks : List ℕ) (all : List (Option ℕ)) (place : ℕ) → length words ≡ n → staged_cells (marks_of n marks) words ≡ all → place < n
    → staged_at all place ≡ cell_at marks words place
cell_is n words marks all place full is inside = sym (ap (λ cells. staged_at cells place) is) ∙ staged_at-marks n marks words place full inside

-- a mark tells whether a word is staged
pub marked : (n : ℕ) (words marks : List ℕ) (all : List (Option ℕ)) (place : ℕ) → length words ≡ n → staged_cells (marks_of n marks) words ≡ all → place < n
    → (is_marked marks place ≡ true) ↔ IsSome (staged_at all place)
marked n words marks all place full is inside =
    subst (λ (o : Option ℕ). (is_marked marks place ≡ true) ↔ IsSome o) (sym (cell_is n words marks all place full is inside)) (by_mark (is_marked marks place) (get_or words place 0))
  where
    by_mark : (b : Bool) (word : ℕ) → (b ≡ true) ↔ IsSome (if b then Some word else None)
    by_mark true word = (λ _. refl, λ _. refl)
    by_mark false word = (λ h. cc, λ h. cc)

pub unmarked : (n : ℕ) (words marks : List ℕ) (all : List (Option ℕ)) (place : ℕ) → length words ≡ n → staged_cells (marks_of n marks) words ≡ all → place < n
    → (is_marked marks place ≡ false) ↔ (staged_at all place ≡ None)
unmarked n words marks all place full is inside =
    subst (λ (o : Option ℕ). (is_marked marks place ≡ false) ↔ (o ≡ None)) (sym (cell_is n words marks all place full is inside)) (by_mark (is_marked marks place) (get_or words place 0))
  where
    by_mark : (b : Bool) (word : ℕ) → (b ≡ false) ↔ ((if b then Some word else None) ≡ None)
    by_mark true word = (λ h. absurd (cc), λ h. absurd (cc))
    by_mark false word = (λ _. refl, λ _. refl)

-- marks and words that stand for all that is staged
pub record IsSpread (n : ℕ) (words marks : List ℕ) (all : List (Option ℕ)) : Type 0 where
  pub full : length words ≡ n
  pub room : n ≤ 64 * length marks
  pub is : staged_cells (marks_of n marks) words ≡ all

-- as runs were spread
pub spread_words : (n : ℕ) (runs lent : List Run) (old words now_words marks now_marks : List ℕ) (all : List (Option ℕ))
    → runs_staged runs old (replicate n None) ≡ all → lent ≡ runs → length words ≡ n → n ≤ 64 * length marks → staged_cells (marks_of n marks) words ≡ runs_staged lent old (replicate n None)
    → now_words ≡ words → now_marks ≡ marks → IsSpread n now_words now_marks all
spread_words n runs lent old words now_words marks now_marks all is lent_is full room staged words_is marks_is = record {
  full = ap (λ (w : List ℕ). length w) words_is ∙ full;
  room = subst (λ (m : List ℕ). n ≤ 64 * length m) (sym marks_is) room;
  is = (λ i. staged_cells (marks_of n (marks_is i)) (words_is i)) ∙ staged ∙ ap (λ (rs : List Run). runs_staged rs old (replicate n None)) lent_is ∙ is;
}

-- as they were before
pub spread_before : (n : ℕ) (words now_words marks now_marks : List ℕ) (all : List (Option ℕ)) → length words ≡ n → n ≤ 64 * length marks → staged_cells (marks_of n marks) words ≡ all
    → now_words ≡ words → now_marks ≡ marks → IsSpread n now_words now_marks all
spread_before n words now_words marks now_marks all full room is words_is marks_is = record {
  full = ap (λ (w : List ℕ). length w) words_is ∙ full;
  room = subst (λ (m : List ℕ). n ≤ 64 * length m) (sym marks_is) room;
  is = (λ i. staged_cells (marks_of n (marks_is i)) (words_is i)) ∙ is;
}
