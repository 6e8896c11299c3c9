-- One place more, or a word of marks without any.
use Rattle.std.proofs.Common.{◌≡◌, ◌+◌, ◌<◌, ◌≤◌, ◌∙◌, inl, inr, true, false, List, ℕ, refl, length, get_or, set, sym, ap, subst, arith}
use Rattle.std.proofs.lemmas.List.{length-set}
use Rattle.cells.specs.Dense.{DenseCells}
use Rattle.cells.specs.Numbers.{IsWord}
use Rattle.cells.proofs.Laws.{true_or_false}
use Rattle.cells.specs.Runs.{pairs_of, pairs_put}
use Rattle.rebase_writes.specs.Marks.{is_marked, marks_of}
use Rattle.rebase_writes.specs.Runs.{row_at}
use Rattle.rebase_writes.specs.Staged.{staged_cells, laid_over}
use Rattle.rebase_writes.proofs.MarkLaws.{length-marks_of, get_or-marks_of}
use Rattle.rebase_writes.proofs.StagedLaws.{IsLaidUpTo, IsLaidUpTo-covered, IsLaidUpTo-bare, IsLaidUpTo-many, IsLaidUpTo-row, IsLaidUpTo-all, length-row}
use Rattle.rebase_writes.proofs.run.lay_marked.Goals as goal

pub loop-place-init : goal.loop-place-init
loop-place-init c = record { bound = omega arith; kept = refl; size = refl; laid = record { front = λ k less. absurd (omega (arith, less)); rest = λ k above. refl } }

pub lay_cell-requires-clause-word : goal.lay_cell-requires-clause-word
lay_cell-requires-clause-word c mark =
    subst (λ (d : DenseCells). IsWord d.dtype (get_or c.args.staged.now c.loop-place.place 0)) (sym c.loop-place.invariant.kept) (c.requires.words c.loop-place.place (omega arith) mark)

pub loop-place-preserved-then-bare-gt0 : goal.loop-place-preserved-then-bare-gt0
loop-place-preserved-then-bare-gt0 c =
    let was = c.loop-place.invariant in
    let n = length c.args.staged.now in
    let far : c.loop-place.place + c.bare_from-bare.result ≤ n = omega (arith, c.bare_from-bare.ensures.to) in
    record {
      bound = far;
      kept = was.kept;
      size = was.size;
      laid = IsLaidUpTo-many (marks_of n c.args.marks.now) c.args.staged.now c.args.chunk.now.words c.loop-place.chunk.words c.loop-place.place c.bare_from-bare.result
          (length-marks_of n c.args.marks.now) c.requires.size (omega (arith, far, length-marks_of n c.args.marks.now))
          (λ k less. get_or-marks_of n c.args.marks.now (c.loop-place.place + k) (omega (arith, far, less)) ∙ c.bare_from-bare.ensures.bare k less) was.laid;
    }

pub lay_row-requires-clause-words : goal.lay_row-requires-clause-words
lay_row-requires-clause-words c k less =
    subst (λ (d : DenseCells). IsWord d.dtype (get_or c.args.staged.now (c.loop-place.place + k) 0)) (sym c.loop-place.invariant.kept)
    (c.requires.words (c.loop-place.place + k) (omega (arith, less, c.full_from-full.ensures.to)) (c.full_from-full.ensures.full k less))

pub loop-place-preserved-then-full-gt0 : goal.loop-place-preserved-then-full-gt0
loop-place-preserved-then-full-gt0 c =
    let was = c.loop-place.invariant in
    let n = length c.args.staged.now in
    let full = c.full_from-full.result in
    let far : c.loop-place.place + full ≤ n = omega (arith, c.full_from-full.ensures.to) in
    let mask = marks_of n c.args.marks.now in
    let long = length-marks_of n c.args.marks.now in
    let base = c.args.chunk.now in
    let laid = pairs_put (pairs_of (row_at c.loop-place.place full)) c.args.staged.now c.loop-place.chunk.words in
    let words : c.lay_row.new.chunk.words ≡ laid = ap (λ (d : DenseCells). d.words) c.lay_row.ensures in
    record {
      bound = far;
      kept = c.lay_row.ensures ∙ ap (λ (d : DenseCells). record d { words = laid }) was.kept ∙ ap (λ (ws : List ℕ). record base { words = ws }) (sym words);
      size = ap (λ (ws : List ℕ). length ws) words ∙ length-row c.loop-place.place full c.args.staged.now c.loop-place.chunk.words ∙ was.size;
      laid = subst (λ (ws : List ℕ). IsLaidUpTo mask c.args.staged.now base.words ws (c.loop-place.place + full)) (sym words)
          (IsLaidUpTo-row mask c.args.staged.now base.words c.loop-place.chunk.words c.loop-place.place full long c.requires.size was.size (omega (arith, far, long))
          (λ k less. get_or-marks_of n c.args.marks.now (c.loop-place.place + k) (omega (arith, far, less)) ∙ c.full_from-full.ensures.full k less) was.laid);
    }

pub loop-place-preserved : goal.loop-place-preserved
loop-place-preserved c =
    let was = c.loop-place.invariant in
    let place = c.loop-place.place in
    let marks = c.args.marks.now in
    let staged = c.args.staged.now in
    let n = length staged in
    let base = c.args.chunk.now in
    let now = c.loop-place.chunk in
    let new = c.lay_cell.new.chunk in
    let mask = marks_of n marks in
    let long = length-marks_of n marks in
    let word = get_or staged place 0 in
    elim (true_or_false (is_marked marks place)) [
      | inl mark ↦
          let is = c.lay_cell.ensures.marked mark in
          let words : new.words ≡ set now.words place word = ap (λ (d : DenseCells). d.words) is in
          record {
            bound = omega arith;
            kept = is ∙ ap (λ (d : DenseCells). record d { words = set now.words place word }) was.kept ∙ ap (λ (ws : List ℕ). record base { words = ws }) (sym words);
            size = ap (λ (ws : List ℕ). length ws) words ∙ length-set now.words place word ∙ was.size;
            laid = subst (λ (ws : List ℕ). IsLaidUpTo mask staged base.words ws (place + 1)) (sym words)
                (IsLaidUpTo-covered mask staged base.words now.words place long c.requires.size was.size (omega (arith, long)) (get_or-marks_of n marks place (omega arith) ∙ mark) was.laid);
          }
      | inr bare ↦
          let is = c.lay_cell.ensures.unmarked bare in
          let words : new.words ≡ now.words = ap (λ (d : DenseCells). d.words) is in
          record {
            bound = omega arith;
            kept = is ∙ was.kept ∙ ap (λ (ws : List ℕ). record base { words = ws }) (sym words);
            size = ap (λ (ws : List ℕ). length ws) words ∙ was.size;
            laid = subst (λ (ws : List ℕ). IsLaidUpTo mask staged base.words ws (place + 1)) (sym words)
                (IsLaidUpTo-bare mask staged base.words now.words place long c.requires.size (omega (arith, long)) (get_or-marks_of n marks place (omega arith) ∙ bare) was.laid);
          }
    ]

pub returns : goal.returns
returns c count full =
    let was = c.loop-place.invariant in
    let marks = c.args.marks.now in
    let staged = c.args.staged.now in
    let n = length staged in
    let long = length-marks_of n marks in
    let all = IsLaidUpTo-all (marks_of n marks) staged c.args.chunk.now.words c.loop-place.chunk.words c.loop-place.place long c.requires.size was.size (omega (arith, long)) was.laid in
    was.kept ∙ ap (λ (ws : List ℕ). record c.args.chunk.now { words = ws }) (all ∙ ap (λ m. laid_over (staged_cells (marks_of m marks) staged) c.args.chunk.now.words) full)
