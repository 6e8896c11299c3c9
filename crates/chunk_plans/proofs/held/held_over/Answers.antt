use Rattle.std.proofs.Common.{◌≡◌, sym, subst, ℕ, ap, ◌∙◌, ◌<◌}
use Rattle.std.specs.Prelude.{slice_index, unwrap_or, length}
use Rattle.cells.specs.Dense.{DenseCells, IsDense}
use Rattle.cells.specs.Elements.{word_at}
use Rattle.cells.specs.Places.{cell_count}
use Rattle.chunk_cache.specs.Snapshot.{SnapshotCells}
use Rattle.rebase_writes.specs.Staged.{AreWords, staged_at}
use Rattle.chunk_plans.proofs.LeftLaws.{over_word}
use Rattle.chunk_plans.proofs.held.held_over.Goals as goal

pub over-requires-clause-words : goal.over-requires-clause-words
over-requires-clause-words c = subst (λ (s : DenseCells). AreWords s.dtype c.args.staged.now) (sym c.cells-2.ensures) c.requires.words

pub over-requires-clause-size : goal.over-requires-clause-size
over-requires-clause-size c = c.requires.size ∙ ap (λ (d : DenseCells). cell_count d.shape) (sym c.cells-2.ensures) ∙ sym (subst IsDense (c.cells.ensures ∙ sym c.cells-2.ensures) c.shape.ensures.well_formed).full

pub returns-clause-words : goal.returns-clause-words
returns-clause-words c at inside =
    let base : DenseCells = c.args.base.now.cells in
    let laid : DenseCells = c.in_ok-over.field-0 in
    let last : c.new-2.result.cells ≡ laid = ap (λ (s : SnapshotCells). s.cells) c.new-2.ensures ∙ c.in_ok-cells.ensures.ok in
    let shapes : laid.shape ≡ base.shape = ap (λ (d : DenseCells). d.shape) c.in_ok-over.ensures.value ∙ ap (λ (d : DenseCells). d.shape) c.cells-2.ensures in
    let each : (place : ℕ) → place < length c.args.staged.now → slice_index laid.words place ≡ unwrap_or (staged_at c.args.staged.now place) (slice_index base.words place) =
    subst (λ (d : DenseCells). (place : ℕ) → place < length c.args.staged.now → slice_index laid.words place ≡ unwrap_or (staged_at c.args.staged.now place) (slice_index d.words place)) c.cells-2.ensures c.in_ok-over.ensures.cells in
    ap (λ (d : DenseCells). word_at d at) last ∙ over_word base laid c.args.staged.now at c.requires.size shapes each inside
