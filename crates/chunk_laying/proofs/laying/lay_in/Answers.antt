use Rattle.std.proofs.Common.{◌≡◌, ◌<◌, ℕ, ap, subst, ◌∙◌}
use Rattle.std.specs.Prelude.{slice_index, unwrap_or}
use Rattle.cells.specs.Dense.{DenseCells}
use Rattle.cells.specs.Places.{cell_count}
use Rattle.rebase_writes.specs.Staged.{staged_at}
use Rattle.chunk_laying.specs.Laid.{word_within}
use Rattle.chunk_laying.proofs.LayLaws.{word-within, over-base}
use Rattle.chunk_laying.proofs.laying.lay_in.Goals as goal

pub returns-clause-words : goal.returns-clause-words
returns-clause-words c index inside =
    let ns = c.args.chunk_shape.now in
    let laid : DenseCells = c.lay_over.new.chunk in
    let after : DenseCells = c.fill_outside.new.cells in
    let shape : laid.shape ≡ ns = ap (λ (d : DenseCells). d.shape) c.lay_over.ensures.value ∙ c.requires.base_shape in
    let each : (p : ℕ) → p < cell_count ns → slice_index laid.words p ≡ unwrap_or (staged_at c.args.staged.now p) (slice_index c.args.base.words p) =
    subst (λ n. (p : ℕ) → p < n → slice_index laid.words p ≡ unwrap_or (staged_at c.args.staged.now p) (slice_index c.args.base.words p)) c.requires.size c.lay_over.ensures.cells in
    word-within ns c.args.shape.now c.args.chunk.now c.args.fill laid after c.requires.chunk.shape_rank c.requires.chunk.chunk_rank shape c.fill_outside.ensures.shape c.fill_outside.ensures.words index inside
    ∙ ap (word_within c.args.shape.now ns c.args.chunk.now c.args.fill index)
    (over-base ns c.args.staged.now c.args.fill c.args.base laid c.requires.base_shape shape each index inside)
