use Rattle.std.proofs.Common.{ap, sym, subst, ◌∙◌}
use Rattle.zarr_chunks.specs.Dense.{DenseCells}
use Rattle.zarr_chunks.specs.Elements.{word_at}
use Rattle.zarr_chunks.specs.Places.{IsInside}
use Rattle.chunk_forms.proofs.Laws.{filled_word}
use Rattle.chunk_forms.proofs.decode.filled.Goals as goal

pub returns-in-Ok-clause-words : goal.returns-in-Ok-clause-words
returns-in-Ok-clause-words c = λ index inside.
    ap (λ (cells : DenseCells). word_at cells index) c.in-Ok.ensures
    ∙ filled_word c.chunk_shape.result.now c.args.fill index (subst (λ s. IsInside s index) (sym c.chunk_shape.ensures.value) inside)
