use Rattle.std.proofs.Common.{ap, ◌∙◌}
use Rattle.chunk_laying.specs.Laid.{word_within}
use Rattle.chunk_laying.proofs.LayLaws.{word-within}
use Rattle.chunk_laying.proofs.laying.lay.Goals as goal

pub returns-clause-words : goal.returns-clause-words
returns-clause-words c = λ index inside.
    word-within c.args.chunk_shape.now c.args.shape.now c.args.chunk.now c.args.fill c.in_ok-cells.cells c.fill_outside.new.cells c.requires.chunk.shape_rank c.requires.chunk.chunk_rank c.in_ok-cells.ensures.shape
    c.fill_outside.ensures.shape c.fill_outside.ensures.words index inside
    ∙ ap (word_within c.args.shape.now c.args.chunk_shape.now c.args.chunk.now c.args.fill index) (c.in_ok-cells.ensures.words index inside)
