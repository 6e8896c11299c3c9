use Rattle.chunk_laying.proofs.LayLaws.{cut-words}
use Rattle.chunk_laying.proofs.laying.cut.Goals as goal

pub returns-clause-words : goal.returns-clause-words
returns-clause-words c =
    cut-words c.shape.result.now c.args.shape.now c.args.chunk.now c.args.fill c.args.base.now c.in_ok-cells.cells c.fill_outside.new.cells c.requires.chunk.shape_rank c.requires.chunk.chunk_rank c.shape.ensures.value c.in_ok-cells.ensures
    c.fill_outside.ensures.shape c.fill_outside.ensures.words
