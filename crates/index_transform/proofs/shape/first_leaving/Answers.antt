use Rattle.std.proofs.Common.{◌∙◌, sym}
use Rattle.index_transform.proofs.CellLemmas.{number-empty}
use Rattle.index_transform.proofs.ShapeLemmas.{first-ends, first-no_cell}
use Rattle.index_transform.proofs.shape.first_leaving.Goals as goal

pub returns-clause-value : goal.returns-clause-value
returns-clause-value c =
    c.first_end_leaving.ensures.value
    ∙ first-ends c.args.dims.now c.args.shape.now c.args.maps.now 0 c.requires.bounds c.if-has_empty.ensures.not_empty c.requires.fit

pub returns-then-has_empty-clause-value : goal.returns-then-has_empty-clause-value
returns-then-has_empty-clause-value c =
    first-no_cell c.args.dims.now c.args.shape.now c.args.maps.now (number-empty c.args.dims.now (sym c.has_empty.ensures.value ∙ c.if-has_empty.true))
