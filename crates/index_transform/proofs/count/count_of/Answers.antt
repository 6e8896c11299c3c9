use Rattle.std.proofs.Common.{◌∙◌, sym}
use Rattle.index_transform.proofs.CellLemmas.{number-empty, number-counted}
use Rattle.index_transform.proofs.count.count_of.Goals as goal

pub returns-clause-number : goal.returns-clause-number
returns-clause-number c = number-counted c.args.dims.now c.counted.result c.counted.ensures

pub returns-then-has_empty-clause-number : goal.returns-then-has_empty-clause-number
returns-then-has_empty-clause-number c = number-empty c.args.dims.now (sym c.has_empty.ensures.value ∙ c.if-has_empty.true)
