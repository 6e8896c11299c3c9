use Rattle.state_laws.proofs.Held.{arrays_with_cells, locals_set}
use Rattle.state_laws.proofs.records.put_cells.Goals as goal

pub returns-clause-locals : goal.returns-clause-locals
returns-clause-locals c = locals_set c.args.entries.now c.args.place _

pub returns-clause-arrays : goal.returns-clause-arrays
returns-clause-arrays c = λ events old. arrays_with_cells events c.args.entries.now c.args.place c.index-entries-place.result c.args.cells old
