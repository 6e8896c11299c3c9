use Rattle.line_acts.proofs.Laws.{counted_view}
use Rattle.stated_acts.proofs.CellLaws.{found_none, ok_holds, no_err}
use Rattle.stated_acts.proofs.cell_faults.check_cells.Goals as goal

pub targets-requires-clause-finite : goal.targets-requires-clause-finite
targets-requires-clause-finite c = (counted_view c.args.v.now c.requires.counted.0 c.requires.counted.1).0

pub returns-in-Ok-clause-found : goal.returns-in-Ok-clause-found
returns-in-Ok-clause-found c = ok_holds c.all_found.result _ (found_none c.args.v.now _ c.in-Ok.ensures.targets)

pub returns-in-Ok-clause-err : goal.returns-in-Ok-clause-err
returns-in-Ok-clause-err c = no_err c.all_found.result _ _ c.all_found.ensures
