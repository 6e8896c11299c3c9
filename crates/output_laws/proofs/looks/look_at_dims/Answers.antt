use Rattle.std.proofs.Common.{IsTrue, subst}
use Rattle.std.specs.List.{list_all}
use Rattle.index_intervals.specs.Bounds.{are_bounds}
use Rattle.output_laws.proofs.looks.look_at_dims.Goals as goal

pub returns : goal.returns
returns c = subst (λ ds. IsTrue (list_all are_bounds ds)) c.items.ensures c.look_at_all.ensures
