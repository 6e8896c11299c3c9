use Rattle.std.proofs.Common.{List, subst}
use Rattle.std.specs.Prelude.{IsTrue}
use Rattle.std.specs.List.{list_all}
use Rattle.index_intervals.specs.Bounds.{Bounds, is_ordered}
use Rattle.stack_targets.proofs.Gathered.{ordered}
use Rattle.stack_targets.proofs.targeting.targets.Goals as goal

pub along-requires-clause-ordered : goal.along-requires-clause-ordered
along-requires-clause-ordered c =
    subst (λ (ds : List Bounds). IsTrue (list_all is_ordered ds)) c.transform_of.ensures.domain (ordered c.transform_of.result.now.domain.dims c.domain.ensures.well_formed.bounds)
