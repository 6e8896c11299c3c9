use Rattle.std.proofs.Common.{◌<◌, drop}
use Rattle.std.specs.List.{All}
use Rattle.json_forms.specs.Lists.{all_of}
use Rattle.dim_changes.specs.Dims.{position_of}
use Rattle.step_forms.proofs.Laws.{Gathered}
use Rattle.dim_expressions.proofs.transpose.positions_of.Given as goal

abbrev pub invariant-loop-k : goal.invariant-loop-k
invariant-loop-k l = Gathered l.positions.items (all_of (position_of l.rank) (drop l.k l.targets)) (all_of (position_of l.rank) l.targets)
    × All (λ dim. dim < l.rank) l.positions.items
