use Rattle.std.proofs.Common.{length, subst}
use Rattle.std.specs.Prelude.{IfSome}
use Rattle.stack_targets.specs.Axes.{IsAxis}
use Rattle.stack_targets.proofs.AxisLaws.{lack_past}
use Rattle.stack_targets.proofs.axes.end_of.Goals as goal

pub begun-requires : goal.begun-requires
begun-requires c = subst (λ o. IfSome o (IsAxis (length c.args.index.now) c.args.layers.now)) c.in-Some.is c.requires

pub returns-in-None-clause-behind : goal.returns-in-None-clause-behind
returns-in-None-clause-behind c = lack_past c.args.layers.now c.args.index.now
