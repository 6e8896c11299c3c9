use Rattle.std.proofs.Common.{◌∙◌}
use Rattle.stack_driver.proofs.StackRules.{first_unlike-from}
use Rattle.stack_driver.proofs.stacking.first_unlike.Goals as goal

pub returns-clause-value : goal.returns-clause-value
returns-clause-value c = c.unlike.ensures.value ∙ first_unlike-from c.args.layers.now c.index-layers-0.result c.requires.some c.index-layers-0.is
