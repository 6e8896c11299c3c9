use Rattle.std.proofs.Common.{arith}
use Rattle.std.proofs.lemmas.Bool.Decides.{nat_tests}
use Rattle.stack_targets.proofs.Meeting.{agrees}
use Rattle.stack_targets.proofs.targeting.has_few_leaves.Goals as goal

pub returns : goal.returns
returns c = λ few. let same = (agrees c.args.v.now).leaves in let is = c.leaves.ensures in grind (arith, nat_tests, few, same, is)
