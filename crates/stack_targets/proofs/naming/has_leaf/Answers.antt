use Rattle.std.proofs.Common.{arith}
use Rattle.std.proofs.lemmas.Bool.Decides.{nat_tests}
use Rattle.stack_targets.proofs.Meeting.{agrees}
use Rattle.stack_targets.proofs.naming.has_leaf.Goals as goal

pub returns-then-all-lt4294967295-clause-has : goal.returns-then-all-lt4294967295-clause-has
returns-then-all-lt4294967295-clause-has c = λ yes.
    let same = (agrees c.args.v.now).leaves in let is = c.leaves-all.ensures in let small = c.if-all-lt4294967295.true in grind (arith, nat_tests, yes, same, is, small)

pub returns-then-all-lt4294967295-clause-few : goal.returns-then-all-lt4294967295-clause-few
returns-then-all-lt4294967295-clause-few c = λ yes.
    let same = (agrees c.args.v.now).leaves in let is = c.leaves-all.ensures in let small = c.if-all-lt4294967295.true in omega (arith, same, is, small)

pub returns-then-all-lt4294967295-clause-lacks : goal.returns-then-all-lt4294967295-clause-lacks
returns-then-all-lt4294967295-clause-lacks c = λ no few.
    let same = (agrees c.args.v.now).leaves in let is = c.leaves-all.ensures in let small = c.if-all-lt4294967295.true in grind (arith, nat_tests, no, few, same, is, small)

pub returns-else-all-lt4294967295-clause-lacks : goal.returns-else-all-lt4294967295-clause-lacks
returns-else-all-lt4294967295-clause-lacks c = λ no few. let same = (agrees c.args.v.now).leaves in let is = c.leaves-all.ensures in let large = c.if-all-lt4294967295.false in omega (arith, few, same, is, large)
