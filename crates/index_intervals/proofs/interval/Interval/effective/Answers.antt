use Rattle.std.proofs.Common.{subst, sym, ◌↔◌, arith}
use Rattle.std.proofs.lemmas.Grind.{common_steps}
use Rattle.index_intervals.specs.Bounds.{Bounds}
use Rattle.index_intervals.specs.Members.{IsMember, IsEffectiveMember}
use Rattle.index_intervals.proofs.MemberLemmas.{IsMember-effective}
use Rattle.index_intervals.proofs.interval.Interval.effective.Goals as goal

pub returns-clause-value : goal.returns-clause-value
returns-clause-value c = grind (arith, common_steps)

pub returns-clause-members : goal.returns-clause-members
returns-clause-members c = λ x. subst (λ (v : Bounds). IsMember v x ↔ IsEffectiveMember c.args.self.now x) (sym (returns-clause-value c)) (IsMember-effective c.args.self.now x)
