use Rattle.std.proofs.Common.{subst, sym, ◌↔◌, ◌*ℤ◌, rules}
use Rattle.index_intervals.specs.Bounds.{Bounds, AreBounds}
use Rattle.index_intervals.specs.Members.{IsMember, IsWithin}
use Rattle.index_intervals.specs.Stride.{RoundsInward}
use Rattle.index_intervals.proofs.StrideLemmas.{AreBounds-contracted, IsMember-contracted, RoundsInward-contracted}
use Rattle.index_intervals.proofs.interval.Interval.contracted.Goals as goal

pub returns-clause-value : goal.returns-clause-value
returns-clause-value c = search rules

pub invariant_of-result : goal.invariant_of-result
invariant_of-result c = subst AreBounds (sym (returns-clause-value c)) (AreBounds-contracted c.args.self.now c.args.by (subst AreBounds c.self.view_is c.self.invariant) c.requires)

pub returns-clause-members : goal.returns-clause-members
returns-clause-members c = λ x i. subst (λ (v : Bounds). IsMember v x ↔ IsWithin c.args.self.now (x *ℤ c.args.by)) (sym (returns-clause-value c)) (IsMember-contracted c.args.self.now c.args.by (subst AreBounds c.self.view_is c.self.invariant) c.requires x i)

pub returns-clause-rounded : goal.returns-clause-rounded
returns-clause-rounded c = subst (λ (v : Bounds). RoundsInward c.args.self.now c.args.by v) (sym (returns-clause-value c)) (RoundsInward-contracted c.args.self.now c.args.by c.requires)
