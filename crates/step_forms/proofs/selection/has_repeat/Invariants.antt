use Rattle.std.proofs.Common.{◌≡◌, ◌≤◌, false, drop, length}
use Rattle.step_forms.specs.Selection.{has_repeat}
use Rattle.step_forms.proofs.Repeats.{AreMarks}
use Rattle.step_forms.proofs.selection.has_repeat.Given as goal

abbrev pub invariant-loop-k : goal.invariant-loop-k
invariant-loop-k l = record {
  within : l.k ≤ length l.dims;
  marked : AreMarks l.seen l.rank (drop l.k l.dims);
  same : length l.seen ≡ l.rank;
  distinct : has_repeat (drop l.k l.dims) ≡ false;
}

abbrev pub decreases-loop-k : goal.decreases-loop-k
decreases-loop-k l = l.k
