use Rattle.step_forms.proofs.StepLists.{IsRead}
use Rattle.step_forms.proofs.reading.read_steps.Given as goal

abbrev pub invariant-loop-k : goal.invariant-loop-k
invariant-loop-k l = IsRead l.items l.k l.steps.items
