use Rattle.state_cases.specs.Ready.{IsReady}
use Rattle.state_cases.proofs.runs.answers.Given as goal

abbrev pub invariant-loop-call : goal.invariant-loop-call
invariant-loop-call g l = IsReady (g.K.KvStore.seen l.state.store) l.state.log
