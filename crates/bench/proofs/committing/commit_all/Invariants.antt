use Rattle.session_turns.specs.Turns.{HasPassed}
use Rattle.bench.proofs.committing.commit_all.Given as goal

abbrev pub invariant-loop-k : goal.invariant-loop-k
invariant-loop-k g l = HasPassed l.book l.initial.pass l.pass
