use Rattle.stated_history.specs.Commits.{event_with, commit_at}
use Rattle.stated_history.proofs.PutLaws.{ArePutUpTo}
use Rattle.stated_history.proofs.putting.put_commits.Given as goal

abbrev pub invariant-loop-k : goal.invariant-loop-k
invariant-loop-k l = ArePutUpTo (λ j. event_with (commit_at l.commits l.spots j)) l.fn.events l.events l.k
