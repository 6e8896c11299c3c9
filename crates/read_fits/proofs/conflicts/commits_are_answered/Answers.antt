use Rattle.read_fits.proofs.CommitAnswers.{commit_answered, conflict_answered}
use Rattle.read_fits.proofs.conflicts.commits_are_answered.Goals as goal

pub returns : goal.returns
returns c = record { answers = commit_answered; conflicts = conflict_answered }
