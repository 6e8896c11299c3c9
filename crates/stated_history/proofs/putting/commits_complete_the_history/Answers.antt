use Rattle.stated_history.proofs.StatedLaws.{stated_with_commits, none_is_claimed}
use Rattle.stated_history.proofs.putting.commits_complete_the_history.Goals as goal

pub returns-clause-stated : goal.returns-clause-stated
returns-clause-stated c = stated_with_commits

pub returns-clause-none : goal.returns-clause-none
returns-clause-none c = none_is_claimed
