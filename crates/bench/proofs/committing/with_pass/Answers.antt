use Rattle.session_turns.proofs.Laws.{view_then}
use Rattle.bench.proofs.committing.with_pass.Goals as goal

pub commit_all-requires-2-clause-refs : goal.commit_all-requires-2-clause-refs
commit_all-requires-2-clause-refs g c = view_then c.opened.new.pass.seen c.commit_all.new.pass.seen c.in_ok-view.view c.in_ok-last.ensures.before c.in_ok-view.ensures.refs
