use Rattle.session_turns.proofs.Laws.{passed_alone, passed_then, view_then}
use Rattle.bench.proofs.committing.commit_all.Goals as goal

pub commit_one-requires-clause-refs : goal.commit_one-requires-clause-refs
commit_one-requires-clause-refs g c = view_then c.args.pass.now.seen c.loop-k.pass.seen c.args.view.now c.loop-k.invariant.before c.requires.refs

pub loop-k-init : goal.loop-k-init
loop-k-init g c = passed_alone c.args.book.now c.args.pass.now c.requires.pass

pub loop-k-preserved : goal.loop-k-preserved
loop-k-preserved g c = passed_then c.args.book.now c.args.pass.now c.loop-k.pass c.commit_one.new.pass c.loop-k.invariant c.in_ok-last.ensures
