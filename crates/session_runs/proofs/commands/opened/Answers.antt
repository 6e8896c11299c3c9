use Rattle.std.proofs.Common.{length, subst}
use Rattle.history.specs.Lines.{opening}
use Rattle.indexmap.specs.IndexMap.{get_by_text}
use Rattle.session_openings.specs.Caused.{IsCausedBy}
use Rattle.session_openings.specs.MeaningOpenings.{leaves_of, build_of}
use Rattle.session_openings.specs.Standing.{session_state, transaction_in}
use Rattle.session_openings.specs.Turns.{added_by}
use Rattle.session_runs.proofs.Failing.{opened_tells}
use Rattle.session_runs.proofs.commands.opened.Goals as goal

pub returns-clause-failures : goal.returns-clause-failures
returns-clause-failures g c = opened_tells (added_by c.args.pass.now c.open.new.pass) c.open.result c.open.ensures.events

pub returns-clause-caused : goal.returns-clause-caused
returns-clause-caused g c = λ line.
    subst (λ n. IsCausedBy c.args.around.now.book.now c.args.pass.now c.open.new.pass (session_state (get_by_text c.args.names.now) (length c.args.pass.now.seen) c.args.txn.now) line (opening n (leaves_of c.args.plan) (build_of c.args.plan)) (get_by_text c.open.new.names) (transaction_in c.args.txn.now) c.open.result) c.items.ensures
    (c.open.ensures.caused line)
