use Rattle.std.proofs.Common.{None, Some, refl}
use Rattle.history.specs.Lines.{writing}
use Rattle.indexmap.specs.IndexMap.{get_by_text}
use Rattle.session_turns.specs.Changes.{changes_of}
use Rattle.session_turns.specs.Numbers.{values_of}
use Rattle.serde_json.specs.View.{view}
use Rattle.sessions.proofs.StageLaws.{unstaged_told}
use Rattle.sessions.proofs.staging.stage.Goals as goal
use Rattle.session_turns.specs.Txn.{transaction_of}

pub returns-in-Ok-clause-txn : goal.returns-in-Ok-clause-txn
returns-in-Ok-clause-txn c opening events known was printed = c.staged.ensures.txn opening events (c.in-Ok.ensures.refs events known) was printed

pub returns-in-Err-clause-told : goal.returns-in-Err-clause-told
returns-in-Err-clause-told c seen line =
    unstaged_told c.args.t.now c.args.t.now (get_by_text c.args.names.now) seen line (writing c.args.name.now (changes_of None c.args.steps.now) (values_of (view c.args.values))) c.in-Err.body refl
    (c.in-Err.ensures.err (Some (transaction_of c.args.t.now)))
