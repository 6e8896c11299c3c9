use Rattle.std.proofs.Common.{length, Some, None, subst, sym}
use Rattle.sessions.specs.Commits.{HasSoundTxn}
use Rattle.history.specs.Lines.{writing}
use Rattle.indexmap.specs.IndexMap.{get_by_text}
use Rattle.session_turns.specs.Changes.{changes_of}
use Rattle.session_turns.specs.Numbers.{values_of}
use Rattle.serde_json.specs.View.{view}
use Rattle.session_turns.specs.Standing.{session_state}
use Rattle.session_turns.specs.Txn.{transaction_of}
use Rattle.sessions.proofs.PlainLines.{alone_tells, plain_stage}
use Rattle.sessions.specs.Caused.{IsCausedBy}
use Rattle.sessions.proofs.CauseLaws.{alone_caused}
use Rattle.sessions.proofs.staging.write.Goals as goal

pub returns-in-Some-clause-txn : goal.returns-in-Some-clause-txn
returns-in-Some-clause-txn g c =
    c.stage.ensures.txn c.args.around.now.book.now.fixed c.args.pass.now.seen c.requires.known (subst (HasSoundTxn c.args.around.now.book.now.fixed c.args.pass.now.seen) c.in-Some.is c.requires.txn)

pub returns-in-Some-clause-failures : goal.returns-in-Some-clause-failures
returns-in-Some-clause-failures g c =
    let names = get_by_text c.args.names.now in
    let seen = length c.args.pass.now.seen in
    let changes = changes_of None c.args.steps.now in
    let values = values_of (view c.args.values) in
    alone_tells c.args.pass.now (session_state names seen (Some c.in-Some.t)) c.args.line (writing c.args.name.now changes values) names (Some (transaction_of c.stage.new.t)) c.stage.result
    (plain_stage names (transaction_of c.in-Some.t) c.args.name.now changes values) (c.stage.ensures.told seen c.args.line)

pub returns-in-Some-clause-caused : goal.returns-in-Some-clause-caused
returns-in-Some-clause-caused g c =
    let names = get_by_text c.args.names.now in
    let pass = c.args.pass.now in
    let changes = changes_of None c.args.steps.now in
    let values = values_of (view c.args.values) in
    let asked = writing c.args.name.now changes values in
    subst (λ o. IsCausedBy c.args.around.now.book.now pass pass (session_state names (length pass.seen) o) c.args.line asked names (Some (transaction_of c.stage.new.t)) c.stage.result) (sym c.in-Some.is)
    (alone_caused c.args.around.now.book.now pass (session_state names (length pass.seen) (Some c.in-Some.t)) c.args.line asked names (Some (transaction_of c.stage.new.t)) c.stage.result
    (plain_stage names (transaction_of c.in-Some.t) c.args.name.now changes values) (c.stage.ensures.told (length pass.seen) c.args.line))
