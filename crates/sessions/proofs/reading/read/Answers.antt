use Rattle.std.proofs.Common.{None, length}
use Rattle.history.specs.Lines.{reading}
use Rattle.indexmap.specs.IndexMap.{get_by_text}
use Rattle.session_turns.specs.Changes.{changes_of}
use Rattle.session_turns.specs.Numbers.{downsampling_of}
use Rattle.session_turns.specs.Standing.{transaction_in, session_state}
use Rattle.sessions.proofs.ReadRows.{refused_before}
use Rattle.history.specs.Acts.{act_of}
use Rattle.serial_runs.proofs.Laws.{act_of-refused}
use Rattle.sessions.proofs.Failures.{refused_tells}
use Rattle.sessions.proofs.CauseLaws.{refused_caused}
use Rattle.sessions.proofs.reading.read.Goals as goal

pub returns-in-Ok-clause-told : goal.returns-in-Ok-clause-told
returns-in-Ok-clause-told g c =
    c.answered.ensures.told (get_by_text c.args.names.now) (reading c.args.name.now (changes_of None c.args.steps.now) (downsampling_of c.args.down.now)) (c.in-Ok.ensures.act (transaction_in c.args.txn.now))

pub returns-in-Err-clause-told : goal.returns-in-Err-clause-told
returns-in-Err-clause-told g c =
    refused_before c.args.around.now.book.now c.args.pass.now (get_by_text c.args.names.now) c.args.txn.now c.args.line (reading c.args.name.now (changes_of None c.args.steps.now) (downsampling_of c.args.down.now)) c.in-Err.body
    (c.in-Err.ensures.err (transaction_in c.args.txn.now))

pub returns-in-Err-clause-failures : goal.returns-in-Err-clause-failures
returns-in-Err-clause-failures g c =
    let names = get_by_text c.args.names.now in
    let t = transaction_in c.args.txn.now in
    let line = reading c.args.name.now (changes_of None c.args.steps.now) (downsampling_of c.args.down.now) in
    refused_tells c.args.pass.now (act_of names t line) c.in-Err.body (act_of-refused names t line) (c.in-Err.ensures.err t)

pub returns-in-Ok-clause-caused : goal.returns-in-Ok-clause-caused
returns-in-Ok-clause-caused g c =
    c.answered.ensures.caused (get_by_text c.args.names.now) (reading c.args.name.now (changes_of None c.args.steps.now) (downsampling_of c.args.down.now)) (c.in-Ok.ensures.act (transaction_in c.args.txn.now))

pub returns-in-Err-clause-caused : goal.returns-in-Err-clause-caused
returns-in-Err-clause-caused g c =
    refused_caused c.args.around.now.book.now c.args.pass.now (session_state (get_by_text c.args.names.now) (length c.args.pass.now.seen) c.args.txn.now) c.args.line
    (reading c.args.name.now (changes_of None c.args.steps.now) (downsampling_of c.args.down.now)) c.in-Err.body (c.in-Err.ensures.err (transaction_in c.args.txn.now))
