use Rattle.std.proofs.Common.{length, sym, subst}
use Rattle.history.specs.Lines.{resizing}
use Rattle.indexmap.specs.IndexMap.{get_by_text}
use Rattle.session_turns.specs.Turns.{IsResizeTurn}
use Rattle.session_turns.specs.Standing.{session_state, transaction_in}
use Rattle.session_turns.specs.Told.{IsToldBy}
use Rattle.sessions.proofs.RowLaws.{told_resized}
use Rattle.session_turns.proofs.Laws.{told_without}
use Rattle.history.specs.Acts.{act_of}
use Rattle.serial_runs.proofs.Laws.{act_of-refused}
use Rattle.session_turns.specs.Failures.{TellsFailures}
use Rattle.session_turns.specs.Turns.{added_by}
use Rattle.sessions.proofs.Failures.{refused_tells, resize_tells}
use Rattle.sessions.specs.Caused.{IsCausedBy}
use Rattle.sessions.proofs.CauseLaws.{refused_caused, resized_caused}
use Rattle.sessions.proofs.resizing.resize.Goals as goal

pub resize_in_turn-requires-clause-asked : goal.resize_in_turn-requires-clause-asked
resize_in_turn-requires-clause-asked g c = λ events grown legal. c.in-Ok.ensures.asked c.args.pass.now.seen events c.requires.known grown legal

pub returns-in-Ok-clause-told : goal.returns-in-Ok-clause-told
returns-in-Ok-clause-told g c = λ line.
    let names = get_by_text c.args.names.now in
    let old = c.args.pass.now in
    let new = c.resize_in_turn.new.pass in
    let p = c.in-Ok.ensures.array in
    subst (IsToldBy c.args.around.now.book.now old new (session_state names (length old.seen) c.args.txn.now) line (resizing c.args.name.now c.args.shape.now) names (transaction_in c.args.txn.now)) (sym c.resized_body.ensures)
    (told_resized c.args.around.now.book.now old new names c.args.txn.now line c.args.name.now c.args.shape.now p.0 c.resize_in_turn.result c.requires.pass p.2
    (subst (λ n. IsResizeTurn c.args.around.now.book.now old new n c.args.shape.now c.resize_in_turn.result) (sym p.1) c.resize_in_turn.ensures))

pub returns-in-Err-clause-told : goal.returns-in-Err-clause-told
returns-in-Err-clause-told g c = λ line.
    told_without c.args.around.now.book.now c.args.pass.now (session_state (get_by_text c.args.names.now) (length c.args.pass.now.seen) c.args.txn.now) line (resizing c.args.name.now c.args.shape.now) c.in-Err.body c.in-Err.ensures.err

pub returns-in-Ok-clause-failures : goal.returns-in-Ok-clause-failures
returns-in-Ok-clause-failures g c =
    let old = c.args.pass.now in
    let new = c.resize_in_turn.new.pass in
    subst (TellsFailures (added_by old new)) (sym c.resized_body.ensures) (resize_tells c.args.around.now.book.now old new c.in-Ok.array c.args.shape.now c.requires.pass c.resize_in_turn.result c.resize_in_turn.ensures)

pub returns-in-Err-clause-failures : goal.returns-in-Err-clause-failures
returns-in-Err-clause-failures g c =
    let names = get_by_text c.args.names.now in
    let t = transaction_in c.args.txn.now in
    let line = resizing c.args.name.now c.args.shape.now in
    refused_tells c.args.pass.now (act_of names t line) c.in-Err.body (act_of-refused names t line) c.in-Err.ensures.err

pub returns-in-Ok-clause-caused : goal.returns-in-Ok-clause-caused
returns-in-Ok-clause-caused g c = λ line.
    let names = get_by_text c.args.names.now in
    let old = c.args.pass.now in
    let new = c.resize_in_turn.new.pass in
    let p = c.in-Ok.ensures.array in
    subst (IsCausedBy c.args.around.now.book.now old new (session_state names (length old.seen) c.args.txn.now) line (resizing c.args.name.now c.args.shape.now) names (transaction_in c.args.txn.now)) (sym c.resized_body.ensures)
    (resized_caused c.args.around.now.book.now old new names c.args.txn.now line c.args.name.now c.args.shape.now p.0 c.requires.pass p.2 c.resize_in_turn.result
    (subst (λ n. IsResizeTurn c.args.around.now.book.now old new n c.args.shape.now c.resize_in_turn.result) (sym p.1) c.resize_in_turn.ensures))

pub returns-in-Err-clause-caused : goal.returns-in-Err-clause-caused
returns-in-Err-clause-caused g c = λ line.
    refused_caused c.args.around.now.book.now c.args.pass.now (session_state (get_by_text c.args.names.now) (length c.args.pass.now.seen) c.args.txn.now) line (resizing c.args.name.now c.args.shape.now) c.in-Err.body c.in-Err.ensures.err
