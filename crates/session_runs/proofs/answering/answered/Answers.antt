use Rattle.std.proofs.Common.{ap, length, sym, subst}
use Rattle.indexmap.specs.IndexMap.{get_by_text}
use Rattle.session_openings.specs.Meanings.{line_in, line_of_bytes}
use Rattle.session_openings.proofs.Laws.{refused_caused}
use Rattle.session_openings.specs.Caused.{IsCausedBy}
use Rattle.session_openings.specs.Standing.{session_state, transaction_in}
use Rattle.session_runs.proofs.LineLaws.{form_answered, line_refused}
use Rattle.session_runs.proofs.Failing.{form_tells}
use Rattle.session_runs.proofs.answering.answered.Goals as goal

pub returns-in-Err-clause-told : goal.returns-in-Err-clause-told
returns-in-Err-clause-told g c =
    line_refused c.args.around.now.book.now c.args.pass.now (get_by_text c.args.names.now) c.args.txn.now c.args.line (line_of_bytes c.args.mounts.now c.args.bytes.now) c.in-Err.error c.refused.result (λ other. ap line_in (c.in-Err.ensures.err other)) c.refused.ensures

pub returns-in-Err-clause-failures : goal.returns-in-Err-clause-failures
returns-in-Err-clause-failures g c = form_tells c.args.pass.now c.in-Err.error c.refused.result c.refused.ensures

pub returns-in-Err-clause-caused : goal.returns-in-Err-clause-caused
returns-in-Err-clause-caused g c =
    refused_caused c.args.around.now.book.now c.args.pass.now (session_state (get_by_text c.args.names.now) (length c.args.pass.now.seen) c.args.txn.now) c.args.line (line_of_bytes c.args.mounts.now c.args.bytes.now) c.refused.result
    (form_answered (get_by_text c.args.names.now) c.args.txn.now (line_of_bytes c.args.mounts.now c.args.bytes.now) c.in-Err.error c.refused.result (λ other. ap line_in (c.in-Err.ensures.err other)) c.refused.ensures)

pub returns-in-Ok-clause-caused : goal.returns-in-Ok-clause-caused
returns-in-Ok-clause-caused g c =
    subst
    (λ r. IsCausedBy c.args.around.now.book.now c.args.pass.now c.obeyed.new.pass (session_state (get_by_text c.args.names.now) (length c.args.pass.now.seen) c.args.txn.now) c.args.line (line_in r) (get_by_text c.obeyed.new.names) (transaction_in c.obeyed.new.txn) c.obeyed.result)
    (sym c.in-Ok.ensures.ok) c.obeyed.ensures.caused
