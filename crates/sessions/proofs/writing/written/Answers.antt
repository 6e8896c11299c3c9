use Rattle.std.proofs.Common.{ℕ, None, Ok, length, sym, subst}
use Rattle.history.specs.Acts.{Asked, writes}
use Rattle.session_turns.specs.Standing.{session_state}
use Rattle.session_turns.specs.Told.{IsAnswerTo}
use Rattle.sessions.specs.Writes.{IsWrittenAs}
use Rattle.session_turns.proofs.Laws.{told_without}
use Rattle.sessions.proofs.CommitRows.{commit_passed}
use Rattle.sessions.proofs.WriteLaws.{written_told}
use Rattle.sessions.proofs.CauseLaws.{refused_caused, written_caused}
use Rattle.sessions.proofs.writing.written.Goals as goal
use Rattle.sessions.proofs.Failures.{fault_tells, written_tells}
use Rattle.session_turns.specs.Txn.{transaction_of}

pub committed-requires-clause-sound : goal.committed-requires-clause-sound
committed-requires-clause-sound g c = c.in-Ok.ensures.sound c.args.around.now.book.now.fixed c.args.pass.now.seen c.requires.pass.past.outline c.requires.refs

pub returns-in-Ok-clause-told : goal.returns-in-Ok-clause-told
returns-in-Ok-clause-told g c names asked act =
    written_told c.args.around.now.book.now c.args.pass.now c.committed.new.pass c.args.line c.args.w.view c.args.w.words c.in-Ok.t c.in-Ok.ensures.alone c.committed.result c.requires.pass
    (subst (λ (n : ℕ). IsWrittenAs c.args.around.now.book.now c.args.pass.now c.committed.new.pass (transaction_of c.in-Ok.t) n c.committed.result) c.len-cells.ensures c.committed.ensures) names asked c.in-Ok.ensures.found act

pub returns-in-Err-clause-told : goal.returns-in-Err-clause-told
returns-in-Err-clause-told g c names asked act =
    told_without c.args.around.now.book.now c.args.pass.now (session_state names (length c.args.pass.now.seen) None) c.args.line asked c.in-Err.body
    (subst (λ (a : Asked). IsAnswerTo a c.in-Err.body) (sym act) (c.in-Err.ensures.err (Ok (writes c.args.w.view c.args.w.words))))

pub returns-in-Ok-clause-passed : goal.returns-in-Ok-clause-passed
returns-in-Ok-clause-passed g c =
    commit_passed c.args.around.now.book.now c.args.pass.now c.committed.new.pass (transaction_of c.in-Ok.t) c.committed.ensures.result c.requires.pass c.committed.ensures.committed

pub returns-in-Ok-clause-failures : goal.returns-in-Ok-clause-failures
returns-in-Ok-clause-failures g c = written_tells c.args.around.now.book.now c.args.pass.now c.committed.new.pass (transaction_of c.in-Ok.t) _ c.committed.result c.requires.pass c.committed.ensures

pub returns-in-Err-clause-failures : goal.returns-in-Err-clause-failures
returns-in-Err-clause-failures g c =
    let next : Asked = Ok (writes c.args.w.view c.args.w.words) in
    fault_tells c.args.pass.now c.args.w.view next c.in-Err.body tt (c.in-Err.ensures.err next)

pub returns-in-Ok-clause-caused : goal.returns-in-Ok-clause-caused
returns-in-Ok-clause-caused g c names asked act =
    written_caused c.args.around.now.book.now c.args.pass.now c.committed.new.pass c.args.line c.args.w.view c.args.w.words c.in-Ok.t c.in-Ok.ensures.alone c.committed.result c.requires.pass
    (subst (λ (n : ℕ). IsWrittenAs c.args.around.now.book.now c.args.pass.now c.committed.new.pass (transaction_of c.in-Ok.t) n c.committed.result) c.len-cells.ensures c.committed.ensures) names asked c.in-Ok.ensures.found act

pub returns-in-Err-clause-caused : goal.returns-in-Err-clause-caused
returns-in-Err-clause-caused g c names asked act =
    refused_caused c.args.around.now.book.now c.args.pass.now (session_state names (length c.args.pass.now.seen) None) c.args.line asked c.in-Err.body
    (subst (λ (a : Asked). IsAnswerTo a c.in-Err.body) (sym act) (c.in-Err.ensures.err (Ok (writes c.args.w.view c.args.w.words))))
