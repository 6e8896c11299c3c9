use Rattle.std.proofs.Common.{None, ap, sym, subst, length}
use Rattle.session_turns.specs.declared.Body.TheVariants.{NoTransaction}
use Rattle.sessions.specs.Commits.{HasSoundTxn, IsCommitTold}
use Rattle.sessions.proofs.CommitRows.{commit_without, committed_sound, committed_told}
use Rattle.session_turns.proofs.Laws.{none_added}
use Rattle.session_turns.specs.Failures.{failures_of}
use Rattle.sessions.proofs.Failures.{committed_tells}
use Rattle.history.specs.Lines.{committing}
use Rattle.session_turns.specs.Standing.{session_state, transaction_in}
use Rattle.sessions.specs.Caused.{IsCausedBy}
use Rattle.sessions.proofs.CauseLaws.{committed_caused, uncommitted_caused}
use Rattle.sessions.proofs.committing.commit.Goals as goal

pub returns-in-Some-clause-told : goal.returns-in-Some-clause-told
returns-in-Some-clause-told g c =
    let old = c.args.pass.now in
    let new = c.committed.new.pass in
    subst (λ o. IsCommitTold c.args.around.now.book.now old new o c.committed.new.txn c.committed.result) c.in-Some.ensures.value
    (committed_told c.args.around.now.book.now old new c.in-Some.t c.committed.new.txn c.committed.result c.requires.pass c.committed.ensures)

pub returns-in-Some-clause-txn : goal.returns-in-Some-clause-txn
returns-in-Some-clause-txn g c =
    committed_sound c.args.around.now.book.now c.args.pass.now c.committed.new.pass c.in-Some.t c.committed.new.txn c.committed.result c.requires.pass
    (subst (HasSoundTxn c.args.around.now.book.now.fixed c.args.pass.now.seen) (sym c.in-Some.ensures.value) c.requires.txn) c.committed.ensures

pub returns-in-None-clause-told : goal.returns-in-None-clause-told
returns-in-None-clause-told g c =
    let old = c.args.pass.now in
    subst (λ o. IsCommitTold c.args.around.now.book.now old old o c.take.new.self NoTransaction) c.in-None.ensures.value
    (subst (λ o. IsCommitTold c.args.around.now.book.now old old None o NoTransaction) (sym c.in-None.ensures.after) (commit_without c.args.around.now.book.now old))

pub returns-in-Some-clause-failures : goal.returns-in-Some-clause-failures
returns-in-Some-clause-failures g c =
    committed_tells c.args.around.now.book.now c.args.pass.now c.committed.new.pass c.in-Some.t c.committed.new.txn c.committed.result c.requires.pass c.committed.ensures

pub returns-in-None-clause-failures : goal.returns-in-None-clause-failures
returns-in-None-clause-failures g c = ap failures_of (none_added c.args.pass.now)

pub returns-in-Some-clause-caused : goal.returns-in-Some-clause-caused
returns-in-Some-clause-caused g c names line =
    let old = c.args.pass.now in
    let new = c.committed.new.pass in
    subst (λ o. IsCausedBy c.args.around.now.book.now old new (session_state names (length old.seen) o) line committing names (transaction_in c.committed.new.txn) c.committed.result) c.in-Some.ensures.value
    (committed_caused c.args.around.now.book.now old new c.in-Some.t c.committed.new.txn c.committed.result c.requires.pass c.committed.ensures names line)

pub returns-in-None-clause-caused : goal.returns-in-None-clause-caused
returns-in-None-clause-caused g c names line =
    let old = c.args.pass.now in
    subst (λ o. IsCausedBy c.args.around.now.book.now old old (session_state names (length old.seen) o) line committing names (transaction_in c.take.new.self) NoTransaction) c.in-None.ensures.value
    (subst (λ o. IsCausedBy c.args.around.now.book.now old old (session_state names (length old.seen) None) line committing names (transaction_in o) NoTransaction) (sym c.in-None.ensures.after)
    (uncommitted_caused c.args.around.now.book.now old names line))
