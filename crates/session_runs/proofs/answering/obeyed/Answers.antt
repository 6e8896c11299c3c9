use Rattle.std.proofs.Common.{length, sym, subst}
use Rattle.indexmap.specs.IndexMap.{get_by_text}
use Rattle.history.specs.Lines.{viewing, joining, beginning, aborting}
use Rattle.session_openings.specs.Caused.{IsCausedBy}
use Rattle.session_openings.specs.Form.{form_of}
use Rattle.session_openings.specs.Changes.{changes_of}
use Rattle.session_openings.specs.Joins.{join_of}
use Rattle.session_openings.specs.Meanings.{line_of}
use Rattle.session_runs.specs.Session.{IsLineTold}
use Rattle.session_runs.proofs.LineLaws.{line_alone, line_by, goes_by, goes_with, goes_alone}
use Rattle.session_openings.proofs.Laws.{names_then}
use Rattle.session_openings.specs.Standing.{session_state, transaction_in}
use Rattle.session_openings.proofs.Laws.{alone_caused, alone_tells, plain_view, plain_join, plain_begin, plain_abort}
use Rattle.session_runs.proofs.answering.obeyed.Goals as goal

pub returns-in-Open-clause-told : goal.returns-in-Open-clause-told
returns-in-Open-clause-told g c =
    subst (λ command. IsLineTold c.args.around.now.book.now c.args.pass.now c.opened.new.pass (get_by_text c.args.names.now) c.args.txn.now c.args.line (line_of (form_of command)) (get_by_text c.opened.new.names) c.args.txn.now c.opened.result) (sym c.in-Open.is)
    (line_by c.args.around.now.book.now c.args.pass.now (get_by_text c.args.names.now) c.args.txn.now c.args.line _ (get_by_text c.opened.new.names) c.args.txn.now c.opened.result c.opened.new.pass (c.opened.ensures.told c.args.line))

pub returns-in-Open-clause-on : goal.returns-in-Open-clause-on
returns-in-Open-clause-on g c = λ other. goes_by c.args.around.now.book.now c.args.pass.now c.opened.new.pass (get_by_text c.args.names.now) (get_by_text c.opened.new.names) c.args.txn.now c.requires.on c.opened.ensures.passed c.opened.ensures.views c.opened.ensures.known

pub returns-in-View-clause-told : goal.returns-in-View-clause-told
returns-in-View-clause-told g c =
    subst (λ command. IsLineTold c.args.around.now.book.now c.args.pass.now c.args.pass.now (get_by_text c.args.names.now) c.args.txn.now c.args.line (line_of (form_of command)) (get_by_text c.viewed.new.names) c.args.txn.now c.viewed.result) (sym c.in-View.is)
    (line_alone c.args.around.now.book.now c.args.pass.now (get_by_text c.args.names.now) c.args.txn.now c.args.line _ (get_by_text c.viewed.new.names) c.args.txn.now c.viewed.result (c.viewed.ensures.told _ c.args.line c.args.txn.now))

pub returns-in-View-clause-on : goal.returns-in-View-clause-on
returns-in-View-clause-on g c = λ other. goes_alone c.args.around.now.book.now c.args.pass.now (get_by_text c.args.names.now) (get_by_text c.viewed.new.names) c.args.txn.now c.args.txn.now c.requires.on c.viewed.ensures.views (c.viewed.ensures.known c.args.pass.now.seen c.requires.on.known) c.requires.on.txn

pub returns-in-Join-clause-told : goal.returns-in-Join-clause-told
returns-in-Join-clause-told g c =
    subst (λ command. IsLineTold c.args.around.now.book.now c.args.pass.now c.args.pass.now (get_by_text c.args.names.now) c.args.txn.now c.args.line (line_of (form_of command)) (get_by_text c.joined.new.names) c.args.txn.now c.joined.result) (sym c.in-Join.is)
    (line_alone c.args.around.now.book.now c.args.pass.now (get_by_text c.args.names.now) c.args.txn.now c.args.line _ (get_by_text c.joined.new.names) c.args.txn.now c.joined.result (c.joined.ensures.told _ c.args.line c.args.txn.now))

pub returns-in-Join-clause-on : goal.returns-in-Join-clause-on
returns-in-Join-clause-on g c = λ other. goes_alone c.args.around.now.book.now c.args.pass.now (get_by_text c.args.names.now) (get_by_text c.joined.new.names) c.args.txn.now c.args.txn.now c.requires.on c.joined.ensures.views (c.joined.ensures.known c.args.pass.now.seen c.requires.on.known) c.requires.on.txn

pub returns-in-Read-clause-on : goal.returns-in-Read-clause-on
returns-in-Read-clause-on g c = λ other. goes_with c.args.around.now.book.now c.args.pass.now c.shown.new.pass (get_by_text c.args.names.now) c.args.txn.now c.shown.new.txn c.requires.on c.shown.ensures.passed c.shown.ensures.txn

pub returns-in-Write-clause-told : goal.returns-in-Write-clause-told
returns-in-Write-clause-told g c =
    subst (λ command. IsLineTold c.args.around.now.book.now c.args.pass.now c.written.new.pass (get_by_text c.args.names.now) c.args.txn.now c.args.line (line_of (form_of command)) (get_by_text c.args.names.now) c.written.new.txn c.written.result) (sym c.in-Write.is)
    (line_by c.args.around.now.book.now c.args.pass.now (get_by_text c.args.names.now) c.args.txn.now c.args.line _ (get_by_text c.args.names.now) c.written.new.txn c.written.result c.written.new.pass c.written.ensures.told)

pub returns-in-Write-clause-on : goal.returns-in-Write-clause-on
returns-in-Write-clause-on g c = λ other. goes_with c.args.around.now.book.now c.args.pass.now c.written.new.pass (get_by_text c.args.names.now) c.args.txn.now c.written.new.txn c.requires.on c.written.ensures.passed (c.written.ensures.txn other)

pub returns-in-Begin-clause-told : goal.returns-in-Begin-clause-told
returns-in-Begin-clause-told g c =
    subst (λ command. IsLineTold c.args.around.now.book.now c.args.pass.now c.args.pass.now (get_by_text c.args.names.now) c.args.txn.now c.args.line (line_of (form_of command)) (get_by_text c.args.names.now) c.begin.new.txn c.begin.result) (sym c.in-Begin.is)
    (line_alone c.args.around.now.book.now c.args.pass.now (get_by_text c.args.names.now) c.args.txn.now c.args.line _ (get_by_text c.args.names.now) c.begin.new.txn c.begin.result (c.begin.ensures.told (get_by_text c.args.names.now) _))

pub returns-in-Begin-clause-on : goal.returns-in-Begin-clause-on
returns-in-Begin-clause-on g c = λ other. goes_alone c.args.around.now.book.now c.args.pass.now (get_by_text c.args.names.now) (get_by_text c.args.names.now) c.args.txn.now c.begin.new.txn c.requires.on c.requires.on.views c.requires.on.known (c.begin.ensures.txn c.args.around.now.book.now.fixed c.args.pass.now.seen c.requires.on.rested.past.outline c.requires.on.txn)

pub returns-in-Commit-clause-on : goal.returns-in-Commit-clause-on
returns-in-Commit-clause-on g c = λ other. goes_with c.args.around.now.book.now c.args.pass.now c.commit.new.pass (get_by_text c.args.names.now) c.args.txn.now c.commit.new.txn c.requires.on c.commit.ensures.passed c.commit.ensures.txn

pub returns-in-Abort-clause-told : goal.returns-in-Abort-clause-told
returns-in-Abort-clause-told g c =
    subst (λ command. IsLineTold c.args.around.now.book.now c.args.pass.now c.args.pass.now (get_by_text c.args.names.now) c.args.txn.now c.args.line (line_of (form_of command)) (get_by_text c.args.names.now) c.abort.new.txn c.abort.result) (sym c.in-Abort.is)
    (line_alone c.args.around.now.book.now c.args.pass.now (get_by_text c.args.names.now) c.args.txn.now c.args.line _ (get_by_text c.args.names.now) c.abort.new.txn c.abort.result (c.abort.ensures.told (get_by_text c.args.names.now) _))

pub returns-in-Abort-clause-on : goal.returns-in-Abort-clause-on
returns-in-Abort-clause-on g c = λ other. goes_alone c.args.around.now.book.now c.args.pass.now (get_by_text c.args.names.now) (get_by_text c.args.names.now) c.args.txn.now c.abort.new.txn c.requires.on c.requires.on.views c.requires.on.known (c.abort.ensures.txn c.args.around.now.book.now.fixed c.args.pass.now.seen c.requires.on.txn)

pub returns-in-Resize-clause-told : goal.returns-in-Resize-clause-told
returns-in-Resize-clause-told g c =
    subst (λ command. IsLineTold c.args.around.now.book.now c.args.pass.now c.resized.new.pass (get_by_text c.args.names.now) c.args.txn.now c.args.line (line_of (form_of command)) (get_by_text c.args.names.now) c.args.txn.now c.resized.result) (sym c.in-Resize.is)
    (line_by c.args.around.now.book.now c.args.pass.now (get_by_text c.args.names.now) c.args.txn.now c.args.line _ (get_by_text c.args.names.now) c.args.txn.now c.resized.result c.resized.new.pass (c.resized.ensures.told c.args.line))

pub returns-in-Resize-clause-on : goal.returns-in-Resize-clause-on
returns-in-Resize-clause-on g c = λ other. goes_by c.args.around.now.book.now c.args.pass.now c.resized.new.pass (get_by_text c.args.names.now) (get_by_text c.args.names.now) c.args.txn.now c.requires.on c.resized.ensures.passed c.requires.on.views (names_then c.args.pass.now.seen c.resized.new.pass.seen (get_by_text c.args.names.now) c.resized.ensures.passed.before c.requires.on.known)

pub returns-in-Resolve-clause-told : goal.returns-in-Resolve-clause-told
returns-in-Resolve-clause-told g c =
    subst (λ command. IsLineTold c.args.around.now.book.now c.args.pass.now c.resolved.new.pass (get_by_text c.args.names.now) c.args.txn.now c.args.line (line_of (form_of command)) (get_by_text c.resolved.new.names) c.args.txn.now c.resolved.result) (sym c.in-Resolve.is)
    (line_by c.args.around.now.book.now c.args.pass.now (get_by_text c.args.names.now) c.args.txn.now c.args.line _ (get_by_text c.resolved.new.names) c.args.txn.now c.resolved.result c.resolved.new.pass (c.resolved.ensures.told c.args.line))

pub returns-in-Resolve-clause-on : goal.returns-in-Resolve-clause-on
returns-in-Resolve-clause-on g c = λ other. goes_by c.args.around.now.book.now c.args.pass.now c.resolved.new.pass (get_by_text c.args.names.now) (get_by_text c.resolved.new.names) c.args.txn.now c.requires.on c.resolved.ensures.passed c.resolved.ensures.views c.resolved.ensures.known

pub returns-in-View-clause-failures : goal.returns-in-View-clause-failures
returns-in-View-clause-failures g c =
    alone_tells c.args.pass.now (session_state (get_by_text c.args.names.now) (length c.args.pass.now.seen) c.args.txn.now) c.args.line (viewing c.in-View.name c.in-View.of (changes_of c.in-View.transform c.in-View.steps)) (get_by_text c.viewed.new.names) (transaction_in c.args.txn.now) c.viewed.result (plain_view (get_by_text c.args.names.now) (transaction_in c.args.txn.now) c.in-View.name c.in-View.of (changes_of c.in-View.transform c.in-View.steps)) (c.viewed.ensures.told (length c.args.pass.now.seen) c.args.line c.args.txn.now)

pub returns-in-Join-clause-failures : goal.returns-in-Join-clause-failures
returns-in-Join-clause-failures g c =
    alone_tells c.args.pass.now (session_state (get_by_text c.args.names.now) (length c.args.pass.now.seen) c.args.txn.now) c.args.line (joining c.in-Join.name c.in-Join.layers (join_of c.in-Join.form) (changes_of c.in-Join.transform c.in-Join.steps)) (get_by_text c.joined.new.names) (transaction_in c.args.txn.now) c.joined.result (plain_join (get_by_text c.args.names.now) (transaction_in c.args.txn.now) c.in-Join.name c.in-Join.layers (join_of c.in-Join.form) (changes_of c.in-Join.transform c.in-Join.steps)) (c.joined.ensures.told (length c.args.pass.now.seen) c.args.line c.args.txn.now)

pub returns-in-Begin-clause-failures : goal.returns-in-Begin-clause-failures
returns-in-Begin-clause-failures g c =
    alone_tells c.args.pass.now (session_state (get_by_text c.args.names.now) (length c.args.pass.now.seen) c.args.txn.now) c.args.line (beginning (record { atomic = c.in-Begin.atomic; repeatable_read = c.in-Begin.repeatable_read })) (get_by_text c.args.names.now) (transaction_in c.begin.new.txn) c.begin.result (plain_begin (get_by_text c.args.names.now) (transaction_in c.args.txn.now) (record { atomic = c.in-Begin.atomic; repeatable_read = c.in-Begin.repeatable_read })) (c.begin.ensures.told (get_by_text c.args.names.now) (length c.args.pass.now.seen))

pub returns-in-Abort-clause-failures : goal.returns-in-Abort-clause-failures
returns-in-Abort-clause-failures g c =
    alone_tells c.args.pass.now (session_state (get_by_text c.args.names.now) (length c.args.pass.now.seen) c.args.txn.now) c.args.line aborting (get_by_text c.args.names.now) (transaction_in c.abort.new.txn) c.abort.result (plain_abort (get_by_text c.args.names.now) (transaction_in c.args.txn.now)) (c.abort.ensures.told (get_by_text c.args.names.now) (length c.args.pass.now.seen))

pub returns-in-Open-clause-caused : goal.returns-in-Open-clause-caused
returns-in-Open-clause-caused g c =
    subst (λ command. IsCausedBy c.args.around.now.book.now c.args.pass.now c.opened.new.pass (session_state (get_by_text c.args.names.now) (length c.args.pass.now.seen) c.args.txn.now) c.args.line (line_of (form_of command)) (get_by_text c.opened.new.names) (transaction_in c.args.txn.now) c.opened.result) (sym c.in-Open.is)
    (c.opened.ensures.caused c.args.line)

pub returns-in-View-clause-caused : goal.returns-in-View-clause-caused
returns-in-View-clause-caused g c =
    subst (λ command. IsCausedBy c.args.around.now.book.now c.args.pass.now c.args.pass.now (session_state (get_by_text c.args.names.now) (length c.args.pass.now.seen) c.args.txn.now) c.args.line (line_of (form_of command)) (get_by_text c.viewed.new.names) (transaction_in c.args.txn.now) c.viewed.result) (sym c.in-View.is)
    (alone_caused c.args.around.now.book.now c.args.pass.now (session_state (get_by_text c.args.names.now) (length c.args.pass.now.seen) c.args.txn.now) c.args.line _ (get_by_text c.viewed.new.names) (transaction_in c.args.txn.now) c.viewed.result
    (plain_view (get_by_text c.args.names.now) (transaction_in c.args.txn.now) c.in-View.name c.in-View.of (changes_of c.in-View.transform c.in-View.steps)) (c.viewed.ensures.told _ c.args.line c.args.txn.now))

pub returns-in-Join-clause-caused : goal.returns-in-Join-clause-caused
returns-in-Join-clause-caused g c =
    subst (λ command. IsCausedBy c.args.around.now.book.now c.args.pass.now c.args.pass.now (session_state (get_by_text c.args.names.now) (length c.args.pass.now.seen) c.args.txn.now) c.args.line (line_of (form_of command)) (get_by_text c.joined.new.names) (transaction_in c.args.txn.now) c.joined.result) (sym c.in-Join.is)
    (alone_caused c.args.around.now.book.now c.args.pass.now (session_state (get_by_text c.args.names.now) (length c.args.pass.now.seen) c.args.txn.now) c.args.line _ (get_by_text c.joined.new.names) (transaction_in c.args.txn.now) c.joined.result
    (plain_join (get_by_text c.args.names.now) (transaction_in c.args.txn.now) c.in-Join.name c.in-Join.layers (join_of c.in-Join.form) (changes_of c.in-Join.transform c.in-Join.steps)) (c.joined.ensures.told _ c.args.line c.args.txn.now))

pub returns-in-Read-clause-caused : goal.returns-in-Read-clause-caused
returns-in-Read-clause-caused g c =
    subst (λ command. IsCausedBy c.args.around.now.book.now c.args.pass.now c.shown.new.pass (session_state (get_by_text c.args.names.now) (length c.args.pass.now.seen) c.args.txn.now) c.args.line (line_of (form_of command)) (get_by_text c.args.names.now) (transaction_in c.shown.new.txn) c.shown.result) (sym c.in-Read.is)
    (c.shown.ensures.caused)

pub returns-in-Write-clause-caused : goal.returns-in-Write-clause-caused
returns-in-Write-clause-caused g c =
    subst (λ command. IsCausedBy c.args.around.now.book.now c.args.pass.now c.written.new.pass (session_state (get_by_text c.args.names.now) (length c.args.pass.now.seen) c.args.txn.now) c.args.line (line_of (form_of command)) (get_by_text c.args.names.now) (transaction_in c.written.new.txn) c.written.result) (sym c.in-Write.is)
    (c.written.ensures.caused)

pub returns-in-Begin-clause-caused : goal.returns-in-Begin-clause-caused
returns-in-Begin-clause-caused g c =
    subst (λ command. IsCausedBy c.args.around.now.book.now c.args.pass.now c.args.pass.now (session_state (get_by_text c.args.names.now) (length c.args.pass.now.seen) c.args.txn.now) c.args.line (line_of (form_of command)) (get_by_text c.args.names.now) (transaction_in c.begin.new.txn) c.begin.result) (sym c.in-Begin.is)
    (alone_caused c.args.around.now.book.now c.args.pass.now (session_state (get_by_text c.args.names.now) (length c.args.pass.now.seen) c.args.txn.now) c.args.line _ (get_by_text c.args.names.now) (transaction_in c.begin.new.txn) c.begin.result
    (plain_begin (get_by_text c.args.names.now) (transaction_in c.args.txn.now) (record { atomic = c.in-Begin.atomic; repeatable_read = c.in-Begin.repeatable_read })) (c.begin.ensures.told (get_by_text c.args.names.now) _))

pub returns-in-Commit-clause-caused : goal.returns-in-Commit-clause-caused
returns-in-Commit-clause-caused g c =
    subst (λ command. IsCausedBy c.args.around.now.book.now c.args.pass.now c.commit.new.pass (session_state (get_by_text c.args.names.now) (length c.args.pass.now.seen) c.args.txn.now) c.args.line (line_of (form_of command)) (get_by_text c.args.names.now) (transaction_in c.commit.new.txn) c.commit.result) (sym c.in-Commit.is)
    (c.commit.ensures.caused (get_by_text c.args.names.now) c.args.line)

pub returns-in-Abort-clause-caused : goal.returns-in-Abort-clause-caused
returns-in-Abort-clause-caused g c =
    subst (λ command. IsCausedBy c.args.around.now.book.now c.args.pass.now c.args.pass.now (session_state (get_by_text c.args.names.now) (length c.args.pass.now.seen) c.args.txn.now) c.args.line (line_of (form_of command)) (get_by_text c.args.names.now) (transaction_in c.abort.new.txn) c.abort.result) (sym c.in-Abort.is)
    (alone_caused c.args.around.now.book.now c.args.pass.now (session_state (get_by_text c.args.names.now) (length c.args.pass.now.seen) c.args.txn.now) c.args.line _ (get_by_text c.args.names.now) (transaction_in c.abort.new.txn) c.abort.result
    (plain_abort (get_by_text c.args.names.now) (transaction_in c.args.txn.now)) (c.abort.ensures.told (get_by_text c.args.names.now) _))

pub returns-in-Resize-clause-caused : goal.returns-in-Resize-clause-caused
returns-in-Resize-clause-caused g c =
    subst (λ command. IsCausedBy c.args.around.now.book.now c.args.pass.now c.resized.new.pass (session_state (get_by_text c.args.names.now) (length c.args.pass.now.seen) c.args.txn.now) c.args.line (line_of (form_of command)) (get_by_text c.args.names.now) (transaction_in c.args.txn.now) c.resized.result) (sym c.in-Resize.is)
    (c.resized.ensures.caused c.args.line)

pub returns-in-Resolve-clause-caused : goal.returns-in-Resolve-clause-caused
returns-in-Resolve-clause-caused g c =
    subst (λ command. IsCausedBy c.args.around.now.book.now c.args.pass.now c.resolved.new.pass (session_state (get_by_text c.args.names.now) (length c.args.pass.now.seen) c.args.txn.now) c.args.line (line_of (form_of command)) (get_by_text c.resolved.new.names) (transaction_in c.args.txn.now) c.resolved.result) (sym c.in-Resolve.is)
    (c.resolved.ensures.caused c.args.line)
