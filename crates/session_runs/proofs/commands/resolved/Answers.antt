use Rattle.std.proofs.Common.{◌∙◌, [], length, sym, ap, subst}
use Rattle.std.specs.FinMap as finmap
use Rattle.history.specs.Commit.{Fixed}
use Rattle.history.specs.Lines.{resolving}
use Rattle.indexmap.specs.IndexMap.{get_by_text}
use Rattle.session_openings.specs.Caused.{IsCausedBy}
use Rattle.session_openings.specs.Failures.{failures_of}
use Rattle.session_openings.specs.Standing.{session_state, transaction_in}
use Rattle.session_openings.proofs.Laws.{plain_resolve, told_tells_none}
use Rattle.session_runs.proofs.CauseLaws.{anywhere_caused}
use Rattle.session_runs.proofs.commands.resolved.Goals as goal

pub returns-clause-failures : goal.returns-clause-failures
returns-clause-failures g c =
    let old = c.args.pass.now in
    let names = get_by_text c.args.names.now in
    let fixed : Fixed = record { start = finmap.empty; prefixes = [] } in
    ap failures_of c.resolve.ensures.none
    ∙ sym (told_tells_none fixed old.number c.resolve.new.pass.seen (session_state names (length old.seen) c.args.txn.now) 0 (resolving c.items.result.now) (get_by_text c.resolve.new.names) (transaction_in c.args.txn.now) c.resolve.result []
    (plain_resolve names (transaction_in c.args.txn.now) c.items.result.now) (c.resolve.ensures.anywhere fixed 0))

pub returns-clause-caused : goal.returns-clause-caused
returns-clause-caused g c = λ line.
    subst (λ n. IsCausedBy c.args.around.now.book.now c.args.pass.now c.resolve.new.pass (session_state (get_by_text c.args.names.now) (length c.args.pass.now.seen) c.args.txn.now) line (resolving n) (get_by_text c.resolve.new.names) (transaction_in c.args.txn.now) c.resolve.result) c.items.ensures
    (anywhere_caused c.args.around.now.book.now c.args.pass.now c.resolve.new.pass (session_state (get_by_text c.args.names.now) (length c.args.pass.now.seen) c.args.txn.now) line (resolving c.items.result.now) (get_by_text c.resolve.new.names) (transaction_in c.args.txn.now) c.resolve.result c.resolve.ensures.none
    (plain_resolve (get_by_text c.args.names.now) (transaction_in c.args.txn.now) c.items.result.now) (λ fixed. c.resolve.ensures.anywhere fixed line))
