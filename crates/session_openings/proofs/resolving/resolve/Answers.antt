use Rattle.std.proofs.Common.{◌∙◌, [], length, sym, subst}
use Rattle.history.specs.Bound.{AreKnownNames}
use Rattle.history.specs.Lines.{resolving}
use Rattle.history.specs.Refs.{HasKnownRefs}
use Rattle.indexmap.specs.IndexMap.{get_by_text}
use Rattle.session_openings.proofs.ResolveLaws.{rises, told_renewed, renewed_keeps}
use Rattle.sessions.proofs.Laws.{own_of_turn, none_added, passed_of_turn, passed_alone, names_then, renewed_known, told_without, told_refused}
use Rattle.sessions.specs.Standing.{session_state, transaction_in}
use Rattle.sessions.specs.Told.{IsTold}
use Rattle.stack_driver.specs.Conditions.{IsView}
use Rattle.sessions.specs.Answers.{fixed_by}
use Rattle.session_openings.proofs.resolving.resolve.Goals as goal

pub resolved-requires-clause-array : goal.resolved-requires-clause-array
resolved-requires-clause-array g c = let p = c.in-Ok.ensures.array in (p.0, p.1, p.2)

pub resolved-requires-clause-view : goal.resolved-requires-clause-view
resolved-requires-clause-view g c = c.requires.views c.args.name.now c.in-Ok.view c.in-Ok.ensures.view

pub resolved-requires-clause-known : goal.resolved-requires-clause-known
resolved-requires-clause-known g c = c.requires.known c.args.name.now c.in-Ok.view c.in-Ok.ensures.view

pub returns-in-Ok-clause-told : goal.returns-in-Ok-clause-told
returns-in-Ok-clause-told g c = λ line start is.
    let p = c.in-Ok.ensures.array in
    let old = c.args.pass.now in
    let new = c.resolved.new.pass in
    let names = get_by_text c.args.names.now in
    let later = get_by_text c.resolved.new.names in
    let t = transaction_in c.args.txn.now in
    subst (IsTold (fixed_by c.args.around.now.book.now.fixed start) old.number new.seen (session_state names (length old.seen) c.args.txn.now) line (resolving c.args.name.now) later t c.resolved.result)
    (sym (own_of_turn c.args.around.now.book.now old new new.seen [] c.requires.pass c.resolved.ensures.turn))
    (told_renewed (fixed_by c.args.around.now.book.now.fixed start) old.number new.seen names (length old.seen) t line c.args.name.now c.in-Ok.view p.0 (rises c.args.around.now.book.now old new c.resolved.ensures.turn) p.3 later c.resolved.result (c.resolved.ensures.answer p.0 p.1))

pub returns-in-Ok-clause-anywhere : goal.returns-in-Ok-clause-anywhere
returns-in-Ok-clause-anywhere g c = λ fixed line.
    let p = c.in-Ok.ensures.array in
    let old = c.args.pass.now in
    let new = c.resolved.new.pass in
    told_renewed fixed old.number new.seen (get_by_text c.args.names.now) (length old.seen) (transaction_in c.args.txn.now) line c.args.name.now c.in-Ok.view p.0 (rises c.args.around.now.book.now old new c.resolved.ensures.turn) p.3
    (get_by_text c.resolved.new.names) c.resolved.result (c.resolved.ensures.answer p.0 p.1)

pub returns-in-Ok-clause-none : goal.returns-in-Ok-clause-none
returns-in-Ok-clause-none g c = own_of_turn c.args.around.now.book.now c.args.pass.now c.resolved.new.pass c.resolved.new.pass.seen [] c.requires.pass c.resolved.ensures.turn

pub returns-in-Ok-clause-passed : goal.returns-in-Ok-clause-passed
returns-in-Ok-clause-passed g c = passed_of_turn c.args.around.now.book.now c.args.pass.now c.resolved.new.pass [] c.resolved.ensures.turn.turned

pub returns-in-Ok-clause-views : goal.returns-in-Ok-clause-views
returns-in-Ok-clause-views g c =
    let p = c.in-Ok.ensures.array in
    renewed_keeps IsView _ c.args.name.now c.in-Ok.view (get_by_text c.args.names.now) (get_by_text c.resolved.new.names) c.resolved.result (c.resolved.ensures.answer p.0 p.1) (λ made is rules. rules) c.requires.views

pub returns-in-Ok-clause-known : goal.returns-in-Ok-clause-known
returns-in-Ok-clause-known g c =
    let p = c.in-Ok.ensures.array in
    let now = c.resolved.new.pass.seen in
    let turned = c.resolved.ensures.turn.turned in
    let names = get_by_text c.args.names.now in
    let known = names_then c.args.pass.now.seen now names turned.before c.requires.known in
    renewed_keeps (HasKnownRefs now) _ c.args.name.now c.in-Ok.view names (get_by_text c.resolved.new.names) c.resolved.result (c.resolved.ensures.answer p.0 p.1)
    (λ made is rules. renewed_known now c.in-Ok.view made p.0 turned.past.outline (known c.args.name.now c.in-Ok.view c.in-Ok.ensures.view) p.1 is) known

pub returns-in-Err-clause-told : goal.returns-in-Err-clause-told
returns-in-Err-clause-told g c = λ line.
    told_without c.args.around.now.book.now c.args.pass.now (session_state (get_by_text c.args.names.now) (length c.args.pass.now.seen) c.args.txn.now) line (resolving c.args.name.now) c.in-Err.body c.in-Err.ensures.err

pub returns-in-Err-clause-anywhere : goal.returns-in-Err-clause-anywhere
returns-in-Err-clause-anywhere g c = λ fixed line.
    told_refused fixed c.args.pass.now.number c.args.pass.now.seen (session_state (get_by_text c.args.names.now) (length c.args.pass.now.seen) c.args.txn.now) line (resolving c.args.name.now) c.in-Err.body c.in-Err.ensures.err

pub returns-in-Err-clause-none : goal.returns-in-Err-clause-none
returns-in-Err-clause-none g c = none_added c.args.pass.now

pub returns-in-Err-clause-passed : goal.returns-in-Err-clause-passed
returns-in-Err-clause-passed g c = passed_alone c.args.around.now.book.now c.args.pass.now c.requires.pass
