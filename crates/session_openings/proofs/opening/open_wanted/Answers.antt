use Rattle.std.proofs.Common.{[], length, sym, subst}
use Rattle.std.specs.Prelude.{IfOk, IfErr, unwrap_or}
use Rattle.sessions.specs.MeaningOpenings.{node_of}
use Rattle.session_openings.specs.Openings.{OpensOne, RefusesOne}
use Rattle.session_openings.specs.Wanted.{wanted_leaf, MayBeAsked}
use Rattle.session_openings.proofs.opening.open_wanted.Goals as goal

pub open_stored-requires-clause-mount : goal.open_stored-requires-clause-mount
open_stored-requires-clause-mount g c = (subst (λ w. MayBeAsked c.args.around.now.book.now.fixed.store.names (wanted_leaf (unwrap_or (node_of (length c.args.opened.arrays.items) c.args.tree.now) []) w)) c.in-Stored.is c.requires.leaf).0

pub open_stored-requires-clause-taken : goal.open_stored-requires-clause-taken
open_stored-requires-clause-taken g c = (subst (λ w. MayBeAsked c.args.around.now.book.now.fixed.store.names (wanted_leaf (unwrap_or (node_of (length c.args.opened.arrays.items) c.args.tree.now) []) w)) c.in-Stored.is c.requires.leaf).1

pub open_given-requires-clause-small : goal.open_given-requires-clause-small
open_given-requires-clause-small g c = subst (λ w. MayBeAsked c.args.around.now.book.now.fixed.store.names (wanted_leaf (unwrap_or (node_of (length c.args.opened.arrays.items) c.args.tree.now) []) w)) c.in-Given.is c.requires.leaf

pub returns-in-Stored-clause-ok : goal.returns-in-Stored-clause-ok
returns-in-Stored-clause-ok g c =
    subst (λ w. IfOk c.open_stored.result (λ o. OpensOne c.args.around.now.book.now c.args.pass.now c.open_stored.new.pass (wanted_leaf (unwrap_or (node_of (length c.args.opened.arrays.items) c.args.tree.now) []) w) c.args.opened.arrays.items c.args.opened.events.items o.arrays.items o.events.items)) (sym c.in-Stored.is)
    c.open_stored.ensures.ok

pub returns-in-Stored-clause-err : goal.returns-in-Stored-clause-err
returns-in-Stored-clause-err g c =
    subst (λ w. IfErr c.open_stored.result (λ b. RefusesOne c.args.around.now.book.now c.args.pass.now c.open_stored.new.pass (wanted_leaf (unwrap_or (node_of (length c.args.opened.arrays.items) c.args.tree.now) []) w) c.args.opened.arrays.items c.args.opened.events.items b)) (sym c.in-Stored.is)
    c.open_stored.ensures.err

pub returns-in-Given-clause-ok : goal.returns-in-Given-clause-ok
returns-in-Given-clause-ok g c =
    subst (λ w. IfOk c.open_given.result (λ o. OpensOne c.args.around.now.book.now c.args.pass.now c.open_given.new.pass (wanted_leaf (unwrap_or (node_of (length c.args.opened.arrays.items) c.args.tree.now) []) w) c.args.opened.arrays.items c.args.opened.events.items o.arrays.items o.events.items)) (sym c.in-Given.is)
    c.open_given.ensures.ok

pub returns-in-Given-clause-err : goal.returns-in-Given-clause-err
returns-in-Given-clause-err g c =
    subst (λ w. IfErr c.open_given.result (λ b. RefusesOne c.args.around.now.book.now c.args.pass.now c.open_given.new.pass (wanted_leaf (unwrap_or (node_of (length c.args.opened.arrays.items) c.args.tree.now) []) w) c.args.opened.arrays.items c.args.opened.events.items b)) (sym c.in-Given.is)
    c.open_given.ensures.err
