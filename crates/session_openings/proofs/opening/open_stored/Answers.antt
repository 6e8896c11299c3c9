use Rattle.std.proofs.Common.{[], length, sym, subst}
use Rattle.std.specs.Prelude.{◌++◌, ◌∷◌, unwrap_or}
use Rattle.history.specs.Lines.{stored}
use Rattle.sessions.specs.MeaningOpenings.{node_of}
use Rattle.session_openings.specs.Openings.{OpensOne}
use Rattle.session_openings.proofs.LeafLaws.{opens_one_stored, refuses_stored}
use Rattle.sessions.specs.Asked.{asked_leaf}
use Rattle.session_openings.proofs.opening.open_stored.Goals as goal

pub returns-in-Ok-clause-ok : goal.returns-in-Ok-clause-ok
returns-in-Ok-clause-ok g c =
    let node = unwrap_or (node_of (length c.args.opened.arrays.items) c.args.tree.now) [] in
    let leaf = asked_leaf c.args.asked.now in
    let old = c.args.pass.now in
    let new = c.open_in_turn.new.pass in
    let arrays = c.args.opened.arrays.items in
    let events = c.args.opened.events.items in
    subst (λ rs. OpensOne c.args.around.now.book.now old new (stored node leaf) arrays events rs c.with_array.result.events.items) (sym c.with_array.ensures.arrays)
    (subst (λ es. OpensOne c.args.around.now.book.now old new (stored node leaf) arrays events (arrays ++ c.in-Ok.found.array ∷ []) es) (sym c.with_array.ensures.events)
    (opens_one_stored c.args.around.now.book.now old new node leaf c.in-Ok.found arrays events c.requires.pass c.in-Ok.ensures))

pub returns-in-Err-clause-err : goal.returns-in-Err-clause-err
returns-in-Err-clause-err g c =
    refuses_stored c.args.around.now.book.now c.args.pass.now c.open_in_turn.new.pass (unwrap_or (node_of (length c.args.opened.arrays.items) c.args.tree.now) []) (asked_leaf c.args.asked.now) c.args.opened.arrays.items c.args.opened.events.items c.in-Err.e c.refused.result c.in-Err.ensures
    c.refused.ensures
