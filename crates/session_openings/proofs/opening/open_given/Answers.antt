use Rattle.std.proofs.Common.{[], ◌∷◌, ◌++◌, sym, subst}
use Rattle.history.specs.Lines.{given}
use Rattle.session_openings.specs.Openings.{OpensOne}
use Rattle.session_openings.proofs.LeafLaws.{opens_one_given, refuses_behind}
use Rattle.session_openings.proofs.opening.open_given.Goals as goal

pub returns-in-Ok-clause-ok : goal.returns-in-Ok-clause-ok
returns-in-Ok-clause-ok g c =
    let old = c.args.pass.now in
    let new = c.open_given_in_turn.new.pass in
    let arrays = c.args.opened.arrays.items in
    let events = c.args.opened.events.items in
    subst (λ rs. OpensOne c.args.around.now.book.now old new (given c.args.start) arrays events rs c.with_array.result.events.items) (sym c.with_array.ensures.arrays)
    (subst (λ es. OpensOne c.args.around.now.book.now old new (given c.args.start) arrays events (arrays ++ c.in-Ok.found.array ∷ []) es) (sym c.with_array.ensures.events)
    (opens_one_given c.args.around.now.book.now old new c.args.start c.in-Ok.found arrays events c.requires.pass c.in-Ok.ensures.opened))

pub returns-in-Err-clause-err : goal.returns-in-Err-clause-err
returns-in-Err-clause-err g c = refuses_behind c.args.around.now.book.now c.args.pass.now c.open_given_in_turn.new.pass _ c.args.opened.arrays.items c.args.opened.events.items c.in-Err.ensures.err
