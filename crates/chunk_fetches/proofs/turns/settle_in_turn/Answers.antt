use Rattle.std.proofs.Common.{◌≡◌, ◌∙◌, [], sym, refl, append-nil}
use Rattle.std.proofs.lemmas.List.Elements.{All-nil}
use Rattle.history.specs.declared.event.Event.{Event}
use Rattle.turn_book.specs.History.{Continues}
use Rattle.chunk_fetches.specs.Turns.{owner_of}
use Rattle.chunk_fetches.proofs.TurnLaws.{past_of, has_turned}
use Rattle.chunk_fetches.proofs.turns.settle_in_turn.Goals as goal

pub give-requires-clause-agrees : goal.give-requires-clause-agrees
give-requires-clause-agrees c d =
    d.settle_all-settled.ensures.kept d.args.book.now.fixed d.args.pass.now.seen d.take-held.ensures.before.0 (rw d.state.ensures.value (sym d.take-held.ensures.before.1)) d.requires.fresh (rw d.state.ensures.value d.take-held.ensures.agrees)

pub give-requires-clause-added : goal.give-requires-clause-added
give-requires-clause-added c d =
    let h = d.state.result.now.log.events in
    let later = d.settle_all-settled.new.state.log.events in
    let number = d.args.pass.now.number in
    let continues : Continues owner_of number h later = ([], d.settle_all-settled.ensures.events ∙ sym (append-nil h), All-nil (λ (e : Event). owner_of e ≡ number)) in
    rw d.take-held.ensures.pass (rw (sym d.state.ensures.value) continues)

pub returns : goal.returns
returns c d =
    let h = d.state.result.now.log.events in
    let old = d.args.pass.now in
    let later = d.settle_all-settled.new.state.log.events in
    let fixed = d.args.book.now.fixed in
    let agrees = d.settle_all-settled.ensures.kept fixed old.seen d.take-held.ensures.before.0 (rw d.state.ensures.value (sym d.take-held.ensures.before.1)) d.requires.fresh (rw d.state.ensures.value d.take-held.ensures.agrees) in
    has_turned d.args.book.now old d.take-held.new.pass d.give.new.pass h later [] d.requires.pass (rw d.state.ensures.value d.take-held.ensures.pass) d.give.ensures.pass (rw d.state.ensures.value d.take-held.ensures.before)
    (rw d.state.ensures.value d.take-held.ensures.mine)
    (d.settle_all-settled.ensures.events ∙ sym (append-nil h)) refl (past_of fixed _ d.settle_all-settled.new.state.log agrees)
