use Rattle.std.proofs.Common.{◌≡◌, ◌∙◌, [], sym, append-nil}
use Rattle.std.proofs.lemmas.List.Elements.{All-nil}
use Rattle.history.specs.declared.event.Event.{Event}
use Rattle.turn_book.specs.History.{Continues}
use Rattle.transactions.specs.Turns.{owner_of}
use Rattle.transactions.proofs.Laws.{past_of}
use Rattle.session_turns.proofs.TurnLaws.{turn_alone}
use Rattle.session_turns.proofs.turns.bounds_in_turn.Goals as goal

pub give-requires-clause-added : goal.give-requires-clause-added
give-requires-clause-added g c =
    let h = c.take-held.result.log.events in
    let number = c.args.pass.now.number in
    let value = c.state.ensures.value in
    let same : c.state.result.now.log.events ≡ h = cc in
    let continues : Continues owner_of number h c.state.result.now.log.events = ([], same ∙ sym (append-nil h), All-nil (λ (e : Event). owner_of e ≡ number)) in
    rw c.take-held.ensures.pass continues

pub returns-clause-turn : goal.returns-clause-turn
returns-clause-turn g c =
    turn_alone c.args.book.now c.args.pass.now c.take-held.new.pass c.give.new.pass c.state.result.now.log.events c.requires.pass (rw c.state.ensures.value c.take-held.ensures.pass) c.give.ensures.pass (rw c.state.ensures.value c.take-held.ensures.before)
    (rw c.state.ensures.value c.take-held.ensures.mine) (rw c.state.ensures.value (past_of c.args.book.now.fixed _ c.take-held.result.log c.take-held.ensures.agrees))
