use Rattle.std.proofs.Common.{◌≡◌, ◌∙◌, [], sym, ap, subst, refl, append-nil}
use Rattle.std.specs.List.{AllByRecursion}
use Rattle.std.proofs.lemmas.List.Elements.{All-nil}
use Rattle.std.proofs.lemmas.Result.{IfOk-weaker}
use Rattle.history.specs.declared.event.Event.{Event}
use Rattle.history.specs.History.{History}
use Rattle.turn_book.specs.History.{Continues}
use Rattle.turn_book.specs.Passes.{PassView}
use Rattle.chunk_fetches.specs.Agreement.{Opening}
use Rattle.chunk_fetches.specs.Turns.{owner_of}
use Rattle.commits.specs.Asking.{IsAsked}
use Rattle.chunk_fetches.proofs.Laws.{past_of, has_turned}
use Rattle.transactions.proofs.commit_turns.ask_in_turn.Goals as goal

pub returns-clause-turned : goal.returns-clause-turned
returns-clause-turned c d =
    let h = d.state.result.now.log.events in
    let later = d.ask_all-asked.new.state.log.events in
    let fixed = d.args.book.now.fixed in
    let agrees = d.ask_all-asked.ensures.kept fixed (rw d.state.ensures.value d.take-held.ensures.agrees) in
    has_turned d.args.book.now d.args.pass.now d.take-held.new.pass d.give.new.pass h later [] d.requires.pass (rw d.state.ensures.value d.take-held.ensures.pass) d.give.ensures.pass (rw d.state.ensures.value d.take-held.ensures.before)
    (rw d.state.ensures.value d.take-held.ensures.mine)
    (d.ask_all-asked.ensures.events ∙ sym (append-nil h)) refl (past_of fixed _ d.ask_all-asked.new.state.log agrees)

pub give-requires-clause-agrees : goal.give-requires-clause-agrees
give-requires-clause-agrees c d = d.ask_all-asked.ensures.kept d.args.book.now.fixed (rw d.state.ensures.value d.take-held.ensures.agrees)

pub give-requires-clause-added : goal.give-requires-clause-added
give-requires-clause-added c d =
    let h = d.state.result.now.log.events in
    let later = d.ask_all-asked.new.state.log.events in
    let number = d.args.pass.now.number in
    let continues : Continues owner_of number h later = ([], d.ask_all-asked.ensures.events ∙ sym (append-nil h), All-nil (λ (e : Event). owner_of e ≡ number)) in
    rw d.take-held.ensures.pass (rw (sym d.state.ensures.value) continues)

pub returns-clause-asked : goal.returns-clause-asked
returns-clause-asked c d =
    let h = d.state.result.now.log.events in
    let fixed = d.args.book.now.fixed in
    let seen : h ≡ d.give.new.pass.seen = sym d.ask_all-asked.ensures.events ∙ sym (ap (λ (p : PassView Event Opening). p.seen) d.give.ensures.pass) in
    IfOk-weaker d.ask_all-asked.result _ _
    (λ asked is. subst (λ (events : History). AllByRecursion (IsAsked fixed events) asked.items) seen (is fixed (rw d.state.ensures.value d.take-held.ensures.agrees)))
    d.ask_all-asked.ensures.asked
