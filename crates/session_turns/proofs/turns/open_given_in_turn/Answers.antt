use Rattle.std.proofs.Common.{◌≡◌, ◌++◌, ◌∷◌, [], ℕ, sym, ap, subst}
use Rattle.std.specs.Prelude.{OnOk}
use Rattle.history.specs.declared.event.Event.{Event}
use Rattle.history.specs.OpenRows.{next_array, given_info}
use Rattle.history.specs.Own.{opened_event}
use Rattle.state_resizes.specs.Agreement.{Opening}
use Rattle.state_resizes.specs.Log.{Log}
use Rattle.transactions.specs.Turns.{owner_of}
use Rattle.turn_book.specs.History.{Continues}
use Rattle.turn_book.specs.Passes.{PassView}
use Rattle.transactions.proofs.Laws.{past_of}
use Rattle.session_turns.proofs.TurnLaws.{given_adds, given_turn, turn_of_none, on_ok_map, on_err_map, is_turn}
use Rattle.session_turns.proofs.turns.open_given_in_turn.Goals as goal

pub give-requires-clause-agrees : goal.give-requires-clause-agrees
give-requires-clause-agrees g c = c.open_local-opened.ensures.kept c.args.book.now.fixed (rw c.state.ensures.value c.take-held.ensures.agrees)

pub give-requires-clause-added : goal.give-requires-clause-added
give-requires-clause-added g c =
    let h = c.state.result.now.log.events in
    let later = c.open_local-opened.new.self.log.events in
    let info = given_info (next_array h) c.args.start in
    let adds =
    given_adds c.number-owner.result info h later c.open_local-opened.result (on_ok_map c.open_local-opened.result (λ e. ap (λ (l : Log). l.events) e) c.open_local-opened.ensures.after)
    (on_err_map c.open_local-opened.result (λ e. ap (λ (l : Log). l.events) e) c.open_local-opened.ensures.err) in
    rw c.take-held.ensures.pass (subst (λ (n : ℕ). Continues owner_of n c.take-held.result.log.events later) c.number-owner.ensures (rw (sym c.state.ensures.value) adds.goes_on))

pub returns-clause-opened : goal.returns-clause-opened
returns-clause-opened g c =
    let h = c.state.result.now.log.events in
    let later = c.open_local-opened.new.self.log.events in
    let fixed = c.args.book.now.fixed in
    given_turn c.args.book.now c.args.pass.now c.give.new.pass h later c.args.start c.open_local-opened.result c.open_local-opened.ensures.array c.open_local-opened.ensures.event
    (subst (λ (n : ℕ). OnOk c.open_local-opened.result (later ≡ h ++ opened_event n (given_info (next_array h) c.args.start) ∷ [])) c.number-owner.ensures
    (on_ok_map c.open_local-opened.result (λ e. ap (λ (l : Log). l.events) e) c.open_local-opened.ensures.after))
    (λ adds. is_turn c.args.book.now c.args.pass.now c.take-held.new.pass c.give.new.pass h later c.requires.pass (rw c.state.ensures.value c.take-held.ensures.pass) c.give.ensures.pass (rw c.state.ensures.value c.take-held.ensures.before)
    (rw c.state.ensures.value c.take-held.ensures.mine) adds (past_of fixed _ c.open_local-opened.new.self.log (c.open_local-opened.ensures.kept fixed (rw c.state.ensures.value c.take-held.ensures.agrees))))

pub returns-clause-err : goal.returns-clause-err
returns-clause-err g c =
    let h = c.state.result.now.log.events in
    let later = c.open_local-opened.new.self.log.events in
    let fixed = c.args.book.now.fixed in
    turn_of_none c.args.book.now c.args.pass.now c.give.new.pass h later c.open_local-opened.result (on_err_map c.open_local-opened.result (λ e. ap (λ (l : Log). l.events) e) c.open_local-opened.ensures.err)
    (ap (λ (p : PassView Event Opening). p.seen) c.give.ensures.pass)
    (λ adds. is_turn c.args.book.now c.args.pass.now c.take-held.new.pass c.give.new.pass h later c.requires.pass (rw c.state.ensures.value c.take-held.ensures.pass) c.give.ensures.pass (rw c.state.ensures.value c.take-held.ensures.before)
    (rw c.state.ensures.value c.take-held.ensures.mine) adds (past_of fixed _ c.open_local-opened.new.self.log (c.open_local-opened.ensures.kept fixed (rw c.state.ensures.value c.take-held.ensures.agrees))))
