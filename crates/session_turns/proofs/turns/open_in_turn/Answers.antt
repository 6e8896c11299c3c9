use Rattle.std.proofs.Common.{ℕ, sym, subst}
use Rattle.state_resizes.specs.Openings.{IsOpening}
use Rattle.transactions.specs.Turns.{owner_of}
use Rattle.turn_book.specs.History.{Continues}
use Rattle.session_turns.specs.Asked.{asked_leaf}
use Rattle.transactions.proofs.Laws.{past_of}
use Rattle.session_turns.proofs.TurnLaws.{open_adds, is_turn}
use Rattle.session_turns.proofs.turns.open_in_turn.Goals as goal

pub give-requires-clause-agrees : goal.give-requires-clause-agrees
give-requires-clause-agrees g c = c.open_asked-opened.ensures.kept c.args.book.now.fixed (rw c.state.ensures.value c.take-held.ensures.agrees)

pub give-requires-clause-added : goal.give-requires-clause-added
give-requires-clause-added g c =
    let fixed = c.args.book.now.fixed in
    let h = c.state.result.now.log.events in
    let later = c.open_asked-opened.new.state.log.events in
    let adds = open_adds fixed.store.contents c.number-owner.result (asked_leaf c.args.asked.now) h later c.open_asked-opened.result (c.open_asked-opened.ensures.answer fixed (rw c.state.ensures.value c.take-held.ensures.agrees)) in
    rw c.take-held.ensures.pass (subst (λ (n : ℕ). Continues owner_of n c.take-held.result.log.events later) c.number-owner.ensures (rw (sym c.state.ensures.value) adds.goes_on))

pub returns : goal.returns
returns g c =
    let fixed = c.args.book.now.fixed in
    let h = c.state.result.now.log.events in
    let later = c.open_asked-opened.new.state.log.events in
    let answer = subst (λ (n : ℕ). IsOpening fixed.store.contents h n (asked_leaf c.args.asked.now) c.open_asked-opened.result later) c.number-owner.ensures (c.open_asked-opened.ensures.answer fixed (rw c.state.ensures.value c.take-held.ensures.agrees)) in
    let adds = open_adds fixed.store.contents c.args.pass.now.number (asked_leaf c.args.asked.now) h later c.open_asked-opened.result answer in
    record {
      before = h;
      added = adds.added;
      turn = is_turn c.args.book.now c.args.pass.now c.take-held.new.pass c.give.new.pass h later c.requires.pass (rw c.state.ensures.value c.take-held.ensures.pass) c.give.ensures.pass (rw c.state.ensures.value c.take-held.ensures.before)
          (rw c.state.ensures.value c.take-held.ensures.mine) adds (past_of fixed _ c.open_asked-opened.new.state.log (c.open_asked-opened.ensures.kept fixed (rw c.state.ensures.value c.take-held.ensures.agrees)));
      answer = rw c.give.ensures.pass answer;
    }
