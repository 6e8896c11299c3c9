use Rattle.std.proofs.Common.{ℕ, sym, subst}
use Rattle.std.specs.FinMap as finmap
use Rattle.kv_face.specs.Store.{Contents}
use Rattle.session_turns.proofs.TurnLaws.{resize_adds, is_turn}
use Rattle.session_turns.proofs.turns.resize_in_turn.Goals as goal
use Rattle.state_resizes.specs.Answers.{IsAnswer, fixed_by}
use Rattle.transactions.specs.Turns.{owner_of}
use Rattle.transactions.proofs.Laws.{past_of}
use Rattle.turn_book.specs.History.{Continues}

pub give-requires-clause-agrees : goal.give-requires-clause-agrees
give-requires-clause-agrees g c = c.resize-resized.ensures.kept c.args.book.now.fixed (rw c.state.ensures.value c.take-held.ensures.agrees)

pub give-requires-clause-added : goal.give-requires-clause-added
give-requires-clause-added g c =
    let fixed = c.args.book.now.fixed in
    let h = c.state.result.now.log.events in
    let later = c.resize-resized.new.state.log.events in
    let adds =
    resize_adds (fixed_by fixed finmap.empty) fixed.store.contents c.number-owner.result c.args.array c.args.shape.now h later c.resize-resized.result
    (c.resize-resized.ensures.answer fixed finmap.empty (rw c.state.ensures.value c.take-held.ensures.agrees)) in
    rw c.take-held.ensures.pass (subst (λ (n : ℕ). Continues owner_of n c.take-held.result.log.events later) c.number-owner.ensures (rw (sym c.state.ensures.value) adds.goes_on))

pub returns : goal.returns
returns g c =
    let fixed = c.args.book.now.fixed in
    let h = c.state.result.now.log.events in
    let later = c.resize-resized.new.state.log.events in
    let answer = λ (start : Contents). subst (λ (n : ℕ). IsAnswer (fixed_by fixed start) fixed.store.contents h n c.args.array c.args.shape.now c.resize-resized.result later) c.number-owner.ensures
    (c.resize-resized.ensures.answer fixed start (rw c.state.ensures.value c.take-held.ensures.agrees)) in
    let adds = resize_adds (fixed_by fixed finmap.empty) fixed.store.contents c.args.pass.now.number c.args.array c.args.shape.now h later c.resize-resized.result (answer finmap.empty) in
    record {
      before = h;
      added = adds.added;
      turn =
          is_turn c.args.book.now c.args.pass.now c.take-held.new.pass c.give.new.pass h later c.requires.pass (rw c.state.ensures.value c.take-held.ensures.pass) c.give.ensures.pass (rw c.state.ensures.value c.take-held.ensures.before)
          (rw c.state.ensures.value c.take-held.ensures.mine) adds (past_of fixed _ c.resize-resized.new.state.log (c.resize-resized.ensures.kept fixed (rw c.state.ensures.value c.take-held.ensures.agrees)));
      answer = λ start. rw c.give.ensures.pass (answer start);
    }
