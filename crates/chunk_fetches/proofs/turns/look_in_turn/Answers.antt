use Rattle.std.proofs.Common.{◌∙◌, ◌∷◌, [], ℕ, sym, ap, subst, refl, append-nil}
use Rattle.history.specs.declared.event.Event.{Event}
use Rattle.shared_state.specs.Agreement.{Opening}
use Rattle.turn_book.specs.Passes.{PassView}
use Rattle.history.specs.Own.{fault}
use Rattle.chunk_fetches.specs.Looking.{HasFailedAmong}
use Rattle.chunk_fetches.specs.Sources.{new_pieces}
use Rattle.chunk_fetches.specs.Turns.{owner_of}
use Rattle.turn_book.specs.History.{Continues}
use Rattle.chunk_fetches.proofs.TurnLaws.{past_of, own_one, has_turned, look_continues, on_ok_map}
use Rattle.chunk_fetches.proofs.turns.look_in_turn.Goals as goal

pub give-requires-clause-agrees : goal.give-requires-clause-agrees
give-requires-clause-agrees c d = d.look_all-looks.ensures.kept d.args.book.now.fixed (rw d.state.ensures.value d.take-held.ensures.agrees)

pub give-requires-clause-added : goal.give-requires-clause-added
give-requires-clause-added c d =
    let pieces = new_pieces d.args.sources.now d.args.pieces.now in
    let h = d.state.result.now.log.events in
    let later = d.look_all-looks.new.state.log.events in
    let continues = look_continues d.look_all-looks.result d.number-owner.result pieces h later d.look_all-looks.ensures.events d.look_all-looks.ensures.failed d.look_all-looks.ensures.memory in
    rw d.take-held.ensures.pass (subst (λ (n : ℕ). Continues owner_of n d.take-held.result.log.events later) d.number-owner.ensures (rw (sym d.state.ensures.value) continues))

pub returns-clause-ok : goal.returns-clause-ok
returns-clause-ok c d =
    let h = d.state.result.now.log.events in
    let later = d.look_all-looks.new.state.log.events in
    let old = d.args.pass.now in
    on_ok_map d.look_all-looks.result d.look_all-looks.ensures.events (λ same.
    has_turned d.args.book.now old d.take-held.new.pass d.give.new.pass h later [] d.requires.pass (rw d.state.ensures.value d.take-held.ensures.pass) d.give.ensures.pass (rw d.state.ensures.value d.take-held.ensures.before)
    (rw d.state.ensures.value d.take-held.ensures.mine)
    (same ∙ sym (append-nil h)) refl (past_of d.args.book.now.fixed _ d.look_all-looks.new.state.log (d.look_all-looks.ensures.kept d.args.book.now.fixed (rw d.state.ensures.value d.take-held.ensures.agrees))))

pub returns-clause-memory : goal.returns-clause-memory
returns-clause-memory c d is =
    let h = d.state.result.now.log.events in
    let later = d.look_all-looks.new.state.log.events in
    has_turned d.args.book.now d.args.pass.now d.take-held.new.pass d.give.new.pass h later [] d.requires.pass (rw d.state.ensures.value d.take-held.ensures.pass) d.give.ensures.pass (rw d.state.ensures.value d.take-held.ensures.before)
    (rw d.state.ensures.value d.take-held.ensures.mine)
    (d.look_all-looks.ensures.memory is ∙ sym (append-nil h)) refl (past_of d.args.book.now.fixed _ d.look_all-looks.new.state.log (d.look_all-looks.ensures.kept d.args.book.now.fixed (rw d.state.ensures.value d.take-held.ensures.agrees)))

pub returns-clause-failed : goal.returns-clause-failed
returns-clause-failed c d event is =
    let pieces = new_pieces d.args.sources.now d.args.pieces.now in
    let h = d.state.result.now.log.events in
    let later = d.look_all-looks.new.state.log.events in
    let failed = subst (λ (n : ℕ). HasFailedAmong n pieces h later event) d.number-owner.ensures (d.look_all-looks.ensures.failed event is) in
    record {
      before = h;
      grown = rw d.state.ensures.value d.take-held.ensures.before;
      failed = rw (d.give.ensures.pass) failed;
      turned = λ mount added.
          has_turned d.args.book.now d.args.pass.now d.take-held.new.pass d.give.new.pass h later (fault d.args.pass.now.number mount ∷ []) d.requires.pass (rw d.state.ensures.value d.take-held.ensures.pass) d.give.ensures.pass
          (rw d.state.ensures.value d.take-held.ensures.before) (rw d.state.ensures.value d.take-held.ensures.mine)
          (sym (ap (λ (p : PassView Event Opening). p.seen) d.give.ensures.pass) ∙ added) (own_one d.args.pass.now.number mount) (past_of d.args.book.now.fixed _ d.look_all-looks.new.state.log (d.look_all-looks.ensures.kept d.args.book.now.fixed (rw d.state.ensures.value d.take-held.ensures.agrees)));
    }
