use Rattle.std.proofs.Common.{[], sym, refl, append-nil}
use Rattle.chunk_fetches.proofs.Laws.{past_of, has_turned}
use Rattle.transactions.proofs.reading.least_in_turn.Goals as goal

pub returns-clause-turned : goal.returns-clause-turned
returns-clause-turned g c =
    let h = c.state.result.now.log.events in
    has_turned c.args.book.now c.args.pass.now c.take-held.new.pass c.give.new.pass h h [] c.requires.pass (rw c.state.ensures.value c.take-held.ensures.pass) c.give.ensures.pass (rw c.state.ensures.value c.take-held.ensures.before)
    (rw c.state.ensures.value c.take-held.ensures.mine)
    (sym (append-nil h)) refl (rw c.state.ensures.value (past_of c.args.book.now.fixed _ c.take-held.result.log c.take-held.ensures.agrees))
