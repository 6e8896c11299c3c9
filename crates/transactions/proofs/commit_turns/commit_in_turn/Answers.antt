use Rattle.std.proofs.Common.{◌≡◌, ℕ, Some, refl, sym, subst}
use mathlib.Core.List.{IsPrefix}
use Rattle.commits.specs.Answers.{IsCommitRow, IsCommitted, IsTold}
use Rattle.commits.specs.Prepared.{AreWrites}
use Rattle.history.specs.Commit.{Transaction}
use Rattle.kv_face.specs.Store.{Contents}
use Rattle.chunk_fetches.specs.Agreement.{Agrees}
use Rattle.turn_book.specs.History.{Continues}
use Rattle.chunk_fetches.specs.Turns.{owner_of}
use Rattle.transactions.proofs.CommitTurns.{commit_turn}
use Rattle.commits.proofs.Laws.{told_added}
use Rattle.transactions.proofs.OwnLaws.{own_each}
use Rattle.transactions.proofs.commit_turns.commit_in_turn.Goals as goal

pub commit_now-committed-requires-clause-agrees : goal.commit_now-committed-requires-clause-agrees
commit_now-committed-requires-clause-agrees c d =
    let seen = c.K.KvStore.seen in
    let fixed = d.args.book.now.fixed in
    let state = d.state.result.now in
    let agrees : Agrees fixed (seen state.store) state.log = rw d.state.ensures.value d.take-held.ensures.agrees in
    let before : IsPrefix d.args.pass.now.seen state.log.events = rw d.state.ensures.value d.take-held.ensures.before in
    let may = d.requires.prepared in
    let committed : (start : Contents) → fixed.store.contents ≡ Some start → (t : Transaction) × IsCommitted start state.log t d.args.p =
    λ start told. (may.0, may.1.committed (seen state.store) state.log start before agrees told) in
    (fixed, (agrees, committed))

pub commit_now-committed-requires-clause-writes : goal.commit_now-committed-requires-clause-writes
commit_now-committed-requires-clause-writes c d =
    let seen = c.K.KvStore.seen in
    let fixed = d.args.book.now.fixed in
    let state = d.state.result.now in
    let agrees : Agrees fixed (seen state.store) state.log = rw d.state.ensures.value d.take-held.ensures.agrees in
    let before : IsPrefix d.args.pass.now.seen state.log.events = rw d.state.ensures.value d.take-held.ensures.before in
    let now = d.requires.prepared.1.prepared state.log.events before agrees.outline in
    subst (λ ops. AreWrites state.log.events ops d.args.p.writes.items) (sym now.ops) now.writes

pub give-requires-clause-agrees : goal.give-requires-clause-agrees
give-requires-clause-agrees c d =
    let seen = c.K.KvStore.seen in
    let fixed = d.args.book.now.fixed in
    let state = d.state.result.now in
    let agrees : Agrees fixed (seen state.store) state.log = rw d.state.ensures.value d.take-held.ensures.agrees in
    let before : IsPrefix d.args.pass.now.seen state.log.events = rw d.state.ensures.value d.take-held.ensures.before in
    let may = d.requires.prepared in
    d.commit_now-committed.ensures.kept fixed agrees (λ start told. (may.0, may.1.committed (seen state.store) state.log start before agrees told))

pub give-requires-clause-added : goal.give-requires-clause-added
give-requires-clause-added c d =
    let seen = c.K.KvStore.seen in
    let state = d.state.result.now in
    let later = d.commit_now-committed.new.state in
    let has = told_added d.number-owner.result (seen state.store) (seen later.store) state.log later.log d.args.p d.commit_now-committed.result d.commit_now-committed.ensures.told in
    let continues : Continues owner_of d.number-owner.result state.log.events later.log.events = (has.own, has.added, own_each d.number-owner.result has.own has.are_own) in
    rw d.take-held.ensures.pass (subst (λ (n : ℕ). Continues owner_of n d.take-held.result.log.events later.log.events) d.number-owner.ensures (rw (sym d.state.ensures.value) continues))

pub returns : goal.returns
returns c d t may =
    let seen = c.K.KvStore.seen in
    let fixed = d.args.book.now.fixed in
    let state = d.state.result.now in
    let later = d.commit_now-committed.new.state in
    let agrees : Agrees fixed (seen state.store) state.log = rw d.state.ensures.value d.take-held.ensures.agrees in
    let before : IsPrefix d.args.pass.now.seen state.log.events = rw d.state.ensures.value d.take-held.ensures.before in
    let committed : (start : Contents) → fixed.store.contents ≡ Some start → IsCommitted start state.log t d.args.p = λ start told. may.committed (seen state.store) state.log start before agrees told in
    let told = d.commit_now-committed.ensures.told in
    let row = d.commit_now-committed.ensures.row in
    commit_turn d.args.book.now d.args.pass.now d.take-held.new.pass d.give.new.pass state.log.events (seen state.store) (seen later.store) state.log later.log t d.args.p d.commit_now-committed.result d.requires.pass
    (rw d.state.ensures.value d.take-held.ensures.pass) d.give.ensures.pass before (rw d.state.ensures.value d.take-held.ensures.mine) refl agrees
    (d.commit_now-committed.ensures.kept fixed agrees (λ start contents. (t, committed start contents))) may
    (subst (λ n. IsTold n (seen state.store) (seen later.store) state.log later.log d.args.p d.commit_now-committed.result) d.number-owner.ensures told)
    (λ start contents.
    subst (λ n. IsCommitRow (record { start = start; prefixes = fixed.store.prefixes }) n state.log.events later.log.events t d.commit_now-committed.result) d.number-owner.ensures
    (row fixed start t agrees contents (committed start contents)))
