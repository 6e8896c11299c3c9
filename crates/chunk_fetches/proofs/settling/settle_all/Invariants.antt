use Rattle.std.proofs.Common.{drop}
use Rattle.chunk_fetches.specs.Sources.{new_pieces}
use Rattle.chunk_fetches.proofs.SettleLaws.{AreSettledUpTo}
use Rattle.chunk_fetches.proofs.settling.settle_all.Given as goal

-- the chunks so far are settled, and no event was added
abbrev pub invariant-loop-k : goal.invariant-loop-k
invariant-loop-k c l =
    let seen = c.K.KvStore.seen in
    AreSettledUpTo (seen l.initial.state.store) (seen l.state.store) l.initial.state.log l.state.log (new_pieces (drop l.k l.sources) (drop l.k l.pieces)) (new_pieces l.sources l.pieces) l.fresh l.next
