use Rattle.std.proofs.Common.{drop}
use Rattle.chunk_fetches.specs.Sources.{new_pieces}
use Rattle.chunk_fetches.proofs.LooksLaws.{AreLookedUpTo}
use Rattle.chunk_fetches.proofs.looking.look_all.Given as goal

-- the chunks so far have been looked at, and no event was added
abbrev pub invariant-loop-k : goal.invariant-loop-k
invariant-loop-k c l =
    let seen = c.K.KvStore.seen in
    AreLookedUpTo (seen l.initial.state.store) (seen l.state.store) l.initial.state.log l.state.log (new_pieces (drop l.k l.sources) (drop l.k l.pieces)) (new_pieces l.sources l.pieces) l.looks.items
