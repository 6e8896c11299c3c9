use Rattle.std.proofs.Common.{◌≡◌, ◌++◌, ◌≤◌, drop, length}
use Rattle.chunk_fetches.specs.Fetched.{kept_from}
use Rattle.chunk_fetches.specs.Sources.{new_pieces}
use Rattle.chunk_fetches.proofs.fetching.keep_all.Given as goal

-- those so far, and those of the pieces that are left
abbrev pub invariant-loop-f : goal.invariant-loop-f
invariant-loop-f l = record {
  rest : l.fetched.items ++ kept_from l.mark (new_pieces (drop l.k l.sources) (drop l.k l.pieces)) l.f-iterator.rest.items ≡ kept_from l.mark (new_pieces l.sources l.pieces) l.fn.fresh.items;
  few : l.k ≤ length l.sources;
}
