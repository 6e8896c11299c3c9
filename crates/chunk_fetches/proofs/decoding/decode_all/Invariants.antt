use Rattle.std.proofs.Common.{◌≡◌, ◌++◌}
use Rattle.chunk_fetches.proofs.FreshLaws.{AreDecoded}
use Rattle.chunk_fetches.proofs.decoding.decode_all.Given as goal

-- the chunks so far are cells, and the others are left
abbrev pub invariant-loop-l : goal.invariant-loop-l
invariant-loop-l c l = record {
  decoded : AreDecoded l.yielded l.fresh.items;
  rest : l.fn.looks.items ≡ l.yielded ++ l.l-iterator.rest.items;
}
