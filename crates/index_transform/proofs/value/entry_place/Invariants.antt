use Rattle.std.proofs.Common.{drop}
use Rattle.index_transform.specs.Values.{entry_place}
use Rattle.index_transform.proofs.EntryLemmas.{IsAlong}
use Rattle.index_transform.proofs.value.entry_place.Given as goal

abbrev pub invariant-loop-k : goal.invariant-loop-k
invariant-loop-k l = IsAlong (drop l.k l.dims) (drop l.k l.sizes) (drop l.k l.index) l.place (entry_place l.dims l.sizes l.index)
