use Rattle.std.proofs.Common.{◌≡◌, ◌++◌, drop}
use Rattle.transform_composition.specs.Reading.{read_dims}
use Rattle.transform_composition.proofs.reading.read_dims.Given as goal

-- the dimensions so far, and those still to come
abbrev pub invariant-loop-k : goal.invariant-loop-k
invariant-loop-k l = l.read.items ++ read_dims l.k (drop l.k l.dims) l.sizes l.inners ≡ read_dims 0 l.dims l.sizes l.inners
