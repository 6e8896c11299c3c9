use Rattle.std.proofs.Common.{◌≡◌, ◌++◌, filter, drop}
use Rattle.chunk_grid.specs.Boxes.{loops_of, runs_more_than_once}
use Rattle.chunk_grid.proofs.boxing.loops_of.Given as goal

abbrev pub invariant-loop-d : goal.invariant-loop-d
invariant-loop-d l =
    l.loops.items ++ filter runs_more_than_once (loops_of (drop l.d l.dims) (drop l.d l.views) (drop l.d l.chunks))
    ≡ filter runs_more_than_once (loops_of l.dims l.views l.chunks)
