use Rattle.std.proofs.Common.{◌≡◌, drop, fold}
use Rattle.index_intervals.specs.Around.{around, around_all}
use Rattle.index_intervals.proofs.around.around_all.Given as goal

abbrev pub invariant-loop-k : goal.invariant-loop-k
invariant-loop-k l = around_all l.dims ≡ fold around l.all (drop l.k l.dims)
