use Rattle.std.proofs.Common.{arith}
use Rattle.bench.proofs.views.cut_times.Goals as goal

pub runs-requires-clause-few : goal.runs-requires-clause-few
runs-requires-clause-few c = omega (arith, c.in-Ok.ensures.number)
