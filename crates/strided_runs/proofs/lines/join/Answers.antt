use Rattle.std.proofs.Common.{ap, subst, arith}
use Rattle.strided_runs.specs.Loops.{AllRun, ViewsRise, view_reach}
use Rattle.strided_runs.proofs.LinePuts.{split}
use Rattle.strided_runs.proofs.lines.join.Goals as goal

pub join_from-requires : goal.join_from-requires
join_from-requires c =
    let is = split c.args.loops.now c.in-len1-up.len_at_least in
    let reach = ap view_reach is in
    record {
      some = subst AllRun is c.requires.some;
      rise = subst ViewsRise is c.requires.rise;
      small = omega (arith, reach, c.requires.small);
    }
