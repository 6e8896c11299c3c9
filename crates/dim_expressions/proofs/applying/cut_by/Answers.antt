use Rattle.dim_expressions.proofs.Outcomes.{outcome-cut}
use Rattle.dim_expressions.proofs.applying.cut_by.Goals as goal

pub returns : goal.returns
returns c = outcome-cut c.args.t.now c.args.dims.now c.args.act.now c.with_cuts.result c.requires.is_cut c.with_cuts.ensures
