use Rattle.std.proofs.Common.{◌∙◌, sym}
use Rattle.downsample_view.proofs.Lists.{factors-from, factors-all}
use Rattle.downsample_view.proofs.factors.are_factors.Goals as goal

pub returns-clause-from : goal.returns-clause-from
returns-clause-from c = λ e. factors-from c.args.factors.now (sym c.all_factors.ensures ∙ e)

pub returns-clause-all : goal.returns-clause-all
returns-clause-all c = λ h. c.all_factors.ensures ∙ factors-all c.args.factors.now h
