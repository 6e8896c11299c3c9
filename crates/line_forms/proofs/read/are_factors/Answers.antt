use Rattle.std.proofs.Common.{◌∙◌, sym}
use Rattle.line_forms.proofs.Factors.{factors-from}
use Rattle.line_forms.proofs.read.are_factors.Goals as goal

pub returns-clause-from : goal.returns-clause-from
returns-clause-from c = λ e. factors-from c.args.factors.now (sym c.all_factors.ensures ∙ e)
