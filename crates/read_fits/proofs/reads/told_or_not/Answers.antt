use Rattle.std.proofs.Common.{◌∙◌}
use Rattle.read_fits.proofs.FitLaws.{text_is, text_is_not}
use Rattle.read_fits.proofs.reads.told_or_not.Goals as goal

pub returns-then-same : goal.returns-then-same
returns-then-same c = text_is c.args.view.now c.args.line c.args.text.now c.args.words c.in_ok-copy.copy c.in_ok-same.same (c.in_ok-copy.ensures ∙ c.items.ensures) c.if-same.true c.in_ok-same.ensures

pub returns-else-same : goal.returns-else-same
returns-else-same c = text_is_not c.args.view.now c.args.line c.args.text.now c.args.words c.in_ok-copy.copy c.in_ok-same.same (c.in_ok-copy.ensures ∙ c.items.ensures) c.if-same.false c.in_ok-same.ensures
