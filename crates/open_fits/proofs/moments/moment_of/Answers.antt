use Rattle.std.proofs.Common.{ap, ◌∙◌}
use Rattle.open_fits.specs.Moments.{moment_by}
use Rattle.open_fits.proofs.moments.moment_of.Goals as goal

pub returns-in-Some-clause-value : goal.returns-in-Some-clause-value
returns-in-Some-clause-value c = ap (λ o. moment_by o c.args.told.now.failed c.args.told.now.from) c.in-Some.ensures

pub returns-in-None-clause-value : goal.returns-in-None-clause-value
returns-in-None-clause-value c = c.moment_failed.ensures.value ∙ ap (λ o. moment_by o c.args.told.now.failed c.args.told.now.from) c.in-None.ensures
