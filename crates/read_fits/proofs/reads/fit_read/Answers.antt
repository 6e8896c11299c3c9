use Rattle.std.proofs.Common.{ap}
use Rattle.std.specs.Prelude.{option_map}
use Rattle.serde_json.specs.View.{view as data_in}
use Rattle.read_fits.proofs.FitLaws.{by_failure, by_values}
use Rattle.read_fits.proofs.reads.fit_read.Goals as goal

pub returns-in-Some : goal.returns-in-Some
returns-in-Some c =
    by_values c.args.spot c.args.view.now c.args.own.now.staging c.args.text.now (option_map (λ v. data_in v.now) c.args.values) (data_in c.in-Some.values.now) c.fit_values.result (ap (option_map (λ v. data_in v.now)) c.in-Some.is) c.fit_values.ensures

pub returns-in-None : goal.returns-in-None
returns-in-None c =
    by_failure c.args.spot c.args.view.now c.args.own.now.staging c.args.text.now (option_map (λ v. data_in v.now) c.args.values) c.fit_failure.result (ap (option_map (λ v. data_in v.now)) c.in-None.is) c.fit_failure.ensures
