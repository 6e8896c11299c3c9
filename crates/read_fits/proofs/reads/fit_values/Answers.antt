use Rattle.std.proofs.Common.{ℕ, List, Option, subst}
use Rattle.std.specs.Prelude.{IfOk}
use Rattle.serde_json.specs.View.{view as data_in}
use Rattle.read_fits.specs.ReadFits.{AreSeenFits, AreToldWords}
use Rattle.read_fits.proofs.FitLaws.{by_words}
use Rattle.read_fits.proofs.ReadAnswers.{unfit_text}
use Rattle.read_fits.proofs.reads.fit_values.Goals as goal

pub returns-in-Some : goal.returns-in-Some
returns-in-Some c =
    let told = subst (λ (o : Option (List ℕ)). AreToldWords c.args.view.now c.args.spot.line c.args.text.now (data_in c.args.values.now) o) c.in-Some.is c.in_ok-told.ensures in
    by_words c.args.spot c.args.view.now c.args.staging.now c.args.text.now (data_in c.args.values.now) c.in-Some.words c.fit_words.result told
    (subst (λ (ws : List ℕ). IfOk c.fit_words.result (AreSeenFits c.args.spot c.args.view.now c.args.staging.now ws)) c.items.ensures c.fit_words.ensures)

pub returns-in-None : goal.returns-in-None
returns-in-None c =
    unfit_text c.args.spot c.args.view.now c.args.staging.now c.args.text.now (data_in c.args.values.now)
    (subst (λ (o : Option (List ℕ)). AreToldWords c.args.view.now c.args.spot.line c.args.text.now (data_in c.args.values.now) o) c.in-None.is c.in_ok-told.ensures)
