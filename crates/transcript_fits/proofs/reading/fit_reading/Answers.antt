use Rattle.std.proofs.Common.{◌≡◌, ◌∙◌, Ok, codes, sym, ap, subst}
use Rattle.std.specs.Prelude.{IfOk, option_map}
use Rattle.std.proofs.lemmas.Result.{IfOk-weaker}
use Rattle.serde_json.specs.Find.{get}
use Rattle.serde_json.specs.View.{view as data_in}
use Rattle.open_fits.specs.ReadFits.{AreFitsOf}
use Rattle.open_fits.specs.declared.ReadFit.TheVariants.{Unfit, IfFetched, IfMet}
use Rattle.transcript_fits.specs.Judges.{history_of}
use Rattle.transcript_fits.specs.LineFits.{answer_of_line}
use Rattle.transcript_fits.proofs.FaceLaws.{plain_asked}
use Rattle.transcript_fits.proofs.ReadLaws.{fetched_fits, plain_reading, read_of, read_so}
use Rattle.transcript_fits.proofs.reading.fit_reading.Goals as goal

pub fit_read-requires : goal.fit_read-requires
fit_read-requires c = (
  history_of c.args.judge.now,
  c.requires.reading.0,
  read_of c.args.judge.now c.requires.judge c.args.line c.requires.reading.0 c.args.view.now c.args.own.now c.spot_of.result c.spot_of.ensures.line c.spot_of.ensures.upto c.requires.reading.1,
)

pub returns-in-Ok-Unfit-clause-fits : goal.returns-in-Ok-Unfit-clause-fits
returns-in-Ok-Unfit-clause-fits c = λ t read.
    let same : get (codes "values") (answer_of_line c.args.line) ≡ option_map (λ v. data_in v.now) c.get.result = sym (c.get.ensures ∙ c.in_ok-values.ensures) in
    let fits = subst (λ r. IfOk r (AreFitsOf c.spot_of.result c.args.view.now c.args.own.now.staging c.args.line.text.now (option_map (λ v. data_in v.now) c.get.result))) (c.in-Ok-Unfit.is ∙ ap Ok c.in-Ok-Unfit.field-0-is) c.fit_read.ensures in
    let told = fits (answer_of_line c.args.line) same in
    read_so c.args.judge.now c.requires.judge c.args.line t c.args.view.now c.args.own.now c.spot_of.result Unfit c.spot_of.ensures.line c.spot_of.ensures.from c.spot_of.ensures.upto c.spot_of.ensures.failed read told

pub returns-in-Ok-IfFetched-clause-fits : goal.returns-in-Ok-IfFetched-clause-fits
returns-in-Ok-IfFetched-clause-fits c =
    let same : get (codes "values") (answer_of_line c.args.line) ≡ option_map (λ v. data_in v.now) c.get.result = sym (c.get.ensures ∙ c.in_ok-values.ensures) in
    let fits = subst (λ r. IfOk r (AreFitsOf c.spot_of.result c.args.view.now c.args.own.now.staging c.args.line.text.now (option_map (λ v. data_in v.now) c.get.result))) (c.in-Ok-IfFetched.is ∙ ap Ok c.in-Ok-IfFetched.field-0-is) c.fit_read.ensures in
    let told = fits (answer_of_line c.args.line) same in
    IfOk-weaker c.fit_fetched.result _ _
    (λ fit may t read.
    fetched_fits (history_of c.args.judge.now) c.args.line t c.args.view.now fit (read_so c.args.judge.now c.requires.judge c.args.line t c.args.view.now c.args.own.now c.spot_of.result IfFetched c.spot_of.ensures.line c.spot_of.ensures.from c.spot_of.ensures.upto c.spot_of.ensures.failed read told) (may t read))
    c.fit_fetched.ensures.fits

pub returns-in-Ok-IfFetched-clause-asked : goal.returns-in-Ok-IfFetched-clause-asked
returns-in-Ok-IfFetched-clause-asked c = IfOk-weaker c.fit_fetched.result _ _ (λ fit plain. plain_asked (history_of c.args.judge.now) fit plain) c.fit_fetched.ensures.plain

pub returns-in-Ok-IfFetched-clause-reading : goal.returns-in-Ok-IfFetched-clause-reading
returns-in-Ok-IfFetched-clause-reading c = IfOk-weaker c.fit_fetched.result _ _ (λ fit plain. plain_reading fit plain) c.fit_fetched.ensures.plain

pub returns-in-Ok-IfMet-clause-fits : goal.returns-in-Ok-IfMet-clause-fits
returns-in-Ok-IfMet-clause-fits c = λ t read.
    let same : get (codes "values") (answer_of_line c.args.line) ≡ option_map (λ v. data_in v.now) c.get.result = sym (c.get.ensures ∙ c.in_ok-values.ensures) in
    let fits = subst (λ r. IfOk r (AreFitsOf c.spot_of.result c.args.view.now c.args.own.now.staging c.args.line.text.now (option_map (λ v. data_in v.now) c.get.result))) (c.in-Ok-IfMet.is ∙ ap Ok c.in-Ok-IfMet.field-0-is) c.fit_read.ensures in
    let told = fits (answer_of_line c.args.line) same in
    let both = read_so c.args.judge.now c.requires.judge c.args.line t c.args.view.now c.args.own.now c.spot_of.result (IfMet c.in-Ok-IfMet.waiting) c.spot_of.ensures.line c.spot_of.ensures.from c.spot_of.ensures.upto c.spot_of.ensures.failed read told in
    both.1

pub returns-in-Ok-IfMet-clause-asked : goal.returns-in-Ok-IfMet-clause-asked
returns-in-Ok-IfMet-clause-asked c =
    let same : get (codes "values") (answer_of_line c.args.line) ≡ option_map (λ v. data_in v.now) c.get.result = sym (c.get.ensures ∙ c.in_ok-values.ensures) in
    let fits = subst (λ r. IfOk r (AreFitsOf c.spot_of.result c.args.view.now c.args.own.now.staging c.args.line.text.now (option_map (λ v. data_in v.now) c.get.result))) (c.in-Ok-IfMet.is ∙ ap Ok c.in-Ok-IfMet.field-0-is) c.fit_read.ensures in
    let told = fits (answer_of_line c.args.line) same in
    let both = read_so c.args.judge.now c.requires.judge c.args.line c.requires.reading.0 c.args.view.now c.args.own.now c.spot_of.result (IfMet c.in-Ok-IfMet.waiting) c.spot_of.ensures.line c.spot_of.ensures.from c.spot_of.ensures.upto c.spot_of.ensures.failed c.requires.reading.1 told in
    both.0
