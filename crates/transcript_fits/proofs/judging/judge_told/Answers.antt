use Rattle.std.proofs.Common.{◌≢◌, List, sym, subst}
use Rattle.std.proofs.lemmas.Result.{IfOk-weaker}
use Rattle.transcript_fits.specs.Judges.{history_of}
use Rattle.transcript_fits.specs.LineFits.{MayBeAsked}
use Rattle.transcript_fits.specs.Stands.{HasPassed, IsFitAt, MayGoOnAt}
use Rattle.transcript_fits.specs.declared.line_fit.LineFit.{LineFit}
use Rattle.transcript_fits.specs.declared.line_fit.LineFit.TheVariants.{Unfit}
use Rattle.transcript_fits.proofs.JudgedLine.{if_on}
use Rattle.transcript_fits.proofs.judging.judge_told.Goals as goal

pub returns-in-Ok-Unfit-clause-fits : goal.returns-in-Ok-Unfit-clause-fits
returns-in-Ok-Unfit-clause-fits c =
    subst (λ (fit : LineFit). IsFitAt c.args.judge.now c.args.stand.now c.args.line c.args.place fit) c.in-Ok-Unfit.field-0-is c.in-Ok-Unfit.ensures.fits

pub returns-in-Ok : goal.returns-in-Ok
returns-in-Ok c =
    let j = c.args.judge.now in
    record {
      fits = IfOk-weaker c.pass_fit.result _ _ (λ fit same. subst (λ (x : LineFit). IsFitAt j c.args.stand.now c.args.line c.args.place x) (sym same) c.in-Ok.ensures.fits) c.pass_fit.ensures.same;
      asked = IfOk-weaker c.pass_fit.result _ _ (λ fit same. subst (λ (x : LineFit). MayBeAsked (history_of j) x) (sym same) c.in-Ok.ensures.asked) c.pass_fit.ensures.same;
      on = IfOk-weaker c.pass_fit.result _ _ (λ fit same. subst (λ (x : LineFit). MayGoOnAt j c.args.stand.now c.args.line c.args.place x) (sym same) c.in-Ok.ensures.on) c.pass_fit.ensures.same;
      passed = if_on c.pass_fit.result (HasPassed j c.args.stand.now c.pass_fit.new.stand c.args.line c.args.place) (λ (x : LineFit). x ≢ Unfit → HasPassed j c.args.stand.now c.pass_fit.new.stand c.args.line c.args.place) (λ fit passed goes. passed) c.pass_fit.ensures.passed;
    }
