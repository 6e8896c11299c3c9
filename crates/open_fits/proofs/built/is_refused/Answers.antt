use Rattle.std.proofs.Common.{sym, ap, ◌∙◌}
use Rattle.std.proofs.lemmas.Result.{IfOk-weaker}
use Rattle.read_fits.specs.declared.Body.TheVariants.{RefusedSpec}
use Rattle.history.specs.Answers.{refused_spec}
use Rattle.read_fits.specs.Openings.{build_cause_of}
use Rattle.open_fits.specs.Built.{IsToldSo}
use Rattle.open_fits.proofs.BuiltLaws.{cause_back}
use Rattle.open_fits.proofs.built.is_refused.Goals as goal

pub returns-in-Ok : goal.returns-in-Ok
returns-in-Ok c =
    let told = c.args.told.now in
    let answer = refused_spec c.args.path (build_cause_of c.args.cause) told.numbers in
    IfOk-weaker c.is_answer.result _ (IsToldSo told answer)
    (λ is each. each answer (ap (λ e. RefusedSpec c.args.path c.args.cause e) c.in-Ok.ensures ∙ ap (λ x. RefusedSpec c.args.path x told.numbers) (sym (cause_back c.args.cause)))) c.is_answer.ensures
