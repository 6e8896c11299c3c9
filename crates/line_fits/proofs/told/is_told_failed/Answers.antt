use Rattle.std.proofs.Common.{◌≡◌, ◌∙◌, List, ℕ, None, subst}
use Rattle.std.specs.Prelude.{◌↔◌, IsTrue}
use Rattle.std.proofs.lemmas.Result.{IfOk-weaker}
use Rattle.transcript_cut.specs.Answers.{answer_data}
use Rattle.transcript_cut.specs.Text.{answer_text}
use Rattle.transcript_cut.specs.declared.Answer.{Answer}
use Rattle.transcript_cut.specs.declared.Body.TheVariants.{StoreFailed}
use Rattle.line_fits.proofs.told.is_told_failed.Goals as goal

pub returns : goal.returns
returns c =
    IfOk-weaker c.is_told_body.result _ _ (λ is tests n d told.
    let answer : List ℕ → Answer = λ done. record { line = c.args.line; body = StoreFailed c.args.event done None } in
    subst (λ done. IsTrue is ↔ (c.args.text.now ≡ answer_text (answer done)) × (d ≡ answer_data (answer done))) (c.wrap-done.ensures ∙ c.new.ensures.items) (tests n d told)) c.is_told_body.ensures
