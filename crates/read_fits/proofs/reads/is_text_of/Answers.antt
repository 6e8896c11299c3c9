use Rattle.std.proofs.Common.{◌≡◌, subst}
use Rattle.std.specs.Prelude.{◌↔◌, IsTrue}
use Rattle.std.proofs.lemmas.Result.{IfOk-weaker}
use Rattle.line_fits.specs.Answers.{answer_data}
use Rattle.line_fits.specs.Text.{answer_text}
use Rattle.line_fits.specs.declared.Body.{Body}
use Rattle.read_fits.proofs.reads.is_text_of.Goals as goal

pub returns : goal.returns
returns c =
    IfOk-weaker c.is_told.result _ _
    (λ is tests d line_is.
    subst (λ (b : Body). IsTrue is ↔ ((c.args.text.now ≡ answer_text (record { line = c.args.line; body = b })) × (d ≡ answer_data (record { line = c.args.line; body = b })))) c.in_ok-body.ensures (tests c.args.line d line_is))
    c.is_told.ensures
