use Rattle.std.proofs.Common.{◌≡◌, ℕ, subst}
use Rattle.std.specs.Prelude.{◌↔◌, IfOk, IsTrue}
use Rattle.serde_json.specs.Data.{Data}
use Rattle.line_fits.specs.Answers.{answer_data}
use Rattle.line_fits.specs.AnswerLines.{IsAnswerText}
use Rattle.line_fits.specs.Text.{answer_text}
use Rattle.line_fits.specs.declared.Body.{Body}
use Rattle.read_fits.proofs.conflicts.is_text_of.Goals as goal

pub returns : goal.returns
returns c =
    subst
    (λ (b : Body). IfOk c.is_told.result (λ is. (number : ℕ) (d : Data) → IsAnswerText number c.args.text.now d → IsTrue is
    ↔ ((c.args.text.now ≡ answer_text (record { line = c.args.line; body = b })) × (d ≡ answer_data (record { line = c.args.line; body = b })))))
    c.in_ok-body.ensures c.is_told.ensures
