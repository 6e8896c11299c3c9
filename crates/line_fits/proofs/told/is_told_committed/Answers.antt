use Rattle.std.proofs.Common.{◌≡◌, ◌∷◌, [], List, ℕ, subst}
use Rattle.std.specs.Prelude.{◌↔◌, IsTrue}
use Rattle.std.proofs.lemmas.Result.{IfOk-weaker}
use Rattle.transcript_cut.specs.Answers.{answer_data}
use Rattle.transcript_cut.specs.Text.{answer_text}
use Rattle.transcript_cut.specs.declared.Answer.{Answer}
use Rattle.transcript_cut.specs.declared.Body.TheVariants.{Committed}
use Rattle.history.specs.Answers as old
use Rattle.line_fits.proofs.OneAnswer.{told_with, committed_done}
use Rattle.line_fits.proofs.told.is_told_committed.Goals as goal

pub returns : goal.returns
returns c =
    IfOk-weaker c.is_told_body.result _ _ (λ is tests n d told done.
    let answer : List ℕ → Answer = λ events. record { line = c.args.line; body = Committed events } in
    told_with is (λ n. old.committed (n ∷ [])) c.args.line c.args.number c.args.text.now d (committed_done c.args.line) done
    (subst (λ events. IsTrue is ↔ (c.args.text.now ≡ answer_text (answer events)) × (d ≡ answer_data (answer events))) c.in_ok-events.ensures (tests n d told))) c.is_told_body.ensures
