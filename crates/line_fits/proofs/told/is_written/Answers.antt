use Rattle.std.proofs.Common.{◌∷◌, [], ◌∙◌, ap, sym, length}
use Rattle.history.specs.Answers as old
use Rattle.std.proofs.lemmas.Result.{IfOk-weaker}
use Rattle.line_fits.proofs.OneAnswer.{told_without, written_done}
use Rattle.line_fits.proofs.told.is_written.Goals as goal

pub returns-in-Some : goal.returns-in-Some
returns-in-Some c =
    IfOk-weaker c.is_told_written.result _ _ (λ is tests number d told done. tests number d told (done ∙ c.in-Some.ensures.some)) c.is_told_written.ensures

pub returns-in-None : goal.returns-in-None
returns-in-None c = λ number d told done. (
  (λ yes_is. absurd (cc)),
  λ is. absurd (told_without (λ n. old.written c.args.cells (n ∷ [])) c.args.line c.args.text.now d (written_done c.args.cells c.args.line) (λ one. c.in-None.ensures.none (sym (ap length done) ∙ one)) is),
)
