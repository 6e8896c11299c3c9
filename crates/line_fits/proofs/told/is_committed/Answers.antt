use Rattle.std.proofs.Common.{◌∷◌, [], ◌∙◌, ap, sym, length}
use Rattle.history.specs.Answers as old
use Rattle.std.proofs.lemmas.Result.{IfOk-weaker}
use Rattle.line_fits.proofs.OneAnswer.{told_without, committed_done}
use Rattle.line_fits.proofs.told.is_committed.Goals as goal

pub returns-in-Some : goal.returns-in-Some
returns-in-Some c =
    IfOk-weaker c.is_told_committed.result _ _ (λ is tests number d told done. tests number d told (done ∙ c.in-Some.ensures.some)) c.is_told_committed.ensures

pub returns-in-None : goal.returns-in-None
returns-in-None c = λ number d told done. (
  (λ yes_is. absurd (cc)),
  λ is. absurd (told_without (λ n. old.committed (n ∷ [])) c.args.line c.args.text.now d (committed_done c.args.line) (λ one. c.in-None.ensures.none (sym (ap length done) ∙ one)) is),
)
