use Rattle.std.proofs.Common.{◌∙◌, Some, sym, ap}
use Rattle.std.proofs.lemmas.Result.{IfOk-weaker}
use Rattle.stated_history.proofs.Laws.{kept_is}
use Rattle.transcript_fits.proofs.acts.copy_of.Goals as goal

pub returns-in-Some : goal.returns-in-Some
returns-in-Some c = IfOk-weaker c.copy.result _ _ (λ copy is a same. c.in-Some.is ∙ ap Some (sym (kept_is c.in-Some.act a (sym is ∙ same)))) c.copy.ensures
