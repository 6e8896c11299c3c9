use Rattle.std.proofs.Common.{◌≡◌, ◌↔◌, ◌∙◌, Some, ap}
use Rattle.std.specs.Prelude.{IsTrue}
use Rattle.std.proofs.lemmas.Result.{IfOk-weaker}
use Rattle.history.specs.History.{History}
use Rattle.read_fits.specs.Outline.{outline}
use Rattle.open_fits.specs.Opens.{IsRefusedFrom}
use Rattle.open_fits.proofs.RefusalLaws.{stored_there, given_there, never_told}
use Rattle.open_fits.proofs.asking.is_leaf_refused.Goals as goal

pub returns-in-Stored : goal.returns-in-Stored
returns-in-Stored c =
    let q = c.args.question.now in
    IfOk-weaker c.is_asked_refused.result _ (λ is. (history : History) → outline history ≡ c.args.openings.now.events → IsTrue is ↔ IsRefusedFrom history q c.args.place)
    (λ is told history same. stored_there history q c.args.place c.in-Stored.asked is (c.wanted_at.ensures ∙ ap Some c.in-Stored.is) (told history same)) c.is_asked_refused.ensures

pub returns-in-Given : goal.returns-in-Given
returns-in-Given c = λ history same. never_told (IsRefusedFrom history c.args.question.now c.args.place) (given_there history c.args.question.now c.args.place c.in-Given.start (c.wanted_at.ensures ∙ ap Some c.in-Given.is))
