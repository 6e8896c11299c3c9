use Rattle.std.proofs.Common.{◌≡◌, ◌↔◌}
use Rattle.std.specs.Prelude.{IsTrue}
use Rattle.std.specs.List.{AllByRecursion}
use Rattle.std.proofs.lemmas.Result.{IfOk-weaker}
use Rattle.history.specs.History.{History}
use Rattle.read_fits.specs.Outline.{outline}
use Rattle.open_fits.specs.Opens.{IsQuestion, IsRefusedAt}
use Rattle.open_fits.proofs.AskingLaws.{moved_all, moved_told}
use Rattle.open_fits.proofs.asking.are_refused.Goals as goal

pub are_refused_in_order-requires-clause-questions : goal.are_refused_in_order-requires-clause-questions
are_refused_in_order-requires-clause-questions c = moved_all (IsQuestion c.args.openings.now.events) c.args.questions.now c.sort_questions.new.questions c.sort_questions.ensures.permutation c.requires.questions

pub returns-clause-refused : goal.returns-clause-refused
returns-clause-refused c =
    IfOk-weaker c.are_refused_in_order.result _ (λ all. (history : History) → outline history ≡ c.args.openings.now.events → IsTrue all ↔ AllByRecursion (IsRefusedAt history) c.args.questions.now)
    (λ all told history same. moved_told (IsRefusedAt history) c.args.questions.now c.sort_questions.new.questions all c.sort_questions.ensures.permutation (told history same)) c.are_refused_in_order.ensures
