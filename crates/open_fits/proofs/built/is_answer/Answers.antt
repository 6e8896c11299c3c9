use Rattle.std.proofs.Common.{◌≡◌}
use Rattle.std.proofs.lemmas.Result.{IfOk-weaker}
use Rattle.history.specs.Answers.{Body}
use Rattle.read_fits.specs.Bodies.{body_of}
use Rattle.open_fits.specs.Built.{IsToldSo}
use Rattle.open_fits.proofs.BuiltLaws.{told_by}
use Rattle.open_fits.proofs.built.is_answer.Goals as goal

pub returns : goal.returns
returns c =
    IfOk-weaker c.is_told.result _ (λ is. (answer : Body) → c.args.body ≡ body_of answer → IsToldSo c.args.told.now answer is)
    (λ is each. told_by c.args.told.now c.items.result.now c.args.body is c.items.ensures each) c.is_told.ensures
