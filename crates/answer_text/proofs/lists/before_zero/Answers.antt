use Rattle.std.proofs.Common.{◌∙◌, ℕ, length, take, sym, ap, Option, arith}
use Rattle.std.specs.Option.{unwrap_or}
use Rattle.std.proofs.lemmas.List.{take_all}
use Rattle.answer_text.proofs.lists.before_zero.Goals as goal

pub returns-in-Some : goal.returns-in-Some
returns-in-Some c = ap (λ (o : Option ℕ). take (unwrap_or o (length c.args.shape.now)) c.args.shape.now) (sym c.in-Some.is ∙ c.first_zero.ensures.place)

pub returns-in-None : goal.returns-in-None
returns-in-None c =
    sym (take_all (length c.args.shape.now) c.args.shape.now (omega arith))
    ∙ ap (λ (o : Option ℕ). take (unwrap_or o (length c.args.shape.now)) c.args.shape.now) (sym c.in-None.is ∙ c.first_zero.ensures.place)
