use Rattle.std.proofs.Common.{◌∙◌, ℕ, length, take, sym, ap, Option, arith}
use Rattle.std.specs.Option.{unwrap_or}
use Rattle.std.proofs.lemmas.List.{take_all}
use Rattle.transform_json.proofs.write.before_zero.Goals as goal

pub returns-in-Some : goal.returns-in-Some
returns-in-Some c = ap (λ (o : Option ℕ). take (unwrap_or o (length c.args.sizes.now)) c.args.sizes.now) (sym c.in-Some.is ∙ c.first_zero.ensures.place)

pub returns-in-None : goal.returns-in-None
returns-in-None c =
    sym (take_all (length c.args.sizes.now) c.args.sizes.now (omega arith))
    ∙ ap (λ (o : Option ℕ). take (unwrap_or o (length c.args.sizes.now)) c.args.sizes.now) (sym c.in-None.is ∙ c.first_zero.ensures.place)
