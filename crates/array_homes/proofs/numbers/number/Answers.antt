use Rattle.std.proofs.Common.{◌≡◌, true, false, sym, ap, subst, ◌∙◌}
use Rattle.std.specs.Str.{IsUtf8}
use Rattle.std.proofs.lemmas.Str.{IsUtf8-from_ascii}
use Rattle.std.proofs.lemmas.Fmt.{IsAscii-decimal}
use Rattle.array_homes.specs.Names.{has_other_front}
use Rattle.array_homes.proofs.NumberLaws.{no_other_front}
use Rattle.array_homes.proofs.numbers.number.Goals as goal

pub returns-then-has_other_front-clause-none : goal.returns-then-has_other_front-clause-none
returns-then-has_other_front-clause-none c = λ e n small same.
    let clash : true ≡ false = sym c.if-has_other_front.true ∙ c.has_other_front.ensures ∙ ap has_other_front (sym same) ∙ no_other_front n small in
    absurd (cc)

pub returns-in-Err-clause-none : goal.returns-in-Err-clause-none
returns-in-Err-clause-none c = λ e n small same. c.in-Err.ensures.cases.0 (subst IsUtf8 same (IsUtf8-from_ascii _ (IsAscii-decimal n small)))
