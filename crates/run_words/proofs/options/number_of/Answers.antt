use Rattle.std.proofs.Common.{◌≡◌, true, false, sym, ◌∙◌}
use Rattle.run_words.proofs.Numbers.{digits_pass}
use Rattle.run_words.proofs.options.number_of.Goals as goal

pub returns-then-not-are_digits-clause-none : goal.returns-then-not-are_digits-clause-none
returns-then-not-are_digits-clause-none c = λ e takes.
    let clash : true ≡ false = sym (digits_pass c.args.value.now takes.numeral.1) ∙ sym c.are_digits.ensures ∙ c.if-not-are_digits.true in
    absurd (cc)
