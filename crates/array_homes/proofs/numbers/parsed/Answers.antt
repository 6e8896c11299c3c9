use Rattle.std.proofs.Common.{sym, ◌∙◌}
use Rattle.std.proofs.lemmas.Fmt.{parse-decimal}
use Rattle.array_homes.proofs.NumberLaws.{parsed_number}
use Rattle.array_homes.proofs.numbers.parsed.Goals as goal

pub returns-in-Ok-clause-some : goal.returns-in-Ok-clause-some
returns-in-Ok-clause-some c = parsed_number c.args.text.now c.in-Ok.n c.parse.result c.requires c.parse.ensures.value.0 c.in-Ok.is

pub returns-in-Err-clause-none : goal.returns-in-Err-clause-none
returns-in-Err-clause-none c = λ e n small same.
    let parses = parse-decimal 64 n c.args.text.now c.parse.result small small (sym same) c.parse.ensures.value.0 in
    let clash = sym parses ∙ c.in-Err.is in
    absurd (cc)
