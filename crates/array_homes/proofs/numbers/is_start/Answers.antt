use Rattle.std.proofs.Common.{◌≡◌, ◌*◌, ◌≤◌, ◌-◌, ◌^◌, sym, subst, ◌∙◌}
use Rattle.std.proofs.lemmas.Fmt.{decimal_injective}
use Rattle.array_homes.proofs.NameLaws.{start_small}
use Rattle.array_homes.proofs.numbers.is_start.Goals as goal

pub returns-in-Some : goal.returns-in-Some
returns-in-Some c =
    let n = c.in-Some.c in
    let told = c.in-Some.ensures.some in (
      λ t. (n, c.begins_finite.ensures.0 t, told.1),
      λ start.
          let small = start_small c.args.size start.0 c.requires start.1 in
          let same : start.0 ≡ n = decimal_injective start.0 n small told.0 (start.2 ∙ sym told.1) in
          c.begins_finite.ensures.1 (subst (λ m. m * c.args.size ≤ 2 ^ 62 - 2) same start.1),
    )
