use Rattle.std.proofs.Common.{◌≡◌, ◌∙◌, ◌+◌, ◌/◌, ◌<◌, ◌^◌, get_or, sym, ap, arith, eqb-true, eq-eqb}
use Rattle.rebase_writes.specs.Marks.{is_marked}
use Rattle.rebase_writes.proofs.MarkLaws.{full_word}
use Rattle.rebase_writes.proofs.marks.is_full.Goals as goal

pub returns : goal.returns
returns c =
    let marks = c.args.marks.now in
    let at = c.requires.at.0 in
    let by : c.args.place / 64 ≡ at = omega (arith, c.requires.at.1) in
    let word : get_or marks (c.args.place / 64) 0 ≡ get_or marks at 0 = ap (λ n. get_or marks n 0) by in
    let small : get_or marks at 0 < 2 ^ 64 = omega (arith, c.type_inv.marks at) in
    let all = full_word marks at small in (
      λ is_true k less. ap (λ p. is_marked marks (p + k)) c.requires.at.1 ∙ all.0 (sym word ∙ eqb-true (get_or marks (c.args.place / 64) 0) 18446744073709551615 is_true) k less,
      λ each. eq-eqb (get_or marks (c.args.place / 64) 0) 18446744073709551615 (word ∙ all.1 (λ k less. sym (ap (λ p. is_marked marks (p + k)) c.requires.at.1) ∙ each k less)),
    )
