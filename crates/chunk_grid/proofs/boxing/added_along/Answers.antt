use Rattle.std.proofs.Common.{◌≡◌, ◌∙◌, ◌+◌, ◌≤◌, ap, sym, pos, ◌+ℤ◌, ◌^◌, ℤ, get_or, FitsSigned, unsigned_abs, length, arith, rules, subst}
use mir.Syntax.{w128}
use Rattle.std.specs.List.{AllByRecursion}
use Rattle.std.proofs.Math.ListN.{set}
use Rattle.std.proofs.lemmas.Int.{to_z-of_z}
use Rattle.chunk_grid.proofs.StepLaws.{added_set, all_added, all_wider}
use Rattle.chunk_grid.proofs.boxing.added_along.Goals as goal

pub returns-then-dim-len-clause-value : goal.returns-then-dim-len-clause-value
returns-then-dim-len-clause-value c =
    let fits : FitsSigned w128 c.sum.result = search rules in
    let is : c.sum.result ≡ get_or c.args.steps.items c.args.dim (pos 0) +ℤ c.args.by = search rules in
    ap (λ (x : ℤ). set c.args.steps.items c.args.dim x) (to_z-of_z w128 c.sum.result fits ∙ is) ∙ added_set c.args.dim c.args.by c.args.steps.items (let z = ap length c.deref.ensures.value in omega (arith, z, c.deref.ensures.len, c.len.ensures, c.if-dim-len.true))

pub returns-then-dim-len-clause-small : goal.returns-then-dim-len-clause-small
returns-then-dim-len-clause-small c = λ n a.
    let fits : FitsSigned w128 c.sum.result = search rules in
    let is : c.sum.result ≡ get_or c.args.steps.items c.args.dim (pos 0) +ℤ c.args.by = search rules in
    let value = ap (λ (x : ℤ). set c.args.steps.items c.args.dim x) (to_z-of_z w128 c.sum.result fits ∙ is) ∙ added_set c.args.dim c.args.by c.args.steps.items (let z = ap length c.deref.ensures.value in omega (arith, z, c.deref.ensures.len, c.len.ensures, c.if-dim-len.true)) in
    subst (AllByRecursion (λ (x : ℤ). unsigned_abs x ≤ n + 2 ^ 87)) (sym value) (all_added c.args.dim c.args.by c.args.steps.items n (2 ^ 87) c.requires.step a)

pub returns-else-dim-len-clause-small : goal.returns-else-dim-len-clause-small
returns-else-dim-len-clause-small c = λ n a. all_wider c.args.steps.items n (2 ^ 87) a
