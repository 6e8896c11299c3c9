use Rattle.std.proofs.Common.{◌≡◌, ◌+◌, ◌*◌, ◌∙◌, ℕ, ap, mul-add, arith}
use Rattle.std.proofs.lemmas.Bool.Decides.{nat_tests}
use Rattle.rebase_writes.proofs.rising.go_on.Goals as goal

pub returns-then-last-next : goal.returns-then-last-next
returns-then-last-next c = λ is_true k.
    let last = c.args.last.now in
    let next = c.args.next.now in
    let same : last.view_step ≡ next.view_step = omega (arith, c.if-last-next.true) in
    let end : last.view + last.view_step * last.len ≡ next.view = grind (arith, nat_tests, is_true) in
    omega (arith, mul-add last.view_step last.len k, ap (λ s. s * k) same, end)
