use Rattle.std.proofs.Common.{arith, ◌≡◌, ◌∙◌, ℕ, ◌+◌, ◌-◌, ◌*◌, ◌%◌, ◌<◌, ◌≤◌, sym, ap}
use Rattle.std.proofs.lemmas.Nat.{mod-mul-add}
use Rattle.cells.proofs.places.divided.Goals as goal

rest_is : (x g n first : ℕ) → first ≡ g * n → first ≤ x → x - first < n → x - first ≡ x % n
rest_is x g n first is low small =
    let whole : x ≡ g * n + (x - first) = omega (arith, is, low) in
    sym (ap (λ y. y % n) whole ∙ mod-mul-add g n (x - first) small)

pub returns-then-x-first-clause-remainder : goal.returns-then-x-first-clause-remainder
returns-then-x-first-clause-remainder c = rest_is c.args.x c.args.guess c.args.size c.in-Some.first c.in-Some.ensures.1 c.if-first-x.true c.if-x-first.true
