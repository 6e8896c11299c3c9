use Rattle.std.proofs.Common.{◌≡◌, ◌≢◌, ◌-◌, ◌+◌, true, false, subst, arith}
use Rattle.std.specs.Prelude.{◌↔◌, IsTrue}
use Rattle.read_fits.specs.Conflicts.{IsOthers}
use Rattle.read_fits.proofs.ConflictLaws.{none_past}
use Rattle.read_fits.proofs.conflicts.is_others.Goals as goal

pub returns-then-number-eq0 : goal.returns-then-number-eq0
returns-then-number-eq0 c = (
  (λ so. absurd (let clash : false ≡ true = so in cc)),
  (λ is. let place = is.place in let none = c.if-number-eq0.true in absurd (omega (arith, place, none))),
)

pub returns-then-number-count : goal.returns-then-number-count
returns-then-number-count c = (
  (λ so. absurd (let clash : false ≡ true = so in cc)),
  (λ is. absurd (none_past c.args.events.now c.args.owner c.args.number (omega arith) is)),
)

pub returns : goal.returns
returns c =
    let some : c.args.number ≢ 0 = c.if-number-eq0.false in
    let back : (c.args.number - 1) + 1 ≡ c.args.number = omega (arith, some) in
    subst (λ n. IsTrue c.is_others_at.result ↔ IsOthers c.args.events.now c.args.owner n) back c.is_others_at.ensures
