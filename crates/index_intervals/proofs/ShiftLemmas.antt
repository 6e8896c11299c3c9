-- The shifted interval's bounds and members.
use Rattle.std.proofs.Common.{◌≡◌, ℤ, ◌+ℤ◌, ◌↔◌, Bool, true, false, cond, refl, arith}
use Rattle.std.proofs.lemmas.Int.{ints}
use Rattle.index_intervals.specs.Bounds.{Bounds, AreBounds, IsIndex, is_index}
use Rattle.index_intervals.specs.Members.{IsMember}
use Rattle.index_intervals.specs.Shift.{shifted, CanShift}
use Rattle.index_intervals.proofs.MemberLemmas.{is_index-true, lo_infinite, hi_infinite}

pub AreBounds-shifted : (b : Bounds) (by : ℤ) → AreBounds b → CanShift b by → AreBounds (shifted b by)
AreBounds-shifted b by p q = shape (is_index b.lo) (is_index b.hi) refl refl
  where
    shape : (f g : Bool) → is_index b.lo ≡ f → is_index b.hi ≡ g
        → AreBounds (record b { lo = cond f (b.lo +ℤ by) b.lo; hi = cond g (b.hi +ℤ by) b.hi })
    shape true true d e =
        let l = q.lo (is_index-true b.lo d) in
        let h = q.hi (is_index-true b.hi e) in
        record { lo_from = omega (arith, ints); lo_below = omega (arith, ints); hi_above = omega (arith, ints); hi_to = omega (arith, ints); ordered = omega (arith, ints) }
    shape true false d e =
        let l = q.lo (is_index-true b.lo d) in
        let h = hi_infinite b p e in
        record { lo_from = omega (arith, ints); lo_below = omega (arith, ints); hi_above = omega (arith, ints); hi_to = omega (arith, ints); ordered = omega (arith, ints) }
    shape false true d e =
        let l = lo_infinite b p d in
        let h = q.hi (is_index-true b.hi e) in
        record { lo_from = omega (arith, ints); lo_below = omega (arith, ints); hi_above = omega (arith, ints); hi_to = omega (arith, ints); ordered = omega (arith, ints) }
    shape false false d e = p

pub IsMember-shifted : (b : Bounds) (by : ℤ) → AreBounds b → (x : ℤ) → IsIndex x → IsIndex (x +ℤ by)
    → IsMember (shifted b by) (x +ℤ by) ↔ IsMember b x
IsMember-shifted b by p x i j = shape (is_index b.lo) (is_index b.hi) refl refl
  where
    shape : (f g : Bool) → is_index b.lo ≡ f → is_index b.hi ≡ g
        → IsMember (record b { lo = cond f (b.lo +ℤ by) b.lo; hi = cond g (b.hi +ℤ by) b.hi }) (x +ℤ by) ↔ IsMember b x
    shape true true d e = (
      (λ m. record { index = i; above_lo = omega (arith, ints); below_hi = omega (arith, ints) }),
      (λ m. record { index = j; above_lo = omega (arith, ints); below_hi = omega (arith, ints) }),
    )
    shape true false d e =
        let h = hi_infinite b p e in (
          (λ m. record { index = i; above_lo = omega (arith, ints); below_hi = omega (arith, ints) }),
          (λ m. record { index = j; above_lo = omega (arith, ints); below_hi = omega (arith, ints) }),
        )
    shape false true d e =
        let l = lo_infinite b p d in (
          (λ m. record { index = i; above_lo = omega (arith, ints); below_hi = omega (arith, ints) }),
          (λ m. record { index = j; above_lo = omega (arith, ints); below_hi = omega (arith, ints) }),
        )
    shape false false d e =
        let l = lo_infinite b p d in
        let h = hi_infinite b p e in (
          (λ m. record { index = i; above_lo = omega (arith, ints); below_hi = omega (arith, ints) }),
          (λ m. record { index = j; above_lo = omega (arith, ints); below_hi = omega (arith, ints) }),
        )
