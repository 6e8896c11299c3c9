-- The parts of a slice as the code computes them.
use Rattle.std.proofs.Common.{◌≡◌, ◌≢◌, zero, suc, ℕ, ◌/◌, ◌≤◌, ℤ, pos, negsuc, neg_ℤ, ◌+ℤ◌, ◌-ℤ◌, ◌*ℤ◌, Bool, true, false, cond, ◌&&◌, refl, arith, unsigned_abs, FitsSigned, w64}
use Rattle.std.proofs.Math.Nat.{div-le_self}
use Rattle.std.proofs.Math.IntN.{*ℤ_comm}
use Rattle.std.proofs.lemmas.Int.{ints, quot-rem, fits_signed_from_abs}
use Rattle.std.proofs.lemmas.Bool.Decides.{Decides-int_eq}
use Rattle.std.specs.Int.{is_negative}
use Rattle.std.specs.Int.RustNames.{int_div, int_rem}
use Rattle.std.specs.Ordering.{int_eq}
use Rattle.index_intervals.specs.Bounds.{Bounds}
use Rattle.index_intervals.specs.Slice.{IsNearIndex, covers, is_inside, slice_lo}

-- a quotient is no greater than its dividend
pub unsigned_abs-int_div : (a d : ℤ) → unsigned_abs (int_div a d) ≤ unsigned_abs a
unsigned_abs-int_div (pos a) (pos b) = div-le_self a b
unsigned_abs-int_div (pos a) (negsuc b) = negated (a / suc b) a (div-le_self a (suc b))
  where
    negated : (m n : ℕ) → m ≤ n → unsigned_abs (neg_ℤ (pos m)) ≤ n
    negated zero n h = h
    negated (suc m) n h = h
unsigned_abs-int_div (negsuc a) (pos b) = negated (suc a / b) (suc a) (div-le_self (suc a) b)
  where
    negated : (m n : ℕ) → m ≤ n → unsigned_abs (neg_ℤ (pos m)) ≤ n
    negated zero n h = h
    negated (suc m) n h = h
unsigned_abs-int_div (negsuc a) (negsuc b) = div-le_self (suc a) (suc b)

pub FitsSigned-int_div : (a d : ℤ) → IsNearIndex a → FitsSigned w64 (int_div a d)
FitsSigned-int_div a d h = fits_signed_from_abs w64 (int_div a d) (omega (arith, ints, h.above, h.below, unsigned_abs-int_div a d))

-- what is left of the start
pub int_rem-slice_lo : (step from : ℤ) → int_rem from step ≡ from -ℤ step *ℤ slice_lo step from
int_rem-slice_lo step from = omega (arith, ints, quot-rem from step, *ℤ_comm step (int_div from step))

-- the test of two numbers
pub int_eq-false : (x y : ℤ) → x ≢ y → int_eq x y ≡ false
int_eq-false x y n = told (int_eq x y) refl
  where
    told : (b : Bool) → int_eq x y ≡ b → b ≡ false
    told true e = absurd (n ((Decides-int_eq x y).0 e))
    told false e = refl

pub int_eq-true : (x y : ℤ) → x ≡ y → int_eq x y ≡ true
int_eq-true x y e = (Decides-int_eq x y).1 e

-- the two kinds of range
pub is_inside-far : (b : Bounds) (step from to : ℤ) → is_negative step ≡ true → from ≢ to
    → is_inside b step from to ≡ covers b (to +ℤ pos 1) from
is_inside-far b step from to h n = rw (h, int_eq-false from to n) refl

pub is_inside-up : (b : Bounds) (step from to : ℤ) → is_negative step ≡ false
    → is_inside b step from to ≡ covers b from (to -ℤ pos 1)
is_inside-up b step from to h = rw h refl

pub is_inside-empty : (b : Bounds) (step from to : ℤ) → from ≡ to
    → is_inside b step from to ≡ covers b from (to -ℤ pos 1)
is_inside-empty b step from to h = rw (int_eq-true from to h) (either (is_negative step))
  where
    either : (n : Bool) → cond (n && false) (covers b (to +ℤ pos 1) from) (covers b from (to -ℤ pos 1)) ≡ covers b from (to -ℤ pos 1)
    either true = refl
    either false = refl
