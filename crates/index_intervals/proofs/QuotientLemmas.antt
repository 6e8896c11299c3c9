-- Quotients by a positive number, rounded down and up.
use Rattle.std.proofs.Common.{◌≡◌, ◌∙◌, ap, zero, suc, ℕ, ◌<◌, ◌≤◌, ℤ, pos, negsuc, neg_ℤ, ◌≤ℤ◌, ◌<ℤ◌, ◌+ℤ◌, ◌*ℤ◌, ◌↔◌, arith}
use Rattle.std.proofs.lemmas.Int.{ints, by_lt_z}
use Rattle.std.proofs.Math.Nat.{mul-le-mul_right}
use Rattle.std.proofs.Math.IntN.{+ℤ_one, -ℤ_one, +ℤ_idr, +ℤ-suc_ℤ, +ℤ-pred_ℤ, suc_ℤ-*ℤ, pred_ℤ-*ℤ, zero-*ℤ}
use Rattle.std.proofs.lemmas.Nat.{div-add-mod', mod_below}
use Rattle.std.specs.Int.{int_div_euclid}
use Rattle.index_intervals.specs.Stride.{quotient_down, quotient_up, IsQuotientDown, IsQuotientUp}

-- a product of two naturals and of a negative number with a natural
IsQuotientDown-pos : (x : ℤ) (k : ℕ) → 0 < k → IsQuotientDown x (pos k) (quotient_down x (pos k))
IsQuotientDown-pos (pos a) k h =
    let e = div-add-mod' a k in
    let l = mod_below a k h in
    record { at_most = omega (arith, ints); greatest = omega (arith, ints) }
IsQuotientDown-pos (negsuc a) k h =
    let e = div-add-mod' a k in
    let l = mod_below a k h in
    record { at_most = omega (arith, ints); greatest = omega (arith, ints) }

pub IsQuotientDown-quotient_down : (x n : ℤ) → pos 0 <ℤ n → IsQuotientDown x n (quotient_down x n)
IsQuotientDown-quotient_down x (pos k) h = IsQuotientDown-pos x k (omega (arith, ints))
IsQuotientDown-quotient_down x (negsuc k) h = absurd (omega (arith, ints))

-- a negated factor negates the product
pub neg-*ℤ : (q n : ℤ) → neg_ℤ q *ℤ n ≡ neg_ℤ (q *ℤ n)
neg-*ℤ (pos zero) (pos k) = omega (arith, ints)
neg-*ℤ (pos zero) (negsuc k) = omega (arith, ints)
neg-*ℤ (pos (suc a)) (pos k) = omega (arith, ints)
neg-*ℤ (pos (suc a)) (negsuc k) = omega (arith, ints)
neg-*ℤ (negsuc a) (pos k) = omega (arith, ints)
neg-*ℤ (negsuc a) (negsuc k) = omega (arith, ints)

-- one more in a factor adds the other
pub suc-*ℤ : (q n : ℤ) → (q +ℤ pos 1) *ℤ n ≡ q *ℤ n +ℤ n
suc-*ℤ q n = (ap (λ (z : ℤ). z *ℤ n) (+ℤ_one q)) ∙ suc_ℤ-*ℤ q n

pub IsQuotientUp-quotient_up : (x n : ℤ) → pos 0 <ℤ n → IsQuotientUp x n (quotient_up x n)
IsQuotientUp-quotient_up x n h =
    let d = IsQuotientDown-quotient_down (neg_ℤ x) n h in
    let e = neg-*ℤ (int_div_euclid (neg_ℤ x) n) n in
    record { at_least = omega (arith, ints, d.at_most, d.greatest); least = omega (arith, ints, d.at_most, d.greatest) }

-- a greater number has the greater multiple
pub mul_mono : (x y n : ℤ) → pos 0 <ℤ n → x ≤ℤ y → (x *ℤ n) ≤ℤ (y *ℤ n)
mul_mono x y (negsuc k) h l = absurd (omega (arith, ints))
mul_mono (pos a) (pos b) (pos k) h l =
    let e : a ≤ b = omega (arith, ints) in
    let m = mul-le-mul_right k e in
    omega (arith, ints)
mul_mono (pos a) (negsuc b) (pos k) h l = absurd (omega (arith, ints))
mul_mono (negsuc a) (pos b) (pos k) h l = omega (arith, ints)
mul_mono (negsuc a) (negsuc b) (pos k) h l =
    let e : suc b ≤ suc a = omega (arith, ints) in
    let m = mul-le-mul_right k e in
    omega (arith, ints)

-- and only a greater number has it
pub mul_mono_lt : (x y n : ℤ) → pos 0 <ℤ n → (x *ℤ n) <ℤ (y *ℤ n) → x <ℤ y
mul_mono_lt x y n h l = by_lt_z x y (λ p. p) (λ p. let m = mul_mono y x n h p in absurd (omega (arith, ints)))

-- a number is at least the quotient rounded up exactly where its multiple is at least the dividend
pub quotient_up_least : (v n q x : ℤ) → pos 0 <ℤ n → IsQuotientUp v n q → (q ≤ℤ x) ↔ (v ≤ℤ (x *ℤ n))
quotient_up_least v n q x h u = (
  (λ l. let m = mul_mono q x n h l in omega (arith, ints, u.at_least)),
  (λ l. by_lt_z x q
      (λ p.
      let m = mul_mono (x +ℤ pos 1) q n h (omega (arith, ints)) in
      let e = suc-*ℤ x n in
      omega (arith, ints, u.least))
      (λ p. p)),
)

-- and at most the quotient rounded down exactly where its multiple is at most the dividend
pub quotient_down_greatest : (v n q x : ℤ) → pos 0 <ℤ n → IsQuotientDown v n q → (x ≤ℤ q) ↔ ((x *ℤ n) ≤ℤ v)
quotient_down_greatest v n q x h u = (
  (λ l. let m = mul_mono x q n h l in omega (arith, ints, u.at_most)),
  (λ l. by_lt_z q x
      (λ p.
      let m = mul_mono (q +ℤ pos 1) x n h (omega (arith, ints)) in
      let e = suc-*ℤ q n in
      omega (arith, ints, u.greatest))
      (λ p. p)),
)

-- a product of a sum, of a negated factor, and of a difference
pub add-*ℤ : (a b n : ℤ) → (a +ℤ b) *ℤ n ≡ a *ℤ n +ℤ b *ℤ n
add-*ℤ a (pos zero) n = omega (arith, ints, zero-*ℤ n, ap (λ (z : ℤ). z *ℤ n) (+ℤ_idr a))
add-*ℤ a (pos (suc k)) n =
    let i = add-*ℤ a (pos k) n in
    let e = ap (λ (z : ℤ). z *ℤ n) (+ℤ-suc_ℤ a (pos k)) in
    let f = suc_ℤ-*ℤ (a +ℤ pos k) n in
    let g = suc_ℤ-*ℤ (pos k) n in
    omega (arith, ints, i, e, f, g)
add-*ℤ a (negsuc zero) n =
    let e = ap (λ (z : ℤ). z *ℤ n) (-ℤ_one a) in
    let f = pred_ℤ-*ℤ a n in
    let g = pred_ℤ-*ℤ (pos zero) n in
    let h = zero-*ℤ n in
    omega (arith, ints, e, f, g, h)
add-*ℤ a (negsuc (suc k)) n =
    let i = add-*ℤ a (negsuc k) n in
    let e = ap (λ (z : ℤ). z *ℤ n) (+ℤ-pred_ℤ a (negsuc k)) in
    let f = pred_ℤ-*ℤ (a +ℤ negsuc k) n in
    let g = pred_ℤ-*ℤ (negsuc k) n in
    omega (arith, ints, i, e, f, g)

-- equal multiples are of equal numbers
pub mul_cancel : (x y n : ℤ) → pos 0 <ℤ n → x *ℤ n ≡ y *ℤ n → x ≡ y
mul_cancel x y n h e = by_lt_z x y
    (λ p.
    let m = mul_mono (x +ℤ pos 1) y n h (omega (arith, ints)) in
    let s = suc-*ℤ x n in
    absurd (omega (arith, ints)))
    (λ p. by_lt_z y x
    (λ q.
    let m = mul_mono (y +ℤ pos 1) x n h (omega (arith, ints)) in
    let s = suc-*ℤ y n in
    absurd (omega (arith, ints)))
    (λ q. omega (arith, ints)))
