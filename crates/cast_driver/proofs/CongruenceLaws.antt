-- Congruence modulo powers of 2, one step after another.
use Rattle.std.proofs.Common.{◌≡◌, ℕ, zero, suc, ◌^◌, ◌-◌, ◌+◌, ◌*◌, ◌≤◌, min, ℤ, pos, negsuc, ◌+ℤ◌, ◌*ℤ◌, ◌∙◌, ap, arith}
use Rattle.std.proofs.Math.Nat.{min-le_left, min-le_right}
use Rattle.std.proofs.Math.IntN.{+ℤ_idr, -ℤ_one, +ℤ-suc_ℤ, +ℤ-pred_ℤ, suc_ℤ-*ℤ, pred_ℤ-*ℤ, zero-*ℤ}
use Rattle.std.proofs.lemmas.Nat.{pow-add}
use Rattle.std.proofs.lemmas.Int.{ints}
use Rattle.cells.specs.Numbers.{IsCongruent}

-- a multiple of a sum
add-*ℤ : (a b n : ℤ) → (a +ℤ b) *ℤ n ≡ a *ℤ n +ℤ b *ℤ n
add-*ℤ a (pos zero) n = omega (arith, ints, zero-*ℤ n, ap (λ (z : ℤ). z *ℤ n) (+ℤ_idr a))
add-*ℤ a (pos (suc k)) n =
    let front = add-*ℤ a (pos k) n in
    let more = ap (λ (z : ℤ). z *ℤ n) (+ℤ-suc_ℤ a (pos k)) in
    omega (arith, ints, front, more, suc_ℤ-*ℤ (a +ℤ pos k) n, suc_ℤ-*ℤ (pos k) n)
add-*ℤ a (negsuc zero) n =
    let less = ap (λ (z : ℤ). z *ℤ n) (-ℤ_one a) in
    omega (arith, ints, less, pred_ℤ-*ℤ a n, pred_ℤ-*ℤ (pos zero) n, zero-*ℤ n)
add-*ℤ a (negsuc (suc k)) n =
    let front = add-*ℤ a (negsuc k) n in
    let less = ap (λ (z : ℤ). z *ℤ n) (+ℤ-pred_ℤ a (negsuc k)) in
    omega (arith, ints, front, less, pred_ℤ-*ℤ (a +ℤ negsuc k) n, pred_ℤ-*ℤ (negsuc k) n)

-- a multiple of a multiple
mul-pos : (times : ℤ) (m n : ℕ) → (times *ℤ pos m) *ℤ pos n ≡ times *ℤ pos (m * n)
mul-pos (pos zero) m n = omega (arith, ints)
mul-pos (pos (suc k)) m n =
    let front = mul-pos (pos k) m n in
    let more = ap (λ (z : ℤ). z *ℤ pos n) (suc_ℤ-*ℤ (pos k) (pos m)) in
    omega (arith, ints, front, more, add-*ℤ (pos k *ℤ pos m) (pos m) (pos n), suc_ℤ-*ℤ (pos k) (pos (m * n)))
mul-pos (negsuc zero) m n =
    let one = ap (λ (z : ℤ). z *ℤ pos n) (pred_ℤ-*ℤ (pos zero) (pos m)) in
    let back = add-*ℤ (negsuc 0 *ℤ pos m) (pos m) (pos n) in
    let none = ap (λ (z : ℤ). z *ℤ pos n) (let same : negsuc 0 *ℤ pos m +ℤ pos m ≡ pos 0 = omega (arith, ints, pred_ℤ-*ℤ (pos zero) (pos m), zero-*ℤ (pos m)) in same) in
    omega (arith, ints, one, back, none, pred_ℤ-*ℤ (pos zero) (pos (m * n)), zero-*ℤ (pos n))
mul-pos (negsuc (suc k)) m n =
    let front = mul-pos (negsuc k) m n in
    let back = add-*ℤ (negsuc (suc k) *ℤ pos m) (pos m) (pos n) in
    let more = ap (λ (z : ℤ). z *ℤ pos n) (let same : negsuc (suc k) *ℤ pos m +ℤ pos m ≡ negsuc k *ℤ pos m = omega (arith, ints, pred_ℤ-*ℤ (negsuc k) (pos m)) in same) in
    omega (arith, ints, front, back, more, pred_ℤ-*ℤ (negsuc k) (pos (m * n)))

-- each number is congruent to itself
pub IsCongruent-refl : (modulus : ℕ) (number : ℤ) → IsCongruent modulus number number
IsCongruent-refl modulus number = record { multiple = (pos 0, omega (arith, ints)) }

pub IsCongruent-trans : (modulus : ℕ) (a b c : ℤ) → IsCongruent modulus a b → IsCongruent modulus b c → IsCongruent modulus a c
IsCongruent-trans modulus a b c first second = record {
  multiple = (
    second.multiple.0 +ℤ first.multiple.0,
    omega (arith, ints, first.multiple.1, second.multiple.1, add-*ℤ second.multiple.0 first.multiple.0 (pos modulus)),
  );
}

-- what is congruent modulo a greater power of 2 is so modulo a smaller one
pub IsCongruent-fewer : (few many : ℕ) (one other : ℤ) → few ≤ many → IsCongruent (2 ^ many) one other → IsCongruent (2 ^ few) one other
IsCongruent-fewer few many one other fits is =
    let parts : many ≡ (many - few) + few = omega arith in
    let split = ap (λ (n : ℕ). is.multiple.0 *ℤ pos n) (ap (λ (n : ℕ). 2 ^ n) parts ∙ pow-add 2 (many - few) few) in
    record {
      multiple = (
        is.multiple.0 *ℤ pos (2 ^ (many - few)),
        omega (arith, ints, is.multiple.1, split, mul-pos is.multiple.0 (2 ^ (many - few)) (2 ^ few)),
      );
    }

-- two steps, each congruent modulo a power of 2, are congruent modulo the smaller one
pub IsCongruent-steps : (m n : ℕ) (a b c : ℤ) → IsCongruent (2 ^ m) a b → IsCongruent (2 ^ n) b c → IsCongruent (2 ^ min m n) a c
IsCongruent-steps m n a b c first second =
    IsCongruent-trans _ a b c (IsCongruent-fewer (min m n) m a b (min-le_left m n) first) (IsCongruent-fewer (min m n) n b c (min-le_right m n) second)
