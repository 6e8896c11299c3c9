-- Products of whole numbers.
use Rattle.std.proofs.Common.{◌≡◌, ◌≢◌, ◌∙◌, zero, suc, ℕ, ◌≤◌, sym, ap, arith, ℤ, pos, negsuc, ◌+ℤ◌, ◌-ℤ◌, ◌*ℤ◌, ◌≤ℤ◌, unsigned_abs}
use Rattle.std.proofs.lemmas.Int.{ints, unsigned_abs-mul}
use Rattle.std.proofs.lemmas.Nat.{mul-le}
use Rattle.std.proofs.Math.IntN.{suc_ℤ-*ℤ, pred_ℤ-*ℤ, zero-*ℤ, *ℤ_comm}
use Rattle.index_intervals.proofs.Laws.{add-*ℤ, neg-*ℤ, mul_mono}

-- a product of a difference
sub-*ℤ : (a b n : ℤ) → (a -ℤ b) *ℤ n ≡ a *ℤ n -ℤ b *ℤ n
sub-*ℤ a b n =
    let e = add-*ℤ (a -ℤ b) b n in
    let f : (a -ℤ b) +ℤ b ≡ a = omega (arith, ints) in
    let g = ap (λ (z : ℤ). z *ℤ n) f in
    omega (arith, ints, e, g)

pub *ℤ_assoc : (a b c : ℤ) → (a *ℤ b) *ℤ c ≡ a *ℤ (b *ℤ c)
*ℤ_assoc (pos zero) b c = ap (λ (z : ℤ). z *ℤ c) (zero-*ℤ b) ∙ zero-*ℤ c ∙ sym (zero-*ℤ (b *ℤ c))
*ℤ_assoc (pos (suc k)) b c =
    let i = *ℤ_assoc (pos k) b c in
    let e = ap (λ (z : ℤ). z *ℤ c) (suc_ℤ-*ℤ (pos k) b) in
    let f = add-*ℤ (pos k *ℤ b) b c in
    let g = suc_ℤ-*ℤ (pos k) (b *ℤ c) in
    omega (arith, ints, i, e, f, g)
*ℤ_assoc (negsuc zero) b c =
    let e = ap (λ (z : ℤ). z *ℤ c) (pred_ℤ-*ℤ (pos zero) b) in
    let f = sub-*ℤ (pos zero *ℤ b) b c in
    let g = pred_ℤ-*ℤ (pos zero) (b *ℤ c) in
    let h = ap (λ (z : ℤ). z *ℤ c) (zero-*ℤ b) ∙ zero-*ℤ c in
    let k = zero-*ℤ (b *ℤ c) in
    omega (arith, ints, e, f, g, h, k)
*ℤ_assoc (negsuc (suc k)) b c =
    let i = *ℤ_assoc (negsuc k) b c in
    let e = ap (λ (z : ℤ). z *ℤ c) (pred_ℤ-*ℤ (negsuc k) b) in
    let f = sub-*ℤ (negsuc k *ℤ b) b c in
    let g = pred_ℤ-*ℤ (negsuc k) (b *ℤ c) in
    omega (arith, ints, i, e, f, g)

-- an offset and a stride over an offset and a stride
pub multiplied_out : (o s p q x : ℤ) → (o +ℤ s *ℤ p) +ℤ (s *ℤ q) *ℤ x ≡ o +ℤ s *ℤ (p +ℤ q *ℤ x)
multiplied_out o s p q x =
    let a = *ℤ_assoc s q x in
    let b = *ℤ_comm s (p +ℤ q *ℤ x) in
    let c = add-*ℤ p (q *ℤ x) s in
    let d = *ℤ_comm p s in
    let e = *ℤ_comm (q *ℤ x) s in
    omega (arith, ints, a, b, c, d, e)

-- strides other than 0 have a product other than 0
pub product_nonzero : (s q : ℤ) → s ≢ pos 0 → q ≢ pos 0 → s *ℤ q ≢ pos 0
product_nonzero s q h i = λ e.
    let a : 1 ≤ unsigned_abs s = omega (arith, ints, h) in
    let b : 1 ≤ unsigned_abs q = omega (arith, ints, i) in
    let m = mul-le 1 1 (unsigned_abs s) (unsigned_abs q) a b in
    let n = unsigned_abs-mul s q in
    let z = ap unsigned_abs e in
    omega (arith, ints, m, n, z)

-- a stride keeps what is between between, or turns it
pub between_up : (o s a x b : ℤ) → pos 0 ≤ℤ s → a ≤ℤ x → x ≤ℤ b → ((o +ℤ s *ℤ a) ≤ℤ (o +ℤ s *ℤ x)) × ((o +ℤ s *ℤ x) ≤ℤ (o +ℤ s *ℤ b))
between_up o (pos zero) a x b h l m =
    let e = zero-*ℤ a in let f = zero-*ℤ x in let g = zero-*ℤ b in (omega (arith, ints, e, f, g), omega (arith, ints, e, f, g))
between_up o (pos (suc k)) a x b h l m =
    let s : ℤ = pos (suc k) in
    let c = *ℤ_comm s a in let d = *ℤ_comm s x in let e = *ℤ_comm s b in
    let f = mul_mono a x s (omega (arith, ints)) l in
    let g = mul_mono x b s (omega (arith, ints)) m in
    (omega (arith, ints, c, d, e, f, g), omega (arith, ints, c, d, e, f, g))
between_up o (negsuc k) a x b h l m = absurd (omega (arith, ints, h))

pub between_down : (o : ℤ) (k : ℕ) (a x b : ℤ) → a ≤ℤ x → x ≤ℤ b
    → ((o +ℤ negsuc k *ℤ b) ≤ℤ (o +ℤ negsuc k *ℤ x)) × ((o +ℤ negsuc k *ℤ x) ≤ℤ (o +ℤ negsuc k *ℤ a))
between_down o k a x b l m =
    let s : ℤ = pos (suc k) in
    let na = neg-*ℤ s a in let nx = neg-*ℤ s x in let nb = neg-*ℤ s b in
    let c = *ℤ_comm s a in let d = *ℤ_comm s x in let e = *ℤ_comm s b in
    let f = mul_mono a x s (omega (arith, ints)) l in
    let g = mul_mono x b s (omega (arith, ints)) m in
    (omega (arith, ints, na, nx, nb, c, d, e, f, g), omega (arith, ints, na, nx, nb, c, d, e, f, g))
