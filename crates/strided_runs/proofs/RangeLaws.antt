-- Numbers in a row.
use Rattle.std.proofs.Common.{◌≡◌, ◌∙◌, ℕ, zero, suc, ◌+◌, ◌∷◌, ◌++◌, ap, arith}
use Rattle.std.specs.List.{range_with_len}

pub range-split : (m n k : ℕ) → range_with_len k (m + n) ≡ range_with_len k m ++ range_with_len (k + m) n
range-split zero n k =
    let e : 0 + n ≡ n = omega arith in
    let f : k ≡ k + 0 = omega arith in
    ap (range_with_len k) e ∙ ap (λ j. range_with_len j n) f
range-split (suc m) n k =
    let e : suc m + n ≡ suc (m + n) = omega arith in
    let f : (k + 1) + m ≡ k + suc m = omega arith in
    ap (range_with_len k) e ∙ ap (λ r. k ∷ r) (range-split m n (k + 1) ∙ ap (λ j. range_with_len (k + 1) m ++ range_with_len j n) f)
