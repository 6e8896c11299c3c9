-- Where a chunk begins, one dimension after another.
use Rattle.std.proofs.Common.{ℕ, zero, suc, ◌-◌, ◌*◌, ◌/◌, ◌^◌, ◌<◌, ◌≤◌, ◌≡◌, List, [], ◌∷◌, length, slice_index, arith}
use Rattle.std.proofs.Math.Nat.{mul-le-mul_right, div-mul-le_self}
use Rattle.std.proofs.lemmas.Nat.{le-div}
use Rattle.history.specs.Chunks.{AreStarts}

pub starts-at : (ns cs : List ℕ) (k : ℕ) → AreStarts ns cs → length cs ≡ length ns → k < length ns → slice_index cs k * slice_index ns k ≤ 2 ^ 62 - 2
starts-at [] cs k starts e lt = absurd (omega arith)
starts-at (n ∷ ns) [] k starts e lt = absurd (omega arith)
starts-at (n ∷ ns) (c ∷ cs) zero starts e lt = starts.0
starts-at (n ∷ ns) (c ∷ cs) (suc k) starts e lt = starts-at ns cs k starts.1 (omega arith) (omega arith)

pub starts-from : (ns cs : List ℕ) → length cs ≡ length ns → ((k : ℕ) → k < length ns → slice_index cs k * slice_index ns k ≤ 2 ^ 62 - 2) → AreStarts ns cs
starts-from [] cs e each = tt
starts-from (n ∷ ns) [] e each = absurd (omega arith)
starts-from (n ∷ ns) (c ∷ cs) e each = (each 0 (omega arith), starts-from ns cs (omega arith) (λ k lt. each (suc k) (omega arith)))

pub begins : (c n most : ℕ) → c ≤ most / n → c * n ≤ most
begins c n most le = let wide = mul-le-mul_right n le in omega (arith, wide, div-mul-le_self most n)

pub no_start : (c n most : ℕ) → 0 < n → most / n < c → ¬ (c * n ≤ most)
no_start c n most pos lt le = let low = le-div c most n pos le in omega arith
