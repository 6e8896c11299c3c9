-- Stored sizes that fit a block.
use Rattle.std.proofs.Common.{◌≡◌, ℕ, zero, suc, ◌<◌, ◌≤◌, List, [], ◌∷◌, ◌++◌, length, get_or, reverse, refl, arith}
use Rattle.std.proofs.Math.Nat.{mul-le-mul}
use Rattle.std.proofs.lemmas.Int.{ints}
use Rattle.std.proofs.lemmas.List.{reverse-append}
use Rattle.cells.specs.Numbers.{IsWord}
use Rattle.cells.specs.Places.{cell_count}
use Rattle.cells.specs.declared.dtype.Dtype.{Dtype}
use Rattle.cells.specs.declared.dtype.Dtype.TheVariants.{I8, U8, I16, U16, I32, U32, I64, U64}
use Rattle.chunk_elements.specs.Blocks.{AreWithin}

-- sizes one by one
abbrev pub Fit : List ℕ → List ℕ → Type 0
Fit [] [] = Unit {0}
Fit [] (s ∷ ss) = ⊥
Fit (b ∷ bs) [] = ⊥
Fit (b ∷ bs) (s ∷ ss) = (s ≤ b) × Fit bs ss

pub within_from_fit : (block sizes : List ℕ) → Fit block sizes → AreWithin block sizes
within_from_fit [] [] fit = record { ranks = refl; fit = λ k less. absurd (omega arith) }
within_from_fit [] (s ∷ ss) fit = absurd fit
within_from_fit (b ∷ bs) [] fit = absurd fit
within_from_fit (b ∷ bs) (s ∷ ss) fit =
    let rest = within_from_fit bs ss fit.1 in
    record { ranks = let r : length ss ≡ length bs = rest.ranks in omega arith; fit = at rest }
  where
    at : AreWithin bs ss → (k : ℕ) → k < length (b ∷ bs) → get_or (s ∷ ss) k 0 ≤ get_or (b ∷ bs) k 0
    at rest zero less = fit.0
    at rest (suc k) less = rest.fit k (omega arith)

pub fit_from_within : (block sizes : List ℕ) → AreWithin block sizes → Fit block sizes
fit_from_within [] [] within = tt
fit_from_within [] (s ∷ ss) within = absurd (omega (arith, within.ranks))
fit_from_within (b ∷ bs) [] within = absurd (omega (arith, within.ranks))
fit_from_within (b ∷ bs) (s ∷ ss) within =
    (within.fit 0 (omega arith), fit_from_within bs ss (record { ranks = let r : length (s ∷ ss) ≡ length (b ∷ bs) = within.ranks in omega arith; fit = λ k less. within.fit (suc k) (omega arith) }))

-- fewer or equal sizes have no more cells
cell_count-fit : (block sizes : List ℕ) → Fit block sizes → cell_count sizes ≤ cell_count block
cell_count-fit [] [] fit = omega arith
cell_count-fit [] (s ∷ ss) fit = absurd fit
cell_count-fit (b ∷ bs) [] fit = absurd fit
cell_count-fit (b ∷ bs) (s ∷ ss) fit = mul-le-mul fit.0 (cell_count-fit bs ss fit.1)

pub cell_count-within : (block sizes : List ℕ) → AreWithin block sizes → cell_count sizes ≤ cell_count block
cell_count-within block sizes within = cell_count-fit block sizes (fit_from_within block sizes within)

-- the whole block fits
fit-same : (block : List ℕ) → Fit block block
fit-same [] = tt
fit-same (b ∷ bs) = (omega arith, fit-same bs)

pub within-same : (block : List ℕ) → AreWithin block block
within-same block = within_from_fit block block (fit-same block)

fit-push : (block sizes : List ℕ) (b s : ℕ) → Fit block sizes → s ≤ b → Fit (block ++ b ∷ []) (sizes ++ s ∷ [])
fit-push [] [] b s fit less = (less, tt)
fit-push [] (t ∷ ts) b s fit less = absurd fit
fit-push (c ∷ cs) [] b s fit less = absurd fit
fit-push (c ∷ cs) (t ∷ ts) b s fit less = (fit.0, fit-push cs ts b s fit.1 less)

fit-reverse : (block sizes : List ℕ) → Fit block sizes → Fit (reverse block) (reverse sizes)
fit-reverse [] [] fit = tt
fit-reverse [] (s ∷ ss) fit = absurd fit
fit-reverse (b ∷ bs) [] fit = absurd fit
fit-reverse (b ∷ bs) (s ∷ ss) fit = rw (reverse-append (b ∷ []) bs, reverse-append (s ∷ []) ss) (fit-push (reverse bs) (reverse ss) b s (fit-reverse bs ss fit.1) fit.0)

-- the sizes backwards fit the block backwards
pub within-reverse : (block sizes : List ℕ) → AreWithin block sizes → AreWithin (reverse block) (reverse sizes)
within-reverse block sizes within = within_from_fit (reverse block) (reverse sizes) (fit-reverse block sizes (fit_from_within block sizes within))

-- 0 is a word of each dtype
pub IsWord-zero : (dtype : Dtype) → IsWord dtype 0
IsWord-zero I8 = record { in_64_bits = omega arith; held = record { from_least = omega (arith, ints); to_greatest = omega (arith, ints) } }
IsWord-zero U8 = record { in_64_bits = omega arith; held = record { from_least = omega (arith, ints); to_greatest = omega (arith, ints) } }
IsWord-zero I16 = record { in_64_bits = omega arith; held = record { from_least = omega (arith, ints); to_greatest = omega (arith, ints) } }
IsWord-zero U16 = record { in_64_bits = omega arith; held = record { from_least = omega (arith, ints); to_greatest = omega (arith, ints) } }
IsWord-zero I32 = record { in_64_bits = omega arith; held = record { from_least = omega (arith, ints); to_greatest = omega (arith, ints) } }
IsWord-zero U32 = record { in_64_bits = omega arith; held = record { from_least = omega (arith, ints); to_greatest = omega (arith, ints) } }
IsWord-zero I64 = record { in_64_bits = omega arith; held = record { from_least = omega (arith, ints); to_greatest = omega (arith, ints) } }
IsWord-zero U64 = record { in_64_bits = omega arith; held = record { from_least = omega (arith, ints); to_greatest = omega (arith, ints) } }
