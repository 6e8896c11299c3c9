-- Stored sizes that fit a block.
use Rattle.std.proofs.Common.{◌≡◌, ℕ, ◌+◌, ◌<◌, ◌^◌, List, [], ◌∷◌, length, take, drop, Bool, true, false, Option, Some, None, refl, arith}
use Rattle.std.proofs.lemmas.Bool.{ltb-false}
use Rattle.std.proofs.lemmas.Int.{ints}
use Rattle.chunk_elements.specs.Numbers.{IsWord}
use Rattle.chunk_elements.proofs.Laws.{IsWord-word_of_bytes}
use Rattle.chunk_elements.specs.declared.Dtype.TheVariants.{U16, U32}
use Rattle.std.specs.Prelude.{nat_lt, if◌then◌else◌}
use Rattle.chunk_elements.specs.Blocks.{AreWithin}
use Rattle.chunk_elements.proofs.Laws.{Fit, within_from_fit}
use Rattle.n5_blocks.specs.Faults.{header_len, size_in, size_fault}

-- where a first choice is taken or another, and there is nothing, the other was taken and is nothing
pub none_from_if : {A : Type 0} (b : Bool) (x : A) (o : Option A) → (if b then Some x else o) ≡ None → (b ≡ false) × (o ≡ None)
none_from_if true x o is = absurd (let no_such : ⊥ = cc in no_such)
none_from_if false x o is = (refl, is)

-- where no size is too great, the sizes fit
fit_from_no_fault : (dim : ℕ) (block sizes : List ℕ) → length sizes ≡ length block → size_fault dim block sizes ≡ None → Fit block sizes
fit_from_no_fault dim [] [] ranks is = tt
fit_from_no_fault dim [] (s ∷ ss) ranks is = absurd (omega arith)
fit_from_no_fault dim (b ∷ bs) [] ranks is = absurd (omega arith)
fit_from_no_fault dim (b ∷ bs) (s ∷ ss) ranks is =
    let parts = none_from_if (nat_lt b s) _ (size_fault (dim + 1) bs ss) is in
    (ltb-false b s parts.0, fit_from_no_fault (dim + 1) bs ss (omega arith) parts.1)

pub within_from_no_fault : (dim : ℕ) (block sizes : List ℕ) → length sizes ≡ length block → size_fault dim block sizes ≡ None → AreWithin block sizes
within_from_no_fault dim block sizes ranks is = within_from_fit block sizes (fit_from_no_fault dim block sizes ranks is)

-- a word of 16 or 32 bits without a sign is a small number, and the other way
pub below_from_IsWord-U32 : (word : ℕ) → IsWord U32 word → word < 2 ^ 32
below_from_IsWord-U32 word is = omega (arith, ints, is.held.to_greatest)

-- a size in a header is a small number
pub size_in-lt : (bytes : List ℕ) (dim : ℕ) → size_in bytes dim < 2 ^ 32
size_in-lt bytes dim = below_from_IsWord-U32 (size_in bytes dim) (IsWord-word_of_bytes U32 true (take 4 (drop (header_len dim) bytes)))

pub IsWord-U32 : (word : ℕ) → word < 2 ^ 32 → IsWord U32 word
IsWord-U32 word less = record { in_64_bits = omega arith; held = record { from_least = omega (arith, ints); to_greatest = omega (arith, ints) } }

pub IsWord-U16 : (word : ℕ) → word < 2 ^ 16 → IsWord U16 word
IsWord-U16 word less = record { in_64_bits = omega arith; held = record { from_least = omega (arith, ints); to_greatest = omega (arith, ints) } }
