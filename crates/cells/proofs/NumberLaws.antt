-- Laws of words and conversions.
use Rattle.std.proofs.Common.{◌≡◌, ℕ, zero, suc, suc-mul, lit<, ◌<◌, ◌≤◌, ◌^◌, ◌-◌, ◌/◌, ◌%◌, ℤ, pos, negsuc, ◌+ℤ◌, ◌-ℤ◌, ◌*ℤ◌, neg_ℤ, ◌≤ℤ◌, inl, inr, refl, sym, ◌∙◌, ap, subst, arith}
use Rattle.std.proofs.lemmas.Bool.{cases_lt}
use Rattle.std.proofs.lemmas.Bool.Decides.{nat_tests}
use Rattle.std.proofs.lemmas.Int.{ints, of_z-to_z}
use Rattle.std.proofs.lemmas.Nat.{div-add-mod', mod_below}
use Rattle.std.specs.Int.{w64, int_rem_euclid, cast_signed}
use Rattle.cells.specs.Numbers.{bits_of, least_of, greatest_of, Holds, word_of, number_of, IsWord, IsCongruent, IsConverted, converted, conv_word, low_bits}
use Rattle.cells.specs.declared.dtype.Dtype.{Dtype}
use Rattle.cells.specs.declared.dtype.Dtype.TheVariants.{I8, U8, I16, U16, I32, U32, I64, U64}

-- a number from 0 on is its word
word_of-unsigned : (number : ℤ) → pos 0 ≤ℤ number → pos (word_of number) ≡ number
word_of-unsigned (pos n) low = refl
word_of-unsigned (negsuc n) low = absurd (omega (arith, ints))

-- a number of the dtype is the number of its word
pub number_of-word_of : (dtype : Dtype) (number : ℤ) → Holds dtype number → number_of dtype (word_of number) ≡ number
number_of-word_of I8 number held = omega (arith, ints)
number_of-word_of U8 number held = word_of-unsigned number held.from_least
number_of-word_of I16 number held = omega (arith, ints)
number_of-word_of U16 number held = word_of-unsigned number held.from_least
number_of-word_of I32 number held = omega (arith, ints)
number_of-word_of U32 number held = word_of-unsigned number held.from_least
number_of-word_of I64 number held = omega (arith, ints)
number_of-word_of U64 number held = word_of-unsigned number held.from_least

-- a word is the word of its number
pub word_of-number_of : (dtype : Dtype) (word : ℕ) → word < 2 ^ 64 → word_of (number_of dtype word) ≡ word
word_of-number_of I8 word small = of_z-to_z w64 word small
word_of-number_of U8 word small = refl
word_of-number_of I16 word small = of_z-to_z w64 word small
word_of-number_of U16 word small = refl
word_of-number_of I32 word small = of_z-to_z w64 word small
word_of-number_of U32 word small = refl
word_of-number_of I64 word small = of_z-to_z w64 word small
word_of-number_of U64 word small = refl

-- two words of one number are one
pub same_from_number : (dtype : Dtype) (v w : ℕ) → IsWord dtype v → IsWord dtype w → number_of dtype v ≡ number_of dtype w → v ≡ w
same_from_number dtype v w one other same =
    sym (word_of-number_of dtype v one.in_64_bits) ∙ ap word_of same ∙ word_of-number_of dtype w other.in_64_bits

word_of-lt : (number : ℤ) → neg_ℤ (pos (2 ^ 63)) ≤ℤ number → number ≤ℤ pos (2 ^ 64 - 1) → word_of number < 2 ^ 64
word_of-lt (pos n) low high = omega (arith, ints)
word_of-lt (negsuc n) low high = omega (arith, ints)

-- every number of a dtype fits 64 bits
Holds-in_64_bits : (dtype : Dtype) (number : ℤ) → Holds dtype number → (neg_ℤ (pos (2 ^ 63)) ≤ℤ number) × (number ≤ℤ pos (2 ^ 64 - 1))
Holds-in_64_bits I8 number held = (omega (arith, ints), omega (arith, ints))
Holds-in_64_bits U8 number held = (omega (arith, ints), omega (arith, ints))
Holds-in_64_bits I16 number held = (omega (arith, ints), omega (arith, ints))
Holds-in_64_bits U16 number held = (omega (arith, ints), omega (arith, ints))
Holds-in_64_bits I32 number held = (omega (arith, ints), omega (arith, ints))
Holds-in_64_bits U32 number held = (omega (arith, ints), omega (arith, ints))
Holds-in_64_bits I64 number held = (omega (arith, ints), omega (arith, ints))
Holds-in_64_bits U64 number held = (omega (arith, ints), omega (arith, ints))

-- the word of a number of the dtype is a word of it
pub IsWord-word_of : (dtype : Dtype) (number : ℤ) → Holds dtype number → IsWord dtype (word_of number)
IsWord-word_of dtype number held = record {
  in_64_bits = let fits = Holds-in_64_bits dtype number held in word_of-lt number fits.0 fits.1;
  held = subst (Holds dtype) (sym (number_of-word_of dtype number held)) held;
}

-- two outcomes of one conversion are one
pub IsConverted-unique : (dtype : Dtype) (number one other : ℤ) → IsConverted dtype number one → IsConverted dtype number other → one ≡ other
IsConverted-unique I8 number one other p q = omega (arith, ints)
IsConverted-unique U8 number one other p q = omega (arith, ints)
IsConverted-unique I16 number one other p q = omega (arith, ints)
IsConverted-unique U16 number one other p q = omega (arith, ints)
IsConverted-unique I32 number one other p q = omega (arith, ints)
IsConverted-unique U32 number one other p q = omega (arith, ints)
IsConverted-unique I64 number one other p q = omega (arith, ints)
IsConverted-unique U64 number one other p q = omega (arith, ints)

-- a number is its remainder by a modulus, and a number of turns
euclid : (z : ℤ) (m : ℕ) → 0 < m → (times : ℤ) × (z ≡ int_rem_euclid z (pos m) +ℤ times *ℤ pos m)
euclid (pos n) m above = (pos (n / m), ap pos (omega (arith, div-add-mod' n m)))
euclid (negsuc n) zero above = absurd (omega arith)
euclid (negsuc n) (suc m) above = (negsuc (n / suc m), omega (arith, ints, div-add-mod' n (suc m), suc-mul (n / suc m) (suc m), mod_below n (suc m) above))

-- the remainder lies below the modulus
rem_euclid_range : (z : ℤ) (m : ℕ) → 0 < m → (pos 0 ≤ℤ int_rem_euclid z (pos m)) × (int_rem_euclid z (pos m) ≤ℤ pos (m - 1))
rem_euclid_range (pos n) m above = let low = mod_below n m above in (omega (arith, ints), omega (arith, ints))
rem_euclid_range (negsuc n) m above = (omega (arith, ints), omega (arith, ints))

-- the remainder above the least number, where the range is a whole turn
turned : (dtype : Dtype) (number : ℤ) → 0 < 2 ^ bits_of dtype → least_of dtype +ℤ pos (2 ^ bits_of dtype - 1) ≡ greatest_of dtype
    → IsConverted dtype number (converted dtype number)
turned dtype number above whole =
    let m = 2 ^ bits_of dtype in
    let far = number -ℤ least_of dtype in
    let turns = euclid far m above in
    let range = rem_euclid_range far m above in
    record {
      in_range = record { from_least = omega (arith, ints); to_greatest = omega (arith, ints) };
      congruent = record { multiple = (turns.0, omega (arith, ints)) };
    }

-- `converted` is the outcome of a conversion
pub IsConverted-converted : (dtype : Dtype) (number : ℤ) → IsConverted dtype number (converted dtype number)
IsConverted-converted I8 number = turned I8 number (lit< tt) refl
IsConverted-converted U8 number = turned U8 number (lit< tt) refl
IsConverted-converted I16 number = turned I16 number (lit< tt) refl
IsConverted-converted U16 number = turned U16 number (lit< tt) refl
IsConverted-converted I32 number = turned I32 number (lit< tt) refl
IsConverted-converted U32 number = turned U32 number (lit< tt) refl
IsConverted-converted I64 number = turned I64 number (lit< tt) refl
IsConverted-converted U64 number = turned U64 number (lit< tt) refl

-- a number of the dtype is its own conversion
pub converted-held : (dtype : Dtype) (number : ℤ) → Holds dtype number → converted dtype number ≡ number
converted-held dtype number held = IsConverted-unique dtype number (converted dtype number) number (IsConverted-converted dtype number)
    (record { in_range = held; congruent = record { multiple = (pos 0, omega (arith, ints)) } })

-- the word of a conversion stands for the converted number
pub number_of-conv_word : (from : Dtype) (word : ℕ) (to : Dtype) → number_of to (conv_word from word to) ≡ converted to (number_of from word)
number_of-conv_word from word to = number_of-word_of to _ (IsConverted-converted to (number_of from word)).in_range

-- and is a word of the new dtype
pub IsWord-conv_word : (from : Dtype) (word : ℕ) (to : Dtype) → IsWord to (conv_word from word to)
IsWord-conv_word from word to = IsWord-word_of to _ (IsConverted-converted to (number_of from word)).in_range

-- the number of such a word is the outcome of the conversion
pub IsConverted-conv_word : (from : Dtype) (word : ℕ) (to : Dtype) (outcome : ℕ) → outcome ≡ conv_word from word to
    → IsConverted to (number_of from word) (number_of to outcome)
IsConverted-conv_word from word to outcome is =
    subst (IsConverted to (number_of from word)) (sym (ap (number_of to) is ∙ number_of-conv_word from word to)) (IsConverted-converted to (number_of from word))

-- a word converted to its own dtype stays
pub conv_word-same : (dtype : Dtype) (word : ℕ) → IsWord dtype word → conv_word dtype word dtype ≡ word
conv_word-same dtype word is = ap word_of (converted-held dtype _ is.held) ∙ word_of-number_of dtype word is.in_64_bits

high_turn : (word : ℕ) → 2 ^ 63 ≤ word → word < 2 ^ 64 → cast_signed w64 word ≡ pos word +ℤ negsuc 0 *ℤ pos (2 ^ 64)
high_turn word high small = grind (arith, ints, nat_tests)

-- a word read with a sign is the word itself but for turns of 2 ^ 64
cast_signed-turns : (word : ℕ) → word < 2 ^ 64 → (turns : ℤ) × (cast_signed w64 word ≡ pos word +ℤ turns *ℤ pos (2 ^ 64))
cast_signed-turns word small =
    elim (cases_lt word (2 ^ 63)) [ inl low ↦ (pos 0, omega (arith, ints)) | inr high ↦ (negsuc 0, high_turn word high small) ]

-- so is the number of a word
number_of-turns : (dtype : Dtype) (word : ℕ) → word < 2 ^ 64 → (turns : ℤ) × (number_of dtype word ≡ pos word +ℤ turns *ℤ pos (2 ^ 64))
number_of-turns I8 word small = cast_signed-turns word small
number_of-turns U8 word small = (pos 0, omega (arith, ints))
number_of-turns I16 word small = cast_signed-turns word small
number_of-turns U16 word small = (pos 0, omega (arith, ints))
number_of-turns I32 word small = cast_signed-turns word small
number_of-turns U32 word small = (pos 0, omega (arith, ints))
number_of-turns I64 word small = cast_signed-turns word small
number_of-turns U64 word small = (pos 0, omega (arith, ints))

-- a number is congruent to what the low bits of its word are congruent to
lowered-8 : (number : ℤ) (word : ℕ) (turns : ℤ) → number ≡ pos word +ℤ turns *ℤ pos (2 ^ 64) → (outcome : ℤ)
    → IsCongruent (2 ^ 8) (pos (word % 2 ^ 8)) outcome → IsCongruent (2 ^ 8) number outcome
lowered-8 number word turns is outcome low = record {
  multiple = (low.multiple.0 +ℤ (pos (word / 2 ^ 8) +ℤ turns *ℤ pos (2 ^ 56)), omega (arith, ints, div-add-mod' word (2 ^ 8), low.multiple.1));
}

lowered-16 : (number : ℤ) (word : ℕ) (turns : ℤ) → number ≡ pos word +ℤ turns *ℤ pos (2 ^ 64) → (outcome : ℤ)
    → IsCongruent (2 ^ 16) (pos (word % 2 ^ 16)) outcome → IsCongruent (2 ^ 16) number outcome
lowered-16 number word turns is outcome low = record {
  multiple = (low.multiple.0 +ℤ (pos (word / 2 ^ 16) +ℤ turns *ℤ pos (2 ^ 48)), omega (arith, ints, div-add-mod' word (2 ^ 16), low.multiple.1));
}

lowered-32 : (number : ℤ) (word : ℕ) (turns : ℤ) → number ≡ pos word +ℤ turns *ℤ pos (2 ^ 64) → (outcome : ℤ)
    → IsCongruent (2 ^ 32) (pos (word % 2 ^ 32)) outcome → IsCongruent (2 ^ 32) number outcome
lowered-32 number word turns is outcome low = record {
  multiple = (low.multiple.0 +ℤ (pos (word / 2 ^ 32) +ℤ turns *ℤ pos (2 ^ 32)), omega (arith, ints, div-add-mod' word (2 ^ 32), low.multiple.1));
}

lowered-64 : (number : ℤ) (word : ℕ) (turns : ℤ) → number ≡ pos word +ℤ turns *ℤ pos (2 ^ 64) → (outcome : ℤ)
    → IsCongruent (2 ^ 64) (pos (word % 2 ^ 64)) outcome → IsCongruent (2 ^ 64) number outcome
lowered-64 number word turns is outcome low = record {
  multiple = (low.multiple.0 +ℤ (pos (word / 2 ^ 64) +ℤ turns *ℤ pos (2 ^ 0)), omega (arith, ints, div-add-mod' word (2 ^ 64), low.multiple.1));
}

IsCongruent-low_bits : (to : Dtype) (number : ℤ) (word : ℕ) (turns : ℤ) → number ≡ pos word +ℤ turns *ℤ pos (2 ^ 64) → (outcome : ℤ)
    → IsCongruent (2 ^ bits_of to) (pos (low_bits to word)) outcome → IsCongruent (2 ^ bits_of to) number outcome
IsCongruent-low_bits I8 = lowered-8
IsCongruent-low_bits U8 = lowered-8
IsCongruent-low_bits I16 = lowered-16
IsCongruent-low_bits U16 = lowered-16
IsCongruent-low_bits I32 = lowered-32
IsCongruent-low_bits U32 = lowered-32
IsCongruent-low_bits I64 = lowered-64
IsCongruent-low_bits U64 = lowered-64

-- the low bits of a word decide its conversion
pub converted-low_bits : (from : Dtype) (word : ℕ) (to : Dtype) → word < 2 ^ 64 → converted to (pos (low_bits to word)) ≡ converted to (number_of from word)
converted-low_bits from word to small =
    let turns = number_of-turns from word small in
    let low = IsConverted-converted to (pos (low_bits to word)) in
    IsConverted-unique to (number_of from word) _ _
    (record { in_range = low.in_range; congruent = IsCongruent-low_bits to _ word turns.0 turns.1 _ low.congruent })
    (IsConverted-converted to (number_of from word))

-- so the word of the one is the word of the other
pub conv_word-low_bits : (from : Dtype) (word : ℕ) (to : Dtype) → word < 2 ^ 64 → word_of (converted to (pos (low_bits to word))) ≡ conv_word from word to
conv_word-low_bits from word to small = ap word_of (converted-low_bits from word to small)

pub low_bits-lt : (dtype : Dtype) (word : ℕ) → low_bits dtype word < 2 ^ bits_of dtype
low_bits-lt I8 word = omega arith
low_bits-lt U8 word = omega arith
low_bits-lt I16 word = omega arith
low_bits-lt U16 word = omega arith
low_bits-lt I32 word = omega arith
low_bits-lt U32 word = omega arith
low_bits-lt I64 word = omega arith
low_bits-lt U64 word = omega arith
