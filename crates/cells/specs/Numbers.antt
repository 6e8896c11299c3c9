-- The numbers of a dtype, and the words that stand for them.
use Rattle.std.specs.Prelude.{◌≡◌, ℕ, ◌<◌, ◌^◌, ◌-◌, ◌%◌, ℤ, pos, neg_ℤ, ◌+ℤ◌, ◌-ℤ◌, ◌*ℤ◌, ◌≤ℤ◌, Bool, true, false, if◌then◌else◌}
use Rattle.std.specs.Int.{w64, cast_signed, cast_unsigned, int_rem_euclid}
use Rattle.cells.specs.declared.dtype.Dtype.{Dtype}
use Rattle.cells.specs.declared.dtype.Dtype.TheVariants.{I8, U8, I16, U16, I32, U32, I64, U64}

-- how many bits a number of the dtype takes
abbrev pub bits_of : Dtype → ℕ
bits_of I8 = 8
bits_of U8 = 8
bits_of I16 = 16
bits_of U16 = 16
bits_of I32 = 32
bits_of U32 = 32
bits_of I64 = 64
bits_of U64 = 64

-- whether the dtype has numbers below 0
abbrev pub is_signed : Dtype → Bool
is_signed I8 = true
is_signed U8 = false
is_signed I16 = true
is_signed U16 = false
is_signed I32 = true
is_signed U32 = false
is_signed I64 = true
is_signed U64 = false

-- the least number of the dtype
abbrev pub least_of : Dtype → ℤ
least_of dtype = if is_signed dtype then neg_ℤ (pos (2 ^ (bits_of dtype - 1))) else pos 0

-- the greatest number of the dtype
abbrev pub greatest_of : Dtype → ℤ
greatest_of dtype = if is_signed dtype then pos (2 ^ (bits_of dtype - 1) - 1) else pos (2 ^ bits_of dtype - 1)

-- the number lies in the dtype's range
pub record Holds (dtype : Dtype) (number : ℤ) : Type 0 where
  pub from_least : least_of dtype ≤ℤ number
  pub to_greatest : number ≤ℤ greatest_of dtype

-- the word of a number: its two's complement in 64 bits
abbrev pub word_of : ℤ → ℕ
word_of number = cast_unsigned w64 number

-- the number that a word of the dtype stands for
abbrev pub number_of : Dtype → ℕ → ℤ
number_of dtype word = if is_signed dtype then cast_signed w64 word else pos word

-- the word stands for a number of the dtype
pub record IsWord (dtype : Dtype) (word : ℕ) : Type 0 where
  pub in_64_bits : word < 2 ^ 64
  pub held : Holds dtype (number_of dtype word)

-- the low bits of a word, as many as the dtype has
abbrev pub low_bits : Dtype → ℕ → ℕ
low_bits dtype word = word % 2 ^ bits_of dtype

-- two numbers differ by a multiple of the modulus
pub record IsCongruent (modulus : ℕ) (one other : ℤ) : Type 0 where
  pub multiple : (times : ℤ) × (one ≡ other +ℤ times *ℤ pos modulus)

-- the outcome is the number of the dtype that is congruent to the given one modulo 2 to the dtype's bits
pub record IsConverted (dtype : Dtype) (number outcome : ℤ) : Type 0 where
  pub in_range : Holds dtype outcome
  pub congruent : IsCongruent (2 ^ bits_of dtype) number outcome

-- that outcome: as far above the least number as the given one is, but for whole turns
abbrev pub converted : Dtype → ℤ → ℤ
converted dtype number = least_of dtype +ℤ int_rem_euclid (number -ℤ least_of dtype) (pos (2 ^ bits_of dtype))

-- the word of one dtype, converted to a word of another
abbrev pub conv_word : Dtype → ℕ → Dtype → ℕ
conv_word from word to = word_of (converted to (number_of from word))
