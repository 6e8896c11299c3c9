-- Chains of casts: the first cast is the one next to the array.
use Rattle.std.specs.Prelude.{◌≡◌, ℕ, ◌≤◌, List, [], ◌∷◌, min}
use Rattle.cells.specs.Numbers.{bits_of, conv_word}
use Rattle.cells.specs.declared.dtype.Dtype.{Dtype}
use Rattle.cast_driver.specs.declared.cast.Cast.{Cast}

-- the first cast, if there is one, takes up this dtype
abbrev pub BeginsWith : Dtype → List Cast → Type 0
BeginsWith dtype [] = Unit {0}
BeginsWith dtype (cast ∷ casts) = cast.from ≡ dtype

-- each cast takes up the dtype that the one before it gives
abbrev pub AreJoined : List Cast → Type 0
AreJoined [] = Unit {0}
AreJoined (cast ∷ casts) = BeginsWith cast.to casts × AreJoined casts

-- the dtype that comes out, for numbers of the first dtype
abbrev pub dtype_after : Dtype → List Cast → Dtype
dtype_after dtype [] = dtype
dtype_after dtype (cast ∷ casts) = dtype_after cast.to casts

-- what is shown for a kept word: the first cast comes first
abbrev pub word_out : List Cast → ℕ → ℕ
word_out [] word = word
word_out (cast ∷ casts) word = word_out casts (conv_word cast.from word cast.to)

-- what is kept for a word that is written as it is shown: the first cast comes last
abbrev pub word_back : List Cast → ℕ → ℕ
word_back [] word = word
word_back (cast ∷ casts) word = conv_word cast.to (word_back casts word) cast.from

-- the bits of the narrowest dtype to which a cast leads
abbrev pub fewest_bits_out : List Cast → ℕ
fewest_bits_out [] = 64
fewest_bits_out (cast ∷ casts) = min (bits_of cast.to) (fewest_bits_out casts)

-- the bits of the narrowest dtype from which a cast leads
abbrev pub fewest_bits_back : List Cast → ℕ
fewest_bits_back [] = 64
fewest_bits_back (cast ∷ casts) = min (bits_of cast.from) (fewest_bits_back casts)

-- no dtype along the casts has fewer bits than this one
abbrev pub NoneNarrower : Dtype → List Cast → Type 0
NoneNarrower dtype casts = (bits_of dtype ≤ fewest_bits_out casts) × (bits_of dtype ≤ fewest_bits_back casts)
