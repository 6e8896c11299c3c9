-- Words as bytes: two's complement in as many bytes as the dtype has, in either order.
use Rattle.std.specs.Prelude.{ℕ, ◌/◌, pos, Bool, if◌then◌else◌, List}
use Rattle.byteorder.specs.Endian.{big_bytes, little_bytes, big_number, little_number}
use Rattle.cells.specs.Numbers.{bits_of, low_bits, word_of, converted}
use Rattle.cells.specs.declared.dtype.Dtype.{Dtype}

-- how many bytes a number of the dtype takes
abbrev pub byte_count : Dtype → ℕ
byte_count dtype = bits_of dtype / 8

-- the bytes of a word: the highest first where `big`, else the lowest first
abbrev pub word_bytes : Dtype → Bool → ℕ → List ℕ
word_bytes dtype big word =
    if big then big_bytes (byte_count dtype) (low_bits dtype word) else little_bytes (byte_count dtype) (low_bits dtype word)

-- the bytes as one number from 0 on
abbrev pub unsigned_number : Dtype → Bool → List ℕ → ℕ
unsigned_number dtype big bytes =
    if big then big_number (byte_count dtype) bytes else little_number (byte_count dtype) bytes

-- the word that bytes spell
abbrev pub word_of_bytes : Dtype → Bool → List ℕ → ℕ
word_of_bytes dtype big bytes = word_of (converted dtype (pos (unsigned_number dtype big bytes)))
