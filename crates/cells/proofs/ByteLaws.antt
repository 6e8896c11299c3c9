-- Laws of words as bytes: to write and to read are inverse to each other.
use Rattle.std.proofs.Common.{◌≡◌, ℕ, ◌<◌, ◌^◌, ◌%◌, ℤ, pos, Bool, true, false, if◌then◌else◌, List, [], ◌∷◌, length, slice_index, refl, sym, ◌∙◌, ap, subst, arith}
use Rattle.std.proofs.lemmas.List.{append-nil}
use Rattle.std.proofs.lemmas.Nat.{le_bytes_2, le_bytes_4, le_bytes_8, be_bytes_2, be_bytes_4, be_bytes_8}
use Rattle.std.proofs.lemmas.Int.{ints}
use Rattle.byteorder.specs.Endian.{big_bytes, little_bytes, big_number, little_number}
use Rattle.byteorder.specs.Numbers.{length-bytes_high_first, length-bytes_low_first, big_number-reads_back, little_number-reads_back, big_from-lt, little_from-lt}
use Rattle.cells.specs.Numbers.{bits_of, low_bits, word_of, converted, IsWord, IsConverted}
use Rattle.cells.specs.Bytes.{byte_count, word_bytes, unsigned_number, word_of_bytes}
use Rattle.cells.specs.declared.dtype.Dtype.{Dtype}
use Rattle.cells.specs.declared.dtype.Dtype.TheVariants.{I8, U8, I16, U16, I32, U32, I64, U64}
use Rattle.cells.proofs.NumberLaws.{converted-low_bits, converted-held, conv_word-same, conv_word-low_bits, low_bits-lt, IsConverted-converted, IsWord-word_of, number_of-word_of}

-- the bytes of a dtype hold its bits
bytes_hold : (dtype : Dtype) → 2 ^ bits_of dtype ≡ 256 ^ byte_count dtype
bytes_hold I8 = refl
bytes_hold U8 = refl
bytes_hold I16 = refl
bytes_hold U16 = refl
bytes_hold I32 = refl
bytes_hold U32 = refl
bytes_hold I64 = refl
bytes_hold U64 = refl

-- there are as many bytes as the dtype has
pub length-word_bytes : (dtype : Dtype) (big : Bool) (word : ℕ) → length (word_bytes dtype big word) ≡ byte_count dtype
length-word_bytes dtype true word = length-bytes_high_first (byte_count dtype) (low_bits dtype word)
length-word_bytes dtype false word = length-bytes_low_first 0 (byte_count dtype) (low_bits dtype word)

-- the bytes of a word are its low bits
unsigned_number-word_bytes : (dtype : Dtype) (big : Bool) (word : ℕ) → unsigned_number dtype big (word_bytes dtype big word) ≡ low_bits dtype word
unsigned_number-word_bytes dtype true word =
    let n = byte_count dtype in
    let x = low_bits dtype word in
    ap (big_number n) (sym (append-nil (big_bytes n x))) ∙ big_number-reads_back n x [] (omega (arith, low_bits-lt dtype word, bytes_hold dtype))
unsigned_number-word_bytes dtype false word =
    let n = byte_count dtype in
    let x = low_bits dtype word in
    ap (little_number n) (sym (append-nil (little_bytes n x))) ∙ little_number-reads_back n x [] (omega (arith, low_bits-lt dtype word, bytes_hold dtype))

-- the word that the bytes of a word spell is that word
pub word_of_bytes-word_bytes : (dtype : Dtype) (big : Bool) (word : ℕ) → IsWord dtype word → word_of_bytes dtype big (word_bytes dtype big word) ≡ word
word_of_bytes-word_bytes dtype big word is =
    ap (λ low. word_of (converted dtype (pos low))) (unsigned_number-word_bytes dtype big word)
    ∙ conv_word-low_bits dtype word dtype is.in_64_bits ∙ conv_word-same dtype word is

-- one byte is the byte of the number that it spells
one_byte : (bytes : List ℕ) (number : ℕ) → length bytes ≡ 1 → slice_index bytes 0 < 256 → number ≡ slice_index bytes 0 → number % 256 ∷ [] ≡ bytes
one_byte [] number none small is = absurd (omega arith)
one_byte (b ∷ []) number one small is = ap (λ c. c ∷ []) (omega arith)
one_byte (a ∷ b ∷ bytes) number two small is = absurd (omega (arith, two))

-- the bytes of the number that bytes spell are those bytes
bytes_of_number : (dtype : Dtype) (big : Bool) (bytes : List ℕ) → length bytes ≡ byte_count dtype → ((i : ℕ) → slice_index bytes i < 256)
    → (if big then big_bytes (byte_count dtype) (unsigned_number dtype big bytes) else little_bytes (byte_count dtype) (unsigned_number dtype big bytes)) ≡ bytes
bytes_of_number I8 false bytes full small = one_byte bytes _ full (small 0) (omega arith)
bytes_of_number I8 true bytes full small = one_byte bytes _ full (small 0) (omega arith)
bytes_of_number U8 false bytes full small = one_byte bytes _ full (small 0) (omega arith)
bytes_of_number U8 true bytes full small = one_byte bytes _ full (small 0) (omega arith)
bytes_of_number I16 false bytes full small = le_bytes_2 bytes _ full small (omega arith)
bytes_of_number I16 true bytes full small = be_bytes_2 bytes _ full small (omega arith)
bytes_of_number U16 false bytes full small = le_bytes_2 bytes _ full small (omega arith)
bytes_of_number U16 true bytes full small = be_bytes_2 bytes _ full small (omega arith)
bytes_of_number I32 false bytes full small = le_bytes_4 bytes _ full small (omega arith)
bytes_of_number I32 true bytes full small = be_bytes_4 bytes _ full small (omega arith)
bytes_of_number U32 false bytes full small = le_bytes_4 bytes _ full small (omega arith)
bytes_of_number U32 true bytes full small = be_bytes_4 bytes _ full small (omega arith)
bytes_of_number I64 false bytes full small = le_bytes_8 bytes _ full small (omega arith)
bytes_of_number I64 true bytes full small = be_bytes_8 bytes _ full small (omega arith)
bytes_of_number U64 false bytes full small = le_bytes_8 bytes _ full small (omega arith)
bytes_of_number U64 true bytes full small = be_bytes_8 bytes _ full small (omega arith)

-- two numbers below a whole turn that convert alike are one
same_low : (dtype : Dtype) (a b : ℕ) (outcome : ℤ) → a < 2 ^ bits_of dtype → b < 2 ^ bits_of dtype
    → IsConverted dtype (pos a) outcome → IsConverted dtype (pos b) outcome → a ≡ b
same_low I8 a b outcome p q r t = omega (arith, ints)
same_low U8 a b outcome p q r t = omega (arith, ints)
same_low I16 a b outcome p q r t = omega (arith, ints)
same_low U16 a b outcome p q r t = omega (arith, ints)
same_low I32 a b outcome p q r t = omega (arith, ints)
same_low U32 a b outcome p q r t = omega (arith, ints)
same_low I64 a b outcome p q r t = omega (arith, ints)
same_low U64 a b outcome p q r t = omega (arith, ints)

-- the low bits of the word that has them
pub low_bits-converted : (dtype : Dtype) (low : ℕ) → low < 2 ^ bits_of dtype → low_bits dtype (word_of (converted dtype (pos low))) ≡ low
low_bits-converted dtype low small =
    let first = IsConverted-converted dtype (pos low) in
    let word = IsWord-word_of dtype (converted dtype (pos low)) first.in_range in
    let back = IsConverted-converted dtype (pos (low_bits dtype (word_of (converted dtype (pos low))))) in
    let same : converted dtype (pos (low_bits dtype (word_of (converted dtype (pos low))))) ≡ converted dtype (pos low) =
    converted-low_bits dtype _ dtype word.in_64_bits ∙ converted-held dtype _ word.held ∙ number_of-word_of dtype _ first.in_range in
    same_low dtype _ low _ (low_bits-lt dtype _) small (subst (IsConverted dtype _) same back) first

-- bytes are a number below a whole turn
unsigned_number-lt : (dtype : Dtype) (big : Bool) (bytes : List ℕ) → ((i : ℕ) → slice_index bytes i < 256) → unsigned_number dtype big bytes < 2 ^ bits_of dtype
unsigned_number-lt dtype true bytes small = rw (bytes_hold dtype) (big_from-lt 0 (byte_count dtype) bytes small)
unsigned_number-lt dtype false bytes small = rw (bytes_hold dtype) (little_from-lt 0 (byte_count dtype) bytes small)

-- the bytes of the word that bytes spell are those bytes
pub word_bytes-word_of_bytes : (dtype : Dtype) (big : Bool) (bytes : List ℕ) → length bytes ≡ byte_count dtype → ((i : ℕ) → slice_index bytes i < 256)
    → word_bytes dtype big (word_of_bytes dtype big bytes) ≡ bytes
word_bytes-word_of_bytes dtype big bytes full small =
    let x = unsigned_number dtype big bytes in
    let low = low_bits-converted dtype x (unsigned_number-lt dtype big bytes small) in
    ap (λ y. if big then big_bytes (byte_count dtype) y else little_bytes (byte_count dtype) y) low ∙ bytes_of_number dtype big bytes full small

-- bytes spell a word of the dtype
pub IsWord-word_of_bytes : (dtype : Dtype) (big : Bool) (bytes : List ℕ) → IsWord dtype (word_of_bytes dtype big bytes)
IsWord-word_of_bytes dtype big bytes = IsWord-word_of dtype _ (IsConverted-converted dtype (pos (unsigned_number dtype big bytes))).in_range
