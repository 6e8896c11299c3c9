-- Parts of bytes.
use Rattle.std.proofs.Common.{◌≡◌, ℕ, zero, suc, ◌+◌, ◌<◌, ◌≤◌, Bool, List, [], ◌∷◌, length, get_or, take, drop, arith}
use Rattle.std.proofs.lemmas.List.{length-drop, length-take-le, get_or-drop}
use Rattle.cells.specs.Bytes.{byte_count, word_bytes, word_of_bytes}
use Rattle.cells.specs.declared.dtype.Dtype.{Dtype}
use Rattle.cells.proofs.Laws.{word_bytes-word_of_bytes}

pub small-drop : (k : ℕ) (bytes : List ℕ) → ((i : ℕ) → get_or bytes i 0 < 256) → (i : ℕ) → get_or (drop k bytes) i 0 < 256
small-drop k bytes small i = rw get_or-drop (small (k + i))

pub small-take : (k : ℕ) (bytes : List ℕ) → ((i : ℕ) → get_or bytes i 0 < 256) → (i : ℕ) → get_or (take k bytes) i 0 < 256
small-take zero bytes small i = omega arith
small-take (suc k) [] small i = omega arith
small-take (suc k) (b ∷ bytes) small zero = small zero
small-take (suc k) (b ∷ bytes) small (suc i) = small-take k bytes (λ j. small (suc j)) i

-- a part of bytes is the bytes of the number that it spells
pub bytes_of_part : (dtype : Dtype) (big : Bool) (bytes : List ℕ) (from : ℕ) → ((i : ℕ) → get_or bytes i 0 < 256) → from + byte_count dtype ≤ length bytes
    → word_bytes dtype big (word_of_bytes dtype big (take (byte_count dtype) (drop from bytes))) ≡ take (byte_count dtype) (drop from bytes)
bytes_of_part dtype big bytes from small fits =
    word_bytes-word_of_bytes dtype big (take (byte_count dtype) (drop from bytes))
    (length-take-le (byte_count dtype) (drop from bytes) (rw length-drop (omega arith)))
    (small-take (byte_count dtype) (drop from bytes) (small-drop from bytes small))
