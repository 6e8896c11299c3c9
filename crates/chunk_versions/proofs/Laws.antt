-- What crates above rest on.
use Rattle.std.proofs.Common.{◌≡◌, ◌≤◌, ℕ, sym, ◌∙◌, arith}
use Rattle.chunk_versions.specs.Moments.{newest}
use Rattle.chunk_versions.specs.Versions.{Versions, IsVersions, word_as_of}
use Rattle.chunk_versions.proofs.Words.{word_at_end}

-- from the newest touch on a place has one word
pub word_stays : (v : Versions) → IsVersions v → (place m n : ℕ) → newest v.touches ≤ m → m ≤ n → word_as_of v n place ≡ word_as_of v m place
word_stays v is place m n low later = word_at_end v is place n (omega (arith, low, later)) ∙ sym (word_at_end v is place m low)
