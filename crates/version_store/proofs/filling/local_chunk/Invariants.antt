use Rattle.std.proofs.Common.{◌≡◌, ◌<◌, ℕ, [], ◌∷◌, length, false, Some, None}
use Rattle.std.specs.Prelude.{nat_le, slice_index, if◌then◌else◌}
use Rattle.chunk_versions.specs.Versions.{word_as_of}
use Rattle.version_store.proofs.filling.local_chunk.Given as goal

-- the words of the places so far are put, and before the opening there is none
abbrev pub invariant-loop-place : goal.invariant-loop-place
invariant-loop-place l = record {
  size : l.chunk.size ≡ length l.start.words;
  touches : l.chunk.touches ≡ l.number ∷ [];
  words : (m q : ℕ) → q < l.place → word_as_of l.chunk m q ≡ (if nat_le l.number m then Some (slice_index l.start.words q) else None);
  none : (m q : ℕ) → nat_le l.number m ≡ false → word_as_of l.chunk m q ≡ None;
}
