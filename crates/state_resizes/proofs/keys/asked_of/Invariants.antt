use Rattle.std.proofs.Common.{◌≡◌, ℕ, List, ◌∷◌, Some, map, take}
use Rattle.chunk_forms.specs.Metadata.{metadata_text}
use Rattle.history.specs.Arrays.{Known, known_after}
use Rattle.history.specs.Chunks.{chunk_key, metadata_key}
use Rattle.state_resizes.specs.Cuts.{unfilled}
use Rattle.state_resizes.proofs.keys.asked_of.Given as goal

-- the keys of the first chunks are there, and their changes behind that of the metadata
abbrev pub invariant-loop-chunk : goal.invariant-loop-chunk
invariant-loop-chunk g l = record {
  new : l.asked.plan ≡ record l.fn.new { keys = l.asked.plan.keys };
  keys : (k : Known) → known_after l.state.log.events l.fn.new.array ≡ Some k → l.asked.plan.keys.items ≡ map (chunk_key k) (take l.chunk-index l.chunks);
  changes : (k : Known) (key : List ℕ) → known_after l.state.log.events l.fn.new.array ≡ Some k → metadata_key k ≡ Some key
      → l.asked.changes.items ≡ record { key = key; bytes = Some (metadata_text l.fn.new.form) } ∷ map (unfilled k) (take l.chunk-index l.chunks);
}
