-- When prepared bytes may be used.
use Rattle.std.proofs.Common.{◌≡◌, ℕ, List, Bool, true, false, Option, Some, None, sym, ap, ◌∙◌}
use Rattle.std.specs.Prelude.{◌==◌, ◌&&◌, IsSome}
use Rattle.history.specs.History.{History}
use Rattle.history.specs.Arrays.{Known, known_after}
use Rattle.history.specs.Chunks.{Chunk, key_in}
use Rattle.history.specs.Generations.{HasKey}
use Rattle.history.proofs.Laws.{some_inj}
use Rattle.shared_state.specs.Fetches.{generation_in}
use Rattle.shared_state.specs.Log.{Log}
use Rattle.chunk_plans.specs.declared.write.ChunkWrite.{ChunkWrite}
use Rattle.chunk_plans.specs.declared.write.Ready.{Ready}
use Rattle.chunk_plans.specs.Writes.{IsWrite, chunk_of_write, is_base, is_usable}

pub usable_some : (now resized : ℕ) (o : Option Ready) → is_usable now resized o ≡ true → IsSome o
usable_some now resized None is = absurd (cc)
usable_some now resized (Some ready) is = search

-- bytes that were prepared over the chunk of another generation
pub unusable : (now resized : ℕ) (o : Option Ready) (ready : Ready) (b : Bool) → o ≡ Some ready → b ≡ is_base now ready.generation → b ≡ false → false ≡ is_usable now resized o
unusable now resized o ready b is by fails = sym (ap (is_usable now resized) is ∙ ap (λ t. t && resized == ready.resized) (sym by ∙ fails))

-- over the chunk of this one, or over none
pub usable : (now resized : ℕ) (o : Option Ready) (ready : Ready) (b : Bool) → o ≡ Some ready → b ≡ is_base now ready.generation → b ≡ true → (resized == ready.resized) ≡ is_usable now resized o
usable now resized o ready b is by holds = sym (ap (is_usable now resized) is ∙ ap (λ t. t && resized == ready.resized) (sym by ∙ holds))

-- the chunk of a write has its key
abbrev has_key : (events : History) (w : ChunkWrite) (write : IsWrite events w) (key : List ℕ) → key ≡ w.key → HasKey events (chunk_of_write w) key
has_key events w write key same = record {
  array = write.0;
  known = write.1.known;
  valid = write.1.valid;
  named = ap (λ o. key_in o (chunk_of_write w)) write.1.known ∙ ap Some (write.1.named ∙ sym same);
}

-- the generation that the table tells of it
pub generation_of_write : (log : Log) (w : ChunkWrite) (write : IsWrite log.events w) (key : List ℕ) (n : ℕ) (k : Known) → key ≡ w.key → ((c : Chunk) (has : HasKey log.events c key) → n ≡ generation_in log has.array key) → known_after log.events w.array ≡ Some k
    → n ≡ generation_in log k w.key
generation_of_write log w write key n k same table known =
    table (chunk_of_write w) (has_key log.events w write key same) ∙ ap (λ l. generation_in log l key) (some_inj write.0 k (sym write.1.known ∙ known)) ∙ ap (generation_in log k) same
