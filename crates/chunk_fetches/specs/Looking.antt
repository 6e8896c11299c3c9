-- What a read learns of the chunks that it needs.
use Rattle.std.specs.Prelude.{◌≡◌, ◌⊎◌, ◌+◌, ℕ, List, [], ◌∷◌, ◌++◌, length, Some}
use Rattle.std.specs.List.{AllByRecursion}
use Rattle.history.specs.Arrays.{Known, known_after}
use Rattle.history.specs.Chunks.{Chunk, key_of}
use Rattle.history.specs.History.{History}
use Rattle.history.specs.Own.{fault}
use Rattle.history.specs.ReadRows.{mount_of}
use Rattle.shared_state.specs.Agreement.{Opening, Agrees}
use Rattle.shared_state.specs.Fetches.{IsChunkOf}
use Rattle.shared_state.specs.Log.{Log}
use Rattle.shared_state.specs.Looks.{IsLook}
use Rattle.shared_state.specs.Seen.{StoreSeen}
use Rattle.chunk_fetches.specs.Kept.{IsChunkThen, chunk_at}
use Rattle.chunk_fetches.specs.declared.looked.Looked.{Looked}
use Rattle.chunk_fetches.specs.declared.looked.Fresh.{Fresh}
use Rattle.transaction_cells.specs.declared.view_cells.Piece.{Piece}

-- a look at a chunk of a state that agreed with the opening, and had these events
pub record IsLookedAt (opening : Opening) (events : History) (c : Chunk) (l : Looked) : Type 0 where
  pub store : StoreSeen
  pub log : Log
  pub events_are : log.events ≡ events
  pub agrees : Agrees opening store log
  pub chunk : IsChunkOf events c
  pub look : IsLook store log c l.look
  pub key : key_of events c ≡ Some l.key

-- one for each piece
abbrev pub AreLookedAt : Opening → History → List Piece → List Looked → Type 0
AreLookedAt opening events [] [] = Unit {0}
AreLookedAt opening events [] (l ∷ looks) = ⊥
AreLookedAt opening events (p ∷ pieces) [] = ⊥
AreLookedAt opening events (p ∷ pieces) (l ∷ looks) = IsLookedAt opening events (chunk_at p.id) l × AreLookedAt opening events pieces looks

-- a chunk as it is after these events, under its key
pub record IsFresh (opening : Opening) (events : History) (c : Chunk) (f : Fresh) : Type 0 where
  pub chunk : IsChunkThen opening events c f.snapshot f.bounds
  pub key : key_of events c ≡ Some f.key

abbrev pub AreFresh : Opening → History → List Piece → List Fresh → Type 0
AreFresh opening events [] [] = Unit {0}
AreFresh opening events [] (f ∷ fresh) = ⊥
AreFresh opening events (p ∷ pieces) [] = ⊥
AreFresh opening events (p ∷ pieces) (f ∷ fresh) = IsFresh opening events (chunk_at p.id) f × AreFresh opening events pieces fresh

-- a store call for a chunk failed, which one event more says
pub record HasFailedAt (owner : ℕ) (c : Chunk) (old new : History) (event : ℕ) : Type 0 where
  pub array : Known
  pub known : known_after old c.array ≡ Some array
  pub mount : List ℕ
  pub on_mount : mount_of array.info.home ≡ Some mount
  pub added : new ≡ old ++ fault owner mount ∷ []
  pub number : event ≡ length old + 1

-- a store call failed for the chunk of one of these pieces
abbrev pub HasFailedAmong : ℕ → List Piece → History → History → ℕ → Type 0
HasFailedAmong owner [] old new event = ⊥
HasFailedAmong owner (p ∷ pieces) old new event = HasFailedAt owner (chunk_at p.id) old new event ⊎ HasFailedAmong owner pieces old new event

-- each piece is of a chunk of an array of the history
abbrev pub AreChunks : History → List Piece → Type 0
AreChunks events pieces = AllByRecursion (λ (p : Piece). IsChunkOf events (chunk_at p.id)) pieces
