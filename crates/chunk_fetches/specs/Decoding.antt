-- What decoding the bytes of looks gives.
use Rattle.std.specs.Prelude.{◌≡◌, ℕ, List, ◌∷◌, ◌++◌, Some}
use Rattle.chunk_forms.specs.declared.form.Damage.{Damage}
use Rattle.history.specs.Damaged.{IsDamaged}
use Rattle.history.specs.History.{History}
use Rattle.kv_face.specs.Store.{Contents}
use Rattle.shared_state.specs.Agreement.{Opening}
use Rattle.transaction_cells.specs.declared.view_cells.Piece.{Piece}
use Rattle.chunk_fetches.specs.Looking.{AreFresh}
use Rattle.chunk_fetches.specs.Kept.{chunk_at}
use Rattle.chunk_fetches.specs.declared.error.ReadError.{ReadError}
use Rattle.chunk_fetches.specs.declared.error.ReadError.TheVariants.{View, StoreFailed, Damaged, Shrunk, Memory}
use Rattle.chunk_fetches.specs.declared.looked.Fresh.{Fresh}

-- decoding answers that a chunk is damaged, or that memory is wanting
abbrev pub IsDecodeError : ReadError → Type 0
IsDecodeError (View fault) = ⊥
IsDecodeError (StoreFailed event) = ⊥
IsDecodeError (Damaged key cause) = Unit {0}
IsDecodeError (Shrunk key now) = ⊥
IsDecodeError Memory = Unit {0}

-- the chunk of one of these pieces is damaged, where the store told its contents at the start; the pieces before it have their chunks
pub record HasDamagedAmong (opening : Opening) (events : History) (pieces : List Piece) (key : List ℕ) (cause : Damage) : Type 0 where
  pub done : List Piece
  pub piece : Piece
  pub rest : List Piece
  pub split : pieces ≡ done ++ piece ∷ rest
  pub before : List Fresh
  pub sound : AreFresh opening events done before
  pub damaged : (start : Contents) → opening.store.contents ≡ Some start → IsDamaged start events (chunk_at piece.id) key cause
