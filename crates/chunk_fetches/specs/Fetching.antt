-- Why the chunks that a read needs were not fetched, and what became of its pass.
use Rattle.std.specs.Prelude.{◌≡◌, List, []}
use Rattle.history.specs.declared.event.Event.{Event}
use Rattle.shared_state.specs.Agreement.{Opening}
use Rattle.transaction_cells.specs.declared.view_cells.Piece.{Piece}
use Rattle.chunk_fetches.specs.Decoding.{HasDamagedAmong}
use Rattle.chunk_fetches.specs.Turns.{HasFailedTurn, HasPassed, HasTurned}
use Rattle.chunk_fetches.specs.declared.error.LookError.{LookError}
use Rattle.chunk_fetches.specs.declared.error.LookError.TheVariants as look
use Rattle.chunk_fetches.specs.declared.error.ReadError.{ReadError}
use Rattle.chunk_fetches.specs.declared.error.ReadError.TheVariants.{View, StoreFailed, Damaged, Shrunk, Memory}
use Rattle.turn_book.specs.Passes.{BookView, PassView}

-- the same refusal
abbrev pub as_read_error : LookError → ReadError
as_read_error (look.StoreFailed event) = StoreFailed event
as_read_error look.Memory = Memory

-- the store failed in the turn; or, where the store told its contents at the start, the first damaged chunk as it was at the end of the turn; or
-- want of memory
abbrev pub IsFetchError : BookView Opening → PassView Event Opening → PassView Event Opening → List Piece → ReadError → Type 0
IsFetchError book old new pieces (View fault) = ⊥
IsFetchError book old new pieces (StoreFailed event) = HasFailedTurn book old new pieces event
IsFetchError book old new pieces (Damaged key cause) = HasTurned book old new [] × HasDamagedAmong book.fixed new.seen pieces key cause
IsFetchError book old new pieces (Shrunk key now) = ⊥
IsFetchError book old new pieces Memory = HasTurned book old new []

-- the same once the chunks were looked at; no further turn was taken before `Damaged`
abbrev pub IsDecodeRefusal : BookView Opening → PassView Event Opening → PassView Event Opening → List Piece → ReadError → Type 0
IsDecodeRefusal book old new pieces (View fault) = ⊥
IsDecodeRefusal book old new pieces (StoreFailed event) = ⊥
IsDecodeRefusal book old new pieces (Damaged key cause) = (new ≡ old) × HasDamagedAmong book.fixed old.seen pieces key cause
IsDecodeRefusal book old new pieces (Shrunk key now) = ⊥
IsDecodeRefusal book old new pieces Memory = HasPassed book old new []
