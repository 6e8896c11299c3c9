-- What a session's transaction has by its operations.
use Rattle.std.specs.Prelude.{◌≡◌, ◌↔◌, ◌&&◌, ℕ, List, take, Bool, true, Contains, Vec}
use Rattle.std.specs.FinMap as finmap
use Rattle.std.specs.List.{AllByRecursion, list_any}
use Rattle.std.specs.Str.{bytes_eq}
use Rattle.std.specs.declared.alloc.Global.{Global}
use Rattle.stack_driver.specs.Views.{targets_of}
use Rattle.stack_driver.specs.declared.view.View.{View}
use Rattle.stack_targets.specs.Landings.{leaves_of}
use Rattle.history.specs.declared.event.Op.{Op}
use Rattle.history.specs.Chunks.{Chunk}
use Rattle.history.specs.History.{History}
use Rattle.history.specs.Legal.{IsLegal, HasTarget}
use Rattle.history.specs.Reads.{footprint_of}
use Rattle.transaction_cells.specs.Needs.{needs}
use Rattle.transaction_cells.specs.Operations.{AreStaged, IsLeafIn}
use Rattle.transaction_cells.specs.Staging.{StagedChunk}
use Rattle.transaction_cells.specs.declared.view_cells.Piece.{Piece}
use Rattle.version_store.specs.Ids.{id_of}
use Rattle.line_fits.specs.Sweeps.{IsStated, IsViewIn}

abbrev pub Id : Type 0
Id = Vec ℕ Global

-- the id is one of these
abbrev pub has_id : List Id → List ℕ → Bool
has_id ids id = list_any (λ (key : Id). bytes_eq id key.items) ids

-- one of the pieces is of the chunk of this id, and has a cell at which no word is staged
abbrev pub is_needed : List StagedChunk → List Piece → List ℕ → Bool
is_needed staged pieces id = list_any (λ (p : Piece). needs staged p && bytes_eq p.id id) pieces

-- a view of a stated history that may have happened, whose arrays are there after so many events
pub record IsThere (history : History) (upto : ℕ) (view : View) : Type 0 where
  pub legal : IsLegal finmap.empty history
  pub stated : IsStated history
  pub in_history : IsViewIn history view
  pub leaves : AllByRecursion (IsLeafIn (take upto history)) (leaves_of view)
  pub targets : AllByRecursion (HasTarget (take upto history)) (targets_of view)

-- by operations of a transaction, in arrays that are there after so many events, this is staged, and these are the ids
-- of the chunks that their Reads named first
pub record AreOwn (history : History) (upto : ℕ) (ops : List Op) (staged : List StagedChunk)
    (ids : List Id) : Type 0 where
  pub writes : AreStaged (take upto history) ops staged
  pub reads : (c : Chunk) → Contains (footprint_of history ops) c ↔ (has_id ids (id_of c) ≡ true)
