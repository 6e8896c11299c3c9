-- What a read asks of a history.
use Rattle.std.specs.Prelude.{◌≡◌, ◌≤◌, ◌<◌, ◌↔◌, ℕ, get_or, List, [], ◌∷◌, length, map, take, true, Option, Some, None, option_map}
use Rattle.std.specs.FinMap as finmap
use Rattle.std.specs.List.{AllByRecursion}
use Rattle.std.specs.Str.{bytes_eq}
use Rattle.std.specs.Global.{Vec}
use Rattle.cast_driver.specs.declared.cast.Cast.{Cast}
use Rattle.cells.specs.Places.{c_index}
use Rattle.chunk_versions.specs.Marks.{HasCasts, casts_of}
use Rattle.chunk_versions.specs.declared.asked.AskedCell.{AskedCell}
use Rattle.history.specs.declared.event.Op.{Op}
use Rattle.history.specs.Arrays.{Known, chunk_shape}
use Rattle.history.specs.Chunks.{Chunk, cell_at}
use Rattle.history.specs.History.{History}
use Rattle.history.specs.Legal.{IsLegal, HasTarget}
use Rattle.history.specs.Content.{world_after}
use Rattle.history.specs.Writes.{Content}
use Rattle.history.specs.Reads.{visible_values}
use Rattle.history.specs.Targets.{Cell}
use Rattle.stack_driver.specs.Targets.{outwards}
use Rattle.stack_driver.specs.Views.{targets_of}
use Rattle.stack_driver.specs.declared.view.View.{View}
use Rattle.stack_targets.specs.Landings.{leaves_of}
use Rattle.transaction_cells.specs.Lanes.{LaneSeen}
use Rattle.transaction_cells.specs.Operations.{AreStaged, HasSites, IsLeafIn}
use Rattle.transaction_cells.specs.Pieces.{AreCells}
use Rattle.transaction_cells.specs.Sites.{Site, sites_of}
use Rattle.transaction_cells.specs.Staging.{StagedChunk, word_in}
use Rattle.transaction_cells.specs.declared.view_cells.Piece.{Piece}
use Rattle.transaction_cells.specs.declared.view_cells.ViewCells.{ViewCells}
use Rattle.version_store.specs.Shown.{AreAskedOf, AreShownThen, IsShownFrom}
use Rattle.version_store.specs.Ids.{IsChunkIn}
use Rattle.event_replay.specs.declared.demand.AskedPiece.{AskedPiece}
use Rattle.event_replay.specs.declared.demand.Demand.{Demand}

-- a view shows these words to a transaction with these operations: each chunk as it was at a moment from this one on, under its own Writes
pub record IsSeenFrom (history : History) (from : ℕ) (ops : List Op) (view : View) (words : List ℕ) : Type 0 where
  pub marks : Chunk → ℕ
  pub not_before : (c : Chunk) → from ≤ marks c
  pub within : (c : Chunk) → marks c ≤ length history
  pub shown : map Some words ≡ visible_values finmap.empty history marks ops view

-- a read through a view of arrays of a legal history, whose cells are these and of which this is staged
pub record IsReadIn (history : History) (ops : List Op) (view : View) (words : List ℕ) (cells : ViewCells) (staged : List StagedChunk) : Type 0 where
  pub legal : IsLegal finmap.empty history
  pub leaves : AllByRecursion (IsLeafIn history) (leaves_of view)
  pub sites : HasSites view
  pub targets : AllByRecursion (HasTarget history) (targets_of view)
  pub cut : AreCells (sites_of view) cells
  pub own : AreStaged history ops staged
  pub count : length words ≡ length (sites_of view)

-- the cell at a place of a chunk
abbrev pub cell_of : Known → Chunk → AskedCell → Cell
cell_of k c asked = cell_at k c (c_index (chunk_shape k.info) asked.place)

-- the cells that no word covers
abbrev pub bare : List AskedCell → List (Option ℕ) → List AskedCell
bare [] own = []
bare (a ∷ asked) [] = []
bare (a ∷ asked) (None ∷ own) = a ∷ bare asked own
bare (a ∷ asked) (Some word ∷ own) = bare asked own

-- the words that cover the others are shown as they were asked for
abbrev pub AreCovered : List (List Cast) → List AskedCell → List (Option ℕ) → Type 0
AreCovered casts [] own = Unit {0}
AreCovered casts (a ∷ asked) [] = Unit {0}
AreCovered casts (a ∷ asked) (None ∷ own) = AreCovered casts asked own
AreCovered casts (a ∷ asked) (Some word ∷ own) = (outwards (casts_of casts a) word ≡ a.word) × AreCovered casts asked own

-- what is left of them, where the others are
abbrev pub IsBareOf : List (List Cast) → List AskedCell → List (Option ℕ) → Option (Vec AskedCell) → Type 0
IsBareOf casts asked own None = ¬ AreCovered casts asked own
IsBareOf casts asked own (Some rest) = (rest.items ≡ bare asked own) × AreCovered casts asked own

-- each cell of a chunk at which a word is staged shows it as it is asked for
abbrev pub AreOwnIn : List StagedChunk → List ℕ → List Site → List ℕ → Type 0
AreOwnIn staged id [] words = Unit {0}
AreOwnIn staged id (s ∷ sites) [] = Unit {0}
AreOwnIn staged id (s ∷ sites) (word ∷ words) =
    (bytes_eq s.id id ≡ true → (own : ℕ) → word_in staged s.id s.place ≡ Some own → outwards s.target.casts own ≡ word) × AreOwnIn staged id sites words

-- and each other one was there so after so many events
abbrev pub AreOthersIn : Content → List StagedChunk → List ℕ → List Site → List ℕ → Type 0
AreOthersIn content staged id [] words = Unit {0}
AreOthersIn content staged id (s ∷ sites) [] = Unit {0}
AreOthersIn content staged id (s ∷ sites) (word ∷ words) =
    (bytes_eq s.id id ≡ true → word_in staged s.id s.place ≡ None → option_map (outwards s.target.casts) (content s.target.cell) ≡ Some word) × AreOthersIn content staged id sites words

-- these are cells of a chunk of the history, through casts that are there
pub record IsPieceIn (history : History) (casts : List (List Cast)) (p : AskedPiece) : Type 0 where
  pub array : Known
  pub chunk : Chunk
  pub in_history : IsChunkIn history array chunk p.id
  pub cells : AreAskedOf history array chunk (cell_of array chunk) p.asked.items
  pub casts_there : AllByRecursion (HasCasts casts) p.asked.items

-- at a moment from this one on they were there as they were asked for
pub record IsMetFrom (history : History) (from : ℕ) (casts : List (List Cast)) (p : AskedPiece) : Type 0 where
  pub array : Known
  pub chunk : Chunk
  pub in_history : IsChunkIn history array chunk p.id
  pub moment : ℕ
  pub shown : IsShownFrom history casts (cell_of array chunk) p.asked.items from moment

-- so are those of all pieces
abbrev pub AreMetFrom : History → ℕ → Demand → Type 0
AreMetFrom history from d = AllByRecursion (IsMetFrom history from d.casts.items) d.pieces.items

abbrev pub IsDemandIn : History → Demand → Type 0
IsDemandIn history d = AllByRecursion (IsPieceIn history d.casts.items) d.pieces.items

-- what was told of one of the pieces of a read's cells
abbrev pub IsTellingPiece : ViewCells → List StagedChunk → List ℕ → List ℕ → Option AskedPiece → Type 0
IsTellingPiece cells staged words id None =
    (history : History) (ops : List Op) (view : View) → IsReadIn history ops view words cells staged → ¬ AreOwnIn staged id (sites_of view) words
IsTellingPiece cells staged words id (Some p) =
    (p.id ≡ id) × ((history : History) (ops : List Op) (view : View) → IsReadIn history ops view words cells staged
    → AreOwnIn staged id (sites_of view) words × ((casts : List (List Cast)) → casts ≡ map (λ (lane : LaneSeen). lane.casts) cells.lanes → IsPieceIn history casts p
    × ((k : Known) (c : Chunk) (m : ℕ) → IsChunkIn history k c id → AreOthersIn (world_after finmap.empty (take m history)) staged id (sites_of view) words ↔ AreShownThen history casts (cell_of k c) m p.asked.items)))

-- and of all of them: each is told of, or one has an own word that is shown otherwise
abbrev pub AreTellingPieces : ViewCells → List StagedChunk → List ℕ → Option (Vec AskedPiece) → Type 0
AreTellingPieces cells staged words None =
    (history : History) (ops : List Op) (view : View) → IsReadIn history ops view words cells staged → ¬ ((id : List ℕ) → AreOwnIn staged id (sites_of view) words)
AreTellingPieces cells staged words (Some pieces) =
    (length pieces.items ≡ length cells.pieces) × ((i : ℕ) (d : Piece) (e : AskedPiece) → i < length cells.pieces → IsTellingPiece cells staged words (get_or cells.pieces i d).id (Some (get_or pieces.items i e)))

-- what is asked for is there exactly where the view shows the words
abbrev pub TellsSeen : ViewCells → List StagedChunk → List ℕ → Option Demand → Type 0
TellsSeen cells staged words None = (history : History) (from : ℕ) (ops : List Op) (view : View) → IsReadIn history ops view words cells staged → ¬ IsSeenFrom history from ops view words
TellsSeen cells staged words (Some d) =
    (history : History) (from : ℕ) (ops : List Op) (view : View) → from ≤ length history → IsReadIn history ops view words cells staged
    → IsDemandIn history d × (IsSeenFrom history from ops view words ↔ AreMetFrom history from d)
