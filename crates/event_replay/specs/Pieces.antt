-- The cells of an operation, piece by piece.
use Rattle.std.specs.Prelude.{◌≡◌, ◌≤◌, ◌<◌, ℕ, ◌+◌, List, [], length, map, filter, get_or, Err, IsTrue}
use Rattle.std.specs.FinMap as finmap
use Rattle.std.specs.List.{AllByRecursion, list_all}
use Rattle.std.specs.Str.{bytes_eq}
use Rattle.cast_driver.specs.declared.cast.Cast.{Cast}
use Rattle.history.specs.declared.event.Op.TheVariants.{Write, Read}
use Rattle.history.specs.Chunks.{chunk_of}
use Rattle.history.specs.History.{History}
use Rattle.history.specs.Legal.{IsLegal}
use Rattle.history.specs.Writes.{Put, puts_of_op}
use Rattle.index_transform.specs.Cells.{cells_of, is_finite}
use Rattle.stack_driver.specs.Conditions.{IsView}
use Rattle.stack_driver.specs.Views.{look_of}
use Rattle.stack_driver.specs.declared.view.View.{View}
use Rattle.stack_targets.specs.Buffers.{all_targets}
use Rattle.stack_targets.specs.Landings.{leaves_of}
use Rattle.stack_targets.specs.declared.error.TargetsError.{TargetsError}
use Rattle.transaction_cells.specs.Lanes.{AreAlike}
use Rattle.transaction_cells.specs.Operations.{HasSites}
use Rattle.transaction_cells.specs.Pieces.{IsPiece, ArePieces}
use Rattle.transaction_cells.specs.Sites.{Site, sites_of}
use Rattle.transaction_cells.specs.declared.view_cells.Piece.{Piece}
use Rattle.version_store.specs.Ids.{id_of}
use Rattle.version_store.specs.Stores.{IsPartStoreOf}
use Rattle.version_store.specs.declared.store.VersionStore.{VersionStore}
use Rattle.event_replay.specs.Placed.{AreKept}
use Rattle.event_replay.specs.Replays.{MayFollow}

-- a view whose cells all have a target, at most 2 ^ 22 of them
pub record CanLocate (v : View) : Type 0 where
  pub view : IsView v
  pub finite : IsTrue (list_all is_finite (look_of v).dims)
  pub few : length (cells_of (look_of v).dims) ≤ 4194304
  pub alike : AreAlike (leaves_of v)
  pub targets : (e : TargetsError) → ¬ (all_targets v ≡ Err e)

-- what a Write puts into the chunk of this id
abbrev pub puts_under : History → View → List ℕ → List ℕ → List Put
puts_under history v words id = filter (λ (p : Put). bytes_eq (id_of (chunk_of history p.0)) id) (puts_of_op (Write v words))

-- the words of a Write, taken back through the casts, are put behind these words of the next commit of a legal history
pub record IsPut (history : History) (number : ℕ) (puts : List Put) (v : View) (words kept : List ℕ) (s : VersionStore) : Type 0 where
  pub legal : IsLegal finmap.empty history
  pub next : number ≡ length history + 1
  pub part : IsPartStoreOf history puts s
  pub may : MayFollow history (Write v words)
  pub sites : HasSites v
  pub count : length words ≡ length (sites_of v)
  pub taken : AreKept kept 0 (sites_of v) words
  pub whole : length kept ≡ length (sites_of v)

-- so are those of one piece, and of all pieces
pub record IsPutAt (history : History) (number : ℕ) (puts : List Put) (v : View) (words kept : List ℕ) (p : Piece) (s : VersionStore) : Type 0 where
  pub put : IsPut history number puts v words kept s
  pub piece : IsPiece (sites_of v) p

pub record ArePut (history : History) (number : ℕ) (puts : List Put) (v : View) (words kept : List ℕ) (pieces : List Piece) (s : VersionStore) : Type 0 where
  pub put : IsPut history number puts v words kept s
  pub cut : ArePieces (sites_of v) pieces

-- a Read asks for its words, behind these words of the next commit of a legal history
pub record IsAsked (history : History) (puts : List Put) (v : View) (words leaves : List ℕ) (casts : List (List Cast)) (s : VersionStore) : Type 0 where
  pub legal : IsLegal finmap.empty history
  pub part : IsPartStoreOf history puts s
  pub may : MayFollow history (Read v words)
  pub sites : HasSites v
  pub count : length words ≡ length (sites_of v)
  pub lanes : AllByRecursion (λ leaf. leaf < length casts) leaves
  pub through : map (λ (site : Site). site.target.casts) (sites_of v) ≡ map (λ leaf. get_or casts leaf []) leaves

pub record IsAskedAt (history : History) (puts : List Put) (v : View) (words leaves : List ℕ) (casts : List (List Cast)) (p : Piece) (s : VersionStore) : Type 0 where
  pub asked : IsAsked history puts v words leaves casts s
  pub piece : IsPiece (sites_of v) p

pub record AreAskedIn (history : History) (puts : List Put) (v : View) (words leaves : List ℕ) (casts : List (List Cast)) (pieces : List Piece) (s : VersionStore) : Type 0 where
  pub asked : IsAsked history puts v words leaves casts s
  pub cut : ArePieces (sites_of v) pieces
