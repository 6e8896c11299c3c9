-- Chunks by their ids, with the runs of the pairs so far.
use Rattle.std.specs.Prelude.{◌≡◌, ℕ, List, [], ◌∷◌, IfSome, length}
use Rattle.std.specs.BTreeMap.{BTreeMap}
use Rattle.strided_runs.specs.Growing.{Grown, runs_of_growing}
pub use Rattle.strided_runs.specs.Growing.{with_pair, grown_of, IsUpTo}
use Rattle.transaction_cells.specs.Found.{Id, found}
use Rattle.transaction_cells.specs.Lanes.{size_among}
use Rattle.transaction_cells.specs.Sites.{Site, pairs_at}
use Rattle.transaction_cells.specs.Lanes.{LaneSeen}
use Rattle.transaction_cells.specs.declared.view_cells.Piece.{Piece}

abbrev pub Cuts : Type 0
Cuts = BTreeMap Id Grown

-- the cuts have the pairs of the sites so far
pub record AreCuts (sites : List Site) (cuts : Cuts) : Type 0 where
  pub runs : (id : List ℕ) → found cuts.entries id ≡ grown_of (pairs_at id 0 sites)
  pub before : (id : List ℕ) → IfSome (found cuts.entries id) (IsUpTo (length sites))

-- the cells of a chunk, by its id
abbrev pub size_at : List LaneSeen → List ℕ → ℕ
size_at lanes [] = 0
size_at lanes (array ∷ index) = size_among lanes array

-- the piece of an entry
abbrev pub piece_of : List LaneSeen → Id × Grown → Piece
piece_of lanes entry = record { id = entry.0.items; size = size_at lanes entry.0.items; runs = runs_of_growing entry.1 }
