-- Chunks by their indices, with the runs of the pairs so far.
use Rattle.std.specs.Prelude.{◌≡◌, ℕ, List, Option, Vec, IfSome, map, length}
use Rattle.std.specs.declared.alloc.Global.{Global}
use Rattle.std.specs.declared.cmp.Ordering.{Ordering}
use Rattle.std.specs.Ordering.{nat_cmp}
use Rattle.std.specs.Cmp.Lexicographic.{slice_cmp}
use Rattle.std.specs.BTreeMap.{BTreeMap, get, keys}
use Rattle.chunk_grid.specs.declared.piece.RunPiece.{RunPiece}
use Rattle.chunk_grid.specs.Pieces.{pairs_in, touched}
use Rattle.strided_runs.specs.Growing.{Grown, runs_of_growing}
pub use Rattle.strided_runs.specs.Growing.{with_pair, grown_of, IsUpTo}

abbrev pub Key : Type 0
Key = Vec ℕ Global

abbrev pub Cuts : Type 0
Cuts = BTreeMap Key Grown

abbrev pub by_key : Key → Key → Ordering
by_key x y = slice_cmp nat_cmp x.items y.items

-- the runs at a chunk
abbrev pub at : Cuts → Key → Option Grown
at cuts key = get by_key cuts key

-- the chunk indices
abbrev pub chunks_of : Cuts → List (List ℕ)
chunks_of cuts = map (λ key. key.items) (keys cuts)

-- the cuts have the pairs of the index vectors so far
pub record AreCuts (chunk : List ℕ) (targets : List (List ℕ)) (cuts : Cuts) : Type 0 where
  pub chunks : chunks_of cuts ≡ touched chunk targets
  pub runs : (key : Key) → at cuts key ≡ grown_of (pairs_in chunk key.items targets)
  pub before : (key : Key) → IfSome (at cuts key) (IsUpTo (length targets))

-- the pieces of the entries
abbrev pub piece_of : Key × Grown → RunPiece
piece_of entry = record { chunk = entry.0.items; runs = runs_of_growing entry.1 }
