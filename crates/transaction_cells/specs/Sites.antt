-- Where the cells of a view lie by chunks.
use Rattle.std.specs.Prelude.{◌≡◌, ℕ, ◌+◌, ◌<◌, ◌≤◌, List, [], ◌∷◌, length, take, drop, map, Result, Ok, Err, slice_index_or, if◌then◌else◌}
use Rattle.std.specs.Str.{bytes_eq}
use Rattle.cells.specs.Places.{cell_count, c_place}
use Rattle.cells.specs.Runs.{Pair}
use Rattle.history.specs.Chunks.{Chunk, chunk_index, within_chunk}
use Rattle.stack_driver.specs.Targets.{Target}
use Rattle.stack_driver.specs.declared.view.View.{View}
use Rattle.stack_targets.specs.Buffers.{all_landings}
use Rattle.stack_targets.specs.Landings.{Seen, Landing, leaves_of, no_leaf}
use Rattle.transaction_cells.specs.Lanes.{lane_of}
use Rattle.transaction_cells.specs.Lanes.{LaneSeen}
use Rattle.stack_targets.specs.declared.error.TargetsError.{TargetsError}

-- the id of a chunk: its array's number, and behind it the chunk's index
abbrev pub id_of : Chunk → List ℕ
id_of c = c.array ∷ c.index

-- a cell and the casts from it, the id of its chunk, how many cells this has, and the cell's place in it, in C order
pub record Site : Type 0 where
  pub target : Target
  pub id : List ℕ
  pub size : ℕ
  pub place : ℕ

-- the site of an index vector of a leaf's array
abbrev pub site_by : LaneSeen → List ℕ → Site
site_by lane index = record {
  target = record { cell = record { array = lane.array; index = index }; casts = lane.casts };
  id = lane.array ∷ chunk_index lane.chunk index;
  size = cell_count lane.chunk;
  place = c_place lane.chunk (within_chunk lane.chunk index);
}

abbrev pub site_of : List Seen → Landing → Site
site_of leaves l = site_by (lane_of (slice_index_or leaves l.leaf no_leaf)) l.index

-- the sites of landings among leaves, where all cells land
abbrev pub sites_in : List Seen → Result (List Landing) TargetsError → List Site
sites_in leaves (Ok landings) = map (site_of leaves) landings
sites_in leaves (Err e) = []

-- the sites of a view's cells, in C order
abbrev pub sites_of : View → List Site
sites_of v = sites_in (leaves_of v) (all_landings v)

-- the pairs of a chunk: the places of its cells from this one on, in rising order, each beside its place in the chunk
abbrev pub pairs_at : List ℕ → ℕ → List Site → List Pair
pairs_at id k [] = []
pairs_at id k (s ∷ sites) =
    if bytes_eq s.id id then record { view = k; chunk = s.place } ∷ pairs_at id (k + 1) sites
    else pairs_at id (k + 1) sites

-- the lane of no leaf
abbrev pub no_lane : LaneSeen
no_lane = record { array = 0; chunk = []; casts = [] }

-- the sites that buffers tell: a lane's number for each cell, and all index vectors one after another
abbrev pub told_sites : List LaneSeen → List ℕ → List ℕ → List Site
told_sites lanes [] numbers = []
told_sites lanes (leaf ∷ more) numbers =
    let lane = slice_index_or lanes leaf no_lane in
    let rank = length lane.chunk in
    site_by lane (take rank numbers) ∷ told_sites lanes more (drop rank numbers)

-- each number is that of a lane, and there are as many index vectors
abbrev pub AreTold : List LaneSeen → List ℕ → List ℕ → Type 0
AreTold lanes [] numbers = Unit {0}
AreTold lanes (leaf ∷ more) numbers =
    let rank = length (slice_index_or lanes leaf no_lane).chunk in
    (leaf < length lanes) × (rank ≤ length numbers) × AreTold lanes more (drop rank numbers)

-- a landing in one of the leaves, at an index vector of its array's rank
abbrev pub IsLanded : List Seen → Landing → Type 0
IsLanded leaves l =
    (l.leaf < length leaves) × (length l.index ≡ length (slice_index_or leaves l.leaf no_leaf).array.shape)
