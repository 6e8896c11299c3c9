-- Cells that a commit leaves, and how they are kept.
use Rattle.std.specs.Prelude.{ℕ, List, [], ◌∷◌, Option, Some, None}
use Rattle.std.specs.List.{AllByRecursion}
use Rattle.cells.specs.Dense.{DenseCells}
use Rattle.chunk_cache.specs.Snapshot.{SnapshotCells}
use Rattle.history.specs.Chunks.{Chunk}
use Rattle.history.specs.History.{History}
use Rattle.chunk_plans.specs.Agreement.{Opening, Agrees}
use Rattle.chunk_plans.specs.Fetches.{IsChunkOf, MaySettle}
use Rattle.chunk_plans.specs.Log.{Log}
use Rattle.chunk_plans.specs.Seen.{StoreSeen}
use Rattle.chunk_plans.specs.declared.plan.Left.{Left}
use Rattle.chunk_plans.specs.declared.plan.Left.TheVariants.{Stored, Held}
use Rattle.chunk_plans.specs.declared.plan.Planned.{Planned}

-- the cells that are left of a stored chunk
pub record LeftChunk : Type 0 where
  pub chunk : Chunk
  pub cells : DenseCells

-- of a chunk of an array of the history
abbrev pub IsChunkLeft : History → LeftChunk → Type 0
IsChunkLeft events l = IsChunkOf events l.chunk

-- the cells with the number of the event that left them
abbrev pub snapshot_at : ℕ → LeftChunk → SnapshotCells
snapshot_at number l = record { generation = number; cells = l.cells }

-- they may be kept
abbrev pub MayKeep : Opening → Log → ℕ → LeftChunk → Type 0
MayKeep opening log number l = MaySettle opening log l.chunk (snapshot_at number l)

-- behind cells that were kept, a state agrees with each opening by which they may be
abbrev pub KeepsLeft : StoreSeen → Log → ℕ → List LeftChunk → StoreSeen → Log → Type 0
KeepsLeft store log number left next later = (opening : Opening) → Agrees opening store log → AllByRecursion (MayKeep opening log number) left → Agrees opening next later

-- the cells that are left of stored chunks, where they may be kept
abbrev pub cells_by : Chunk → Option DenseCells → List LeftChunk → List LeftChunk
cells_by c None rest = rest
cells_by c (Some cells) rest = record { chunk = c; cells = cells } ∷ rest

abbrev pub left_by : Chunk → Left → List LeftChunk → List LeftChunk
left_by c (Stored bytes kept) rest = cells_by c kept rest
left_by c (Held a snapshot) rest = rest

abbrev pub chunk_of_plan : Planned → Chunk
chunk_of_plan p = record { array = p.array; index = p.chunk.now }

abbrev pub left_cells : List Planned → List LeftChunk
left_cells [] = []
left_cells (p ∷ plans) = left_by (chunk_of_plan p) p.left (left_cells plans)
