-- What a transaction has read from the arrays, and what it sees.
use Rattle.std.specs.Prelude.{ℕ, List, [], ◌∷◌, ◌++◌, map, filter, filter_map, take, Bool, not, Option, Some, None, Result, Ok, Err, if◌then◌else◌}
use Rattle.std.specs.List.{list_any}
use Rattle.kv_face.specs.Store.{Contents}
use Rattle.stack_driver.specs.declared.view.View.{View}
use Rattle.stack_driver.specs.Targets.{Cell, is_cell, Target}
use Rattle.stack_driver.specs.Views.{targets_of}
use Rattle.stack_driver.specs.declared.error.TargetError.{TargetError}
use Rattle.history.specs.declared.event.Op.{Op}
use Rattle.history.specs.declared.event.Op.TheVariants.{Write, Read}
use Rattle.history.specs.History.{History}
use Rattle.history.specs.Chunks.{Chunk, is_chunk, chunk_of}
use Rattle.history.specs.Writes.{Put, puts_of, Content, written, read_values}
use Rattle.history.specs.Content.{world_after}

-- the cell of a target, if there is one
abbrev pub target_cell : Result Target TargetError → Option Cell
target_cell (Ok t) = Some t.cell
target_cell (Err e) = None

-- the cells that a view names
abbrev pub cells_named : View → List Cell
cells_named view = filter_map target_cell (targets_of view)

-- a word is put at the cell
abbrev pub is_put : List Put → Cell → Bool
is_put puts x = list_any (λ p. is_cell p.0 x) puts

-- the cells of a view that no earlier operation wrote
abbrev pub unwritten : List Op → View → List Cell
unwritten before view = filter (λ x. not (is_put (puts_of before) x)) (cells_named view)

-- the cells that some Read names before any Write of the operations has named them
abbrev pub first_reads : List Op → List Op → List Cell
first_reads before [] = []
first_reads before (Write view words ∷ ops) = first_reads (before ++ Write view words ∷ []) ops
first_reads before (Read view words ∷ ops) = unwritten before view ++ first_reads (before ++ Read view words ∷ []) ops

-- the chunks of these cells
abbrev pub footprint_of : History → List Op → List Chunk
footprint_of events ops = map (chunk_of events) (first_reads [] ops)

-- at which number of events each chunk was read
abbrev pub Marks : Type 0
Marks = List (Chunk × ℕ)

-- the first mark of the chunk, 0 where there is none
abbrev pub mark_of : Marks → Chunk → ℕ
mark_of [] c = 0
mark_of (m ∷ marks) c = if is_chunk m.0 c then m.1 else mark_of marks c

-- the chunk has a mark
abbrev pub has_mark : Marks → Chunk → Bool
has_mark marks c = list_any (λ m. is_chunk m.0 c) marks

-- the arrays as they were at each chunk's mark
abbrev pub marked_world : Contents → History → (Chunk → ℕ) → Content
marked_world start events marks x = world_after start (take (marks (chunk_of events x)) events) x

-- what a transaction sees of a view: its own last write of each cell, else the cell at its chunk's mark
abbrev pub visible_values : Contents → History → (Chunk → ℕ) → List Op → View → List (Option ℕ)
visible_values start events marks ops view = read_values (written ops (marked_world start events marks)) view
