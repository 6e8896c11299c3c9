use Rattle.std.proofs.Common.{◌≡◌, ◌+◌, ◌*◌, drop}
use Rattle.cells.specs.Places.{cell_count, c_place}
use Rattle.chunk_grid.specs.Grid.{numbers, chunk_index, within_chunk}
use Rattle.chunk_grid.specs.Rows.{all_kept}
use Rattle.chunk_grid.proofs.rows.located.Given as goal

-- each number so far, a whole row further, and that in the dimensions left are the whole
abbrev pub invariant-loop-j : goal.invariant-loop-j
invariant-loop-j l = record {
  number : l.number * cell_count (drop l.j l.counts) + c_place (drop l.j l.counts) (drop l.j (chunk_index l.chunk (numbers (all_kept l.want l.flags l.target))))
      ≡ c_place l.counts (chunk_index l.chunk (numbers (all_kept l.want l.flags l.target)));
  place : l.place * cell_count (drop l.j l.chunk) + c_place (drop l.j l.chunk) (drop l.j (within_chunk l.chunk (numbers (all_kept l.want l.flags l.target))))
      ≡ c_place l.chunk (within_chunk l.chunk (numbers (all_kept l.want l.flags l.target)));
}
