use Rattle.std.proofs.Common.{◌≡◌, ◌*◌, take}
use Rattle.cells.specs.Bytes.{byte_count}
use Rattle.chunk_elements.specs.Rows.{moved_row}
use Rattle.chunk_elements.proofs.moving.move_each.Given as goal

abbrev pub invariant-loop-i : goal.invariant-loop-i
invariant-loop-i l = take (l.i * byte_count l.dtype) l.out ≡ moved_row l.dtype l.big l.to l.i l.row.stride l.row.from l.elements
