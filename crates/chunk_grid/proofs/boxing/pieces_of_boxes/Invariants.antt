use Rattle.std.proofs.Common.{◌≡◌, map}
use Rattle.chunk_grid.specs.Boxes.{piece_of_box}
use Rattle.chunk_grid.proofs.boxing.pieces_of_boxes.Given as goal

abbrev pub invariant-loop-boxed : goal.invariant-loop-boxed
invariant-loop-boxed l = l.pieces.items ≡ map (piece_of_box l.t.domain.dims l.t.maps l.grid.chunk) l.yielded
