use Rattle.std.proofs.Common.{◌∙◌, ◌+◌, sym, ap, subst, drop, length}
use Rattle.cells.specs.Written.{words_seen}
use Rattle.transaction_cells.specs.Found.{found}
use Rattle.transaction_cells.specs.Tables.{pieces_written, MayWrite}
use Rattle.transaction_cells.proofs.StagingLaws.{may_after, next_may, next_written}
use Rattle.transaction_cells.proofs.staging.write.Goals as goal

pub write_piece-requires : goal.write_piece-requires
write_piece-requires c id =
    ((next_may c.args.pieces.now c.loop-piece.piece-index c.piece-item.result id (length (words_seen c.args.words)) (found c.loop-piece.table.entries id) c.loop-piece-test.true c.piece-item.is (c.loop-piece.invariant.may id)).0, tt)

pub loop-piece-preserved : goal.loop-piece-preserved
loop-piece-preserved c =
    let pieces = c.args.pieces.now in
    let words = words_seen c.args.words in
    let k = c.loop-piece.piece-index in
    let p = c.piece-item.result in
    record {
      rest = λ id.
          ap (pieces_written (drop (k + 1) pieces) id words) (c.write_piece.ensures id)
          ∙ sym (next_written pieces k p id words (found c.loop-piece.table.entries id) c.loop-piece-test.true c.piece-item.is) ∙ c.loop-piece.invariant.rest id;
      may = λ id.
          subst (MayWrite (drop (k + 1) pieces) id (length words)) (sym (c.write_piece.ensures id))
          (may_after p (drop (k + 1) pieces) id words (length words) (found c.loop-piece.table.entries id)
          (next_may pieces k p id (length words) (found c.loop-piece.table.entries id) c.loop-piece-test.true c.piece-item.is (c.loop-piece.invariant.may id)).1);
    }
