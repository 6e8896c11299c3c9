use Rattle.std.proofs.Common.{◌∙◌, ◌+◌, sym, ap, subst, drop}
use Rattle.transaction_cells.specs.Found.{found}
use Rattle.transaction_cells.specs.Tables.{prepared, HasSameWords}
use Rattle.transaction_cells.proofs.StagingLaws.{next_prepared, same_prepared, words_through}
use Rattle.transaction_cells.proofs.staging.prepare.Goals as goal

pub loop-piece-preserved : goal.loop-piece-preserved
loop-piece-preserved c =
    let pieces = c.args.pieces.now in
    let k = c.loop-piece.piece-index in
    let p = c.piece-item.result in
    record {
      rest = λ id.
          ap (prepared (drop (k + 1) pieces) id) (c.in_ok-add.ensures.ok id)
          ∙ sym (next_prepared pieces k p id (found c.loop-piece.table.entries id) c.loop-piece-test.true c.piece-item.is) ∙ c.loop-piece.invariant.rest id;
      words = λ id. words_through (found c.args.table.now.entries id) (found c.loop-piece.table.entries id) (found c.add.new.table.entries id) (c.loop-piece.invariant.words id)
          (subst (HasSameWords (found c.loop-piece.table.entries id)) (sym (c.in_ok-add.ensures.ok id)) (same_prepared p id (found c.loop-piece.table.entries id)));
    }
