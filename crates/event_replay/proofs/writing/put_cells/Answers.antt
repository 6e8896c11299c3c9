use Rattle.std.proofs.Common.{◌∙◌, ℕ, List, sym, subst}
use Rattle.std.proofs.lemmas.Result.{on_ok_weaker}
use Rattle.history.specs.Writes.{puts_of}
use Rattle.history.specs.declared.event.Op.TheVariants.{Write}
use Rattle.transaction_cells.specs.declared.view_cells.Piece.{Piece}
use Rattle.event_replay.specs.Pieces.{ArePut}
use Rattle.event_replay.proofs.OpLaws.{word_count, leaf_count, write_put, behind_more}
use Rattle.event_replay.proofs.writing.put_cells.Goals as goal

pub back-requires-clause-count : goal.back-requires-clause-count
back-requires-clause-count c = word_count c.requires.0 (Write c.requires.2 c.args.words.now) c.requires.4 c.requires.5 ∙ sym (leaf_count c.requires.2 c.args.cells.now c.requires.6)

pub back-requires-clause-lanes : goal.back-requires-clause-lanes
back-requires-clause-lanes c = c.requires.6.lanes

pub put_pieces-requires : goal.put_pieces-requires
put_pieces-requires c =
    let h = c.requires.0 in
    let puts = puts_of c.requires.1 in
    let v = c.requires.2 in
    let words = c.args.words.now in
    let cells = c.args.cells.now in
    let s = c.args.store.now in (
      h,
      puts,
      v,
      words,
      subst (λ (ps : List Piece). ArePut h c.args.number puts v words c.deref.result.now ps s) (sym c.items.ensures)
          (subst (λ (ks : List ℕ). ArePut h c.args.number puts v words ks cells.pieces s) (sym c.deref.ensures.value)
          (write_put h c.args.number c.requires.1 v words c.in_ok-kept.kept.items cells s c.requires.3 c.requires.4 c.requires.5 c.requires.6 c.in_ok-kept.ensures)),
    )

pub returns : goal.returns
returns c =
    let words = c.args.words.now in
    let cells = c.args.cells.now in
    let s = c.args.store.now in
    on_ok_weaker c.put_pieces.result (λ all. λ h done v behind may has are.
    behind_more h c.args.number done (Write v words) s c.put_pieces.new.store behind
    (all h (puts_of done) v words
    (subst (λ (ps : List Piece). ArePut h c.args.number (puts_of done) v words c.deref.result.now ps s) (sym c.items.ensures)
    (subst (λ (ks : List ℕ). ArePut h c.args.number (puts_of done) v words ks cells.pieces s) (sym c.deref.ensures.value)
    (write_put h c.args.number done v words c.in_ok-kept.kept.items cells s behind may has are c.in_ok-kept.ensures))))) c.put_pieces.ensures
