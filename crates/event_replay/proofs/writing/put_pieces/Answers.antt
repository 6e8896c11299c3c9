use Rattle.std.proofs.Common.{◌++◌, ◌<◌, List, length, take, sym, subst, append-nil, arith}
use Rattle.std.proofs.lemmas.List.{take_all}
use Rattle.history.specs.Writes.{Put}
use Rattle.version_store.specs.Stores.{IsPartStoreOf}
use Rattle.transaction_cells.specs.declared.view_cells.Piece.{Piece}
use Rattle.event_replay.proofs.PutLaws.{pieces_so_far, put_at_piece, piece_more, pieces_behind}
use Rattle.event_replay.proofs.writing.put_pieces.Goals as goal

pub loop-i-init : goal.loop-i-init
loop-i-init c = λ h puts v words are. subst (λ (ps : List Put). IsPartStoreOf h ps c.args.store.now) (sym (append-nil puts)) are.put.part

pub put_piece-requires : goal.put_piece-requires
put_piece-requires c =
    let h = c.requires.0 in
    let puts = c.requires.1 in
    let v = c.requires.2 in
    let words = c.requires.3 in
    let are = c.requires.4 in
    let qs = puts ++ pieces_so_far h v words (take c.loop-i.i c.args.pieces.now) in (
      h,
      qs,
      v,
      words,
      put_at_piece h c.args.number puts qs v words c.args.kept.now c.args.pieces.now c.loop-i.i c.piece_at.result.now c.args.store.now c.loop-i.store are (c.loop-i.invariant h puts v words are) (omega arith) (c.piece_at.ensures c.piece_at.result.now),
    )

pub loop-i-preserved : goal.loop-i-preserved
loop-i-preserved c = λ h puts v words are.
    let qs = puts ++ pieces_so_far h v words (take c.loop-i.i c.args.pieces.now) in
    let part = c.loop-i.invariant h puts v words are in
    let within : c.loop-i.i < length c.args.pieces.now = omega arith in
    let at = put_at_piece h c.args.number puts qs v words c.args.kept.now c.args.pieces.now c.loop-i.i c.piece_at.result.now c.args.store.now c.loop-i.store are part within (c.piece_at.ensures c.piece_at.result.now) in
    subst (λ (ps : List Put). IsPartStoreOf h ps c.put_piece.new.store)
    (piece_more h v words puts c.args.pieces.now c.loop-i.i c.piece_at.result.now within (c.piece_at.ensures c.piece_at.result.now))
    (c.in_ok-put_piece.ensures h qs v words at)

pub returns : goal.returns
returns c = λ h puts v words are.
    pieces_behind h c.args.number puts v words c.args.kept.now c.args.pieces.now c.args.store.now c.loop-i.store are
    (subst (λ (ps : List Piece). IsPartStoreOf h (puts ++ pieces_so_far h v words ps) c.loop-i.store) (take_all c.loop-i.i c.args.pieces.now (omega arith)) (c.loop-i.invariant h puts v words are))
