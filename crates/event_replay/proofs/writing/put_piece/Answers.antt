use Rattle.std.proofs.Common.{◌≡◌, ◌∙◌, ◌^◌, List, length, map, sym, ap, subst}
use Rattle.std.specs.List.{AllByRecursion, flat_map}
use Rattle.std.proofs.lemmas.Result.{on_ok_weaker}
use Rattle.cells.specs.Runs.{IsRunInside, pairs_of}
use Rattle.cells.specs.declared.run.Run.{Run}
use Rattle.transaction_cells.specs.Sites.{sites_of}
use Rattle.version_store.specs.Putting.{ArePutIn, HasRoomUnder}
use Rattle.version_store.specs.declared.placed.PlacedWord.{PlacedWord}
use Rattle.event_replay.specs.Placed.{placed_word}
use Rattle.event_replay.proofs.PutLaws.{op_sites, runs_of_piece, room_of_piece, piece_behind}
use Rattle.event_replay.proofs.writing.put_piece.Goals as goal

pub placed_words-requires : goal.placed_words-requires
placed_words-requires c =
    let at = c.requires.4 in
    subst (λ (rs : List Run). AllByRecursion (λ run. IsRunInside run (length c.args.kept.now) (2 ^ 24)) rs) (sym c.items.ensures)
    (runs_of_piece c.requires.0 (sites_of c.requires.2) c.args.piece.now _ (op_sites c.requires.0 c.args.number c.requires.1 c.requires.2 c.requires.3 c.args.kept.now c.args.store.now at.put) at.piece (sym at.put.whole))

pub put_words-requires : goal.put_words-requires
put_words-requires c =
    let at = c.requires.4 in
    let is : c.in_ok-placed.placed.items ≡ map (placed_word c.args.kept.now) (flat_map pairs_of c.args.piece.now.runs) = c.in_ok-placed.ensures ∙ ap (λ (rs : List Run). map (placed_word c.args.kept.now) (flat_map pairs_of rs)) c.items.ensures in
    let s = c.args.store.now in
    subst (λ id. HasRoomUnder s c.args.number id c.deref.result.now) (sym c.items-2.ensures)
    (subst (λ (ws : List PlacedWord). HasRoomUnder s c.args.number c.args.piece.now.id ws) (sym c.deref.ensures.value)
    (room_of_piece c.requires.0 c.args.number c.requires.1 c.requires.2 c.requires.3 c.args.kept.now s at.put c.args.piece.now c.in_ok-placed.placed.items at.piece is))

pub returns : goal.returns
returns c =
    let is : c.in_ok-placed.placed.items ≡ map (placed_word c.args.kept.now) (flat_map pairs_of c.args.piece.now.runs) = c.in_ok-placed.ensures ∙ ap (λ (rs : List Run). map (placed_word c.args.kept.now) (flat_map pairs_of rs)) c.items.ensures in
    on_ok_weaker c.put_words.result (λ behind. λ h puts v words at.
    piece_behind h c.args.number puts v words c.args.kept.now c.args.store.now at.put c.args.piece.now c.in_ok-placed.placed.items c.put_words.new.self at.piece is
    (λ history qs k chunk ps part put.
    behind history qs k chunk ps part
    (subst (λ id. ArePutIn history k chunk ps c.args.number id c.deref.result.now) (sym c.items-2.ensures) (subst (λ (ws : List PlacedWord). ArePutIn history k chunk ps c.args.number c.args.piece.now.id ws) (sym c.deref.ensures.value) put)))) c.put_words.ensures
