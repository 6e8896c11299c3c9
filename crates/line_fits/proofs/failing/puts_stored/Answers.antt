use Rattle.std.proofs.Common.{List, subst}
use Rattle.std.specs.Prelude.{◌↔◌, IsTrue}
use Rattle.event_replay.specs.declared.Piece.{Piece}
use Rattle.event_replay.proofs.FollowLaws.{can_locate_view}
use Rattle.line_fits.specs.StoredPuts.{HasStoredPiece}
use Rattle.line_fits.proofs.StoredPuts.{write_told}
use Rattle.line_fits.proofs.failing.puts_stored.Goals as goal

pub located-requires : goal.located-requires
located-requires c = can_locate_view c.requires.0 c.requires.1 c.args.opened c.requires.2 c.args.view.now c.requires.3

pub returns : goal.returns
returns c = λ events before words front stored is count.
    let cells = c.in_ok-cells.cells in
    let told = write_told events before c.args.opened c.args.stored.now c.args.view.now words cells front stored is c.in_ok-cells.ensures.sites c.in_ok-cells.ensures.cells count in
    let found = subst (λ (ps : List Piece). IsTrue c.has_stored_piece.result ↔ HasStoredPiece c.args.opened c.args.stored.now ps) c.items.ensures c.has_stored_piece.ensures in
    (λ so. told.0 (found.0 so), λ puts. found.1 (told.1 puts))
