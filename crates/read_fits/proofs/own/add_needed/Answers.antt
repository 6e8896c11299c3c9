use Rattle.std.proofs.Common.{◌≡◌, ◌∙◌, ◌<◌, ◌||◌, List, [], length, ap, arith}
use Rattle.std.specs.Prelude.{◌&&◌, get_or}
use Rattle.std.specs.Str.{bytes_eq}
use Rattle.transaction_cells.specs.Needs.{needs}
use Rattle.transaction_cells.specs.declared.view_cells.Piece.{Piece}
use Rattle.read_fits.specs.Owned.{has_id}
use Rattle.read_fits.proofs.OwnLaws.{needed_step}
use Rattle.read_fits.proofs.own.add_needed.Goals as goal

abbrev none : Piece
none = record { id = []; size = 0; runs = [] }

pub loop-i-preserved : goal.loop-i-preserved
loop-i-preserved c = λ id.
    let pieces = c.args.cells.now.pieces in
    let long : length c.items-i-end.result.now ≡ length pieces = ap (λ (ps : List Piece). length ps) c.items-i-end.ensures in
    let low : c.loop-i.i < length pieces = omega (arith, long) in
    c.in_ok-add_piece.ensures none id
    ∙ ap (λ b. (needs c.args.staging.now (get_or pieces c.loop-i.i none) && bytes_eq (get_or pieces c.loop-i.i none).id id) || b) (c.loop-i.invariant id)
    ∙ needed_step c.args.staging.now pieces c.loop-i.i none (has_id c.args.ids.now.set.keys id) id low
