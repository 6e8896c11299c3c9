use Rattle.std.proofs.Common.{◌≡◌, ◌∙◌, ◌<◌, ◌≤◌, List, length, map, ap, sym, subst}
use Rattle.std.specs.Result.{IfOk}
use Rattle.cells.specs.Places.{cell_count}
use Rattle.index_intervals.specs.Bounds.{Bounds}
use Rattle.index_transform.specs.Maps.{size_of}
use Rattle.chunk_grid.specs.declared.piece.RunPiece.{RunPiece}
use Rattle.chunk_grid.proofs.ViewBoxes.{cells-count, cells-some, boxes-cut, pieces-cut, as-many}
use Rattle.chunk_grid.proofs.boxing.cut_boxes.Goals as goal

pub view_steps-requires-clause-few : goal.view_steps-requires-clause-few
view_steps-requires-clause-few c =
    let dims = c.items-dims.ensures ∙ ap (λ d. d.dims) c.domain.ensures.value in
    subst (λ (ds : List Bounds). cell_count (map size_of ds) ≤ 4194304) (sym dims) (cells-count c.args.t.now.domain.dims c.requires.few)

pub view_steps-requires-clause-some : goal.view_steps-requires-clause-some
view_steps-requires-clause-some c =
    let dims = c.items-dims.ensures ∙ ap (λ d. d.dims) c.domain.ensures.value in
    subst (λ (ds : List Bounds). 0 < cell_count (map size_of ds)) (sym dims) (cells-some c.args.t.now.domain.dims c.requires.some)

pub pieces_of_boxes-requires-clause-few : goal.pieces_of_boxes-requires-clause-few
pieces_of_boxes-requires-clause-few c = cells-count c.args.t.now.domain.dims c.requires.few

pub chunk_steps-requires-clause-same : goal.chunk_steps-requires-clause-same
chunk_steps-requires-clause-same c =
    ap length c.maps.ensures.value ∙ as-many c.args.t.now c.args.grid.now c.chunk.ensures.well_formed c.requires.some c.requires.inside ∙ ap length (sym c.chunk.ensures.value)

pub pieces_of_boxes-requires-clause-boxes : goal.pieces_of_boxes-requires-clause-boxes
pieces_of_boxes-requires-clause-boxes c =
    let same = as-many c.args.t.now c.args.grid.now c.chunk.ensures.well_formed c.requires.some c.requires.inside in
    boxes-cut c.args.t.now c.args.grid.now.shape c.args.grid.now.chunk c.in_ok-boxes.boxes.items c.requires.regular same c.requires.inside c.in_ok-boxes.ensures.boxes c.in_ok-boxes.ensures.within

pub returns : goal.returns
returns c =
    let same = as-many c.args.t.now c.args.grid.now c.chunk.ensures.well_formed c.requires.some c.requires.inside in
    subst (λ (ps : List RunPiece). IfOk c.pieces_of_boxes.result (λ pieces. pieces ≡ ps))
    (pieces-cut c.args.t.now c.args.grid.now.chunk c.in_ok-boxes.boxes.items c.requires.regular same c.in_ok-boxes.ensures.boxes) c.pieces_of_boxes.ensures
