use Rattle.std.proofs.Common.{◌∙◌, ap, ℕ, List, length, map, take_all}
use Rattle.std.proofs.lemmas.List.{length-replicate}
use Rattle.chunk_grid.specs.Grid.{numbers}
use Rattle.chunk_grid.proofs.CutLaws.{told_pieces}
use Rattle.chunk_grid.proofs.RunLaws.{told-unrolled}
use Rattle.chunk_grid.proofs.OnceLaws.{told-cut}
use Rattle.chunk_grid.proofs.cutting.runs_of.Goals as goal

pub loop-view-init : goal.loop-view-init
loop-view-init c = record {
  cuts = c.new_cuts-cuts.ensures c.args.grid.now.chunk;
  room = ap length (c.in_ok-chunk.ensures.items_if_clones_equal (λ y e. e)) ∙ length-replicate (length c.shape.result.now) 0 ∙ ap (λ (xs : List ℕ). length xs) c.shape.ensures.value;
}

pub returns-clause-pieces : goal.returns-clause-pieces
returns-clause-pieces c =
    let whole = take_all c.loop-view.view c.args.targets.now c.loop-view-test.false in
    told_pieces c.pieces_of.result c.args.grid.now.chunk _ (map numbers c.args.targets.now) c.loop-view.cuts c.loop-view.invariant.cuts (ap (map numbers) whole) c.pieces_of.ensures.pieces c.pieces_of.ensures.ordered

pub returns-clause-cells : goal.returns-clause-cells
returns-clause-cells c =
    let whole = take_all c.loop-view.view c.args.targets.now c.loop-view-test.false in
    told-unrolled c.pieces_of.result c.args.grid.now.chunk (map numbers c.args.targets.now)
    (told_pieces c.pieces_of.result c.args.grid.now.chunk _ (map numbers c.args.targets.now) c.loop-view.cuts c.loop-view.invariant.cuts (ap (map numbers) whole) c.pieces_of.ensures.pieces c.pieces_of.ensures.ordered)

pub returns-clause-cut : goal.returns-clause-cut
returns-clause-cut c =
    let whole = take_all c.loop-view.view c.args.targets.now c.loop-view-test.false in
    told-cut c.pieces_of.result c.args.grid.now.chunk (map numbers c.args.targets.now)
    (told_pieces c.pieces_of.result c.args.grid.now.chunk _ (map numbers c.args.targets.now) c.loop-view.cuts c.loop-view.invariant.cuts (ap (map numbers) whole) c.pieces_of.ensures.pieces c.pieces_of.ensures.ordered)
