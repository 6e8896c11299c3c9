use Rattle.std.proofs.Common.{◌≡◌, ◌∙◌, List, subst, arith}
use Rattle.std.specs.Result.{IfOk}
use Rattle.chunk_grid.specs.declared.piece.RunPiece.{RunPiece}
use Rattle.chunk_grid.proofs.RowViews.{products-number, products-few, products-pieces}
use Rattle.chunk_grid.proofs.rows.cut_heads.Goals as goal

pub pieces_of_products-requires-clause-numbers : goal.pieces_of_products-requires-clause-numbers
pieces_of_products-requires-clause-numbers e i j c d l m =
    (products-number e.args.t.now e.args.grid.now e.args.counts.now e.args.k e.args.flags.now e.args.heads.now e.deref.result.now e.requires.grid e.requires.counts e.requires.split e.requires.filled e.requires.inside
    e.requires.heads (e.deref.ensures.value ∙ e.in_ok-row.ensures) i j c d l m).number

pub pieces_of_products-requires-clause-places : goal.pieces_of_products-requires-clause-places
pieces_of_products-requires-clause-places e i j c d l m =
    (products-number e.args.t.now e.args.grid.now e.args.counts.now e.args.k e.args.flags.now e.args.heads.now e.deref.result.now e.requires.grid e.requires.counts e.requires.split e.requires.filled e.requires.inside
    e.requires.heads (e.deref.ensures.value ∙ e.in_ok-row.ensures) i j c d l m).place

pub pieces_of_products-requires-clause-small : goal.pieces_of_products-requires-clause-small
pieces_of_products-requires-clause-small c =
    omega (
      arith,
      c.requires.cells,
      products-few c.args.t.now c.args.grid.now c.args.counts.now c.args.k c.args.flags.now c.args.heads.now c.deref.result.now c.requires.grid c.requires.counts c.requires.split c.requires.filled c.requires.inside
          c.requires.heads (c.deref.ensures.value ∙ c.in_ok-row.ensures),
    )

pub returns : goal.returns
returns c =
    subst (λ (ps : List RunPiece). IfOk c.pieces_of_products.result (λ pieces. pieces ≡ ps))
    (products-pieces c.args.t.now c.args.grid.now c.args.counts.now c.args.k c.args.flags.now c.args.heads.now c.deref.result.now c.requires.grid c.requires.counts c.requires.split c.requires.filled c.requires.inside
    c.requires.heads (c.deref.ensures.value ∙ c.in_ok-row.ensures)) c.pieces_of_products.ensures
