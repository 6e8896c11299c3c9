use Rattle.std.proofs.Common.{◌≡◌, ◌∙◌, true, ap, sym, subst, List, map}
use Rattle.std.specs.Result.{IfOk}
use Rattle.std.specs.List.{All, list_all}
use Rattle.index_intervals.specs.Bounds.{Bounds}
use Rattle.index_transform.specs.Cells.{is_finite, cells_of}
use Rattle.index_transform.specs.Values.{value_at}
use Rattle.index_transform.specs.Walks.{IsCell}
use Rattle.index_transform.specs.declared.domain.Domain.{Domain}
use Rattle.chunk_grid.specs.Grid.{IsInShape}
use Rattle.chunk_grid.specs.Rows.{row_of}
use Rattle.chunk_grid.specs.Slots.{located_kept}
use Rattle.chunk_grid.proofs.BoxCells.{narrowed-finite}
use Rattle.chunk_grid.proofs.RowViews.{row-narrowed, narrowed-inside}
use Rattle.chunk_grid.proofs.rows.row_located.Goals as goal

pub locate_all-requires-clause-bounded : goal.locate_all-requires-clause-bounded
locate_all-requires-clause-bounded c =
    let dims = c.args.t.now.domain.dims in
    let parts = c.deref.ensures.value ∙ c.in_ok-dims.ensures ∙ ap (row_of c.args.k) (c.items.ensures ∙ ap (λ (d : Domain). d.dims) c.domain.ensures.value) in
    ap (list_all is_finite) parts ∙ narrowed-finite dims (row_of c.args.k dims) c.requires.finite (row-narrowed c.args.k dims c.requires.filled)

pub locate_all-requires-clause-cells : goal.locate_all-requires-clause-cells
locate_all-requires-clause-cells c =
    let dims = c.args.t.now.domain.dims in
    let parts = c.deref.ensures.value ∙ c.in_ok-dims.ensures ∙ ap (row_of c.args.k) (c.items.ensures ∙ ap (λ (d : Domain). d.dims) c.domain.ensures.value) in
    subst (λ (ds : List Bounds). All (λ cell. IsCell dims cell × IsInShape c.args.grid.now.shape (value_at c.args.t.now cell)) (cells_of ds)) (sym parts)
    (narrowed-inside (λ cell. IsInShape c.args.grid.now.shape (value_at c.args.t.now cell)) dims (row_of c.args.k dims) c.requires.filled (row-narrowed c.args.k dims c.requires.filled) c.requires.inside)

pub returns : goal.returns
returns c =
    let parts = c.deref.ensures.value ∙ c.in_ok-dims.ensures ∙ ap (row_of c.args.k) (c.items.ensures ∙ ap (λ (d : Domain). d.dims) c.domain.ensures.value) in
    subst (λ (ds : List Bounds). IfOk c.locate_all.result (λ all. all.items ≡ map (located_kept true c.args.t.now c.args.counts.now c.args.grid.now.chunk c.args.flags.now) (cells_of ds))) parts c.locate_all.ensures
