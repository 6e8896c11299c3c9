use Rattle.std.proofs.Common.{◌∙◌, ℕ, List, ap, refl, sym, subst, length}
use Rattle.std.specs.List.{All}
use Rattle.chunk_grid.specs.Grid.{IsInShape}
use Rattle.index_transform.specs.Cells.{cells_of}
use Rattle.index_transform.specs.Transforms.{DomainAndMaps}
use Rattle.index_transform.specs.Values.{value_at}
use Rattle.stack_driver.specs.References.{Reference}
use Rattle.transaction_cells.proofs.AlongLaws.{of_one}
use Rattle.transaction_cells.proofs.along_runs.array_within.Goals as goal

pub first_leaving-requires-clause-rank : goal.first_leaving-requires-clause-rank
first_leaving-requires-clause-rank c =
    let one = of_one c.args.v.now c.in_ok-array.array.now c.in_ok-array.ensures.some in
    ap length c.items.ensures ∙ ap (λ (r : Reference). length r.shape) c.array.view_is ∙ sym (one.rank c.requires.view)
    ∙ ap (λ (t : DomainAndMaps). length t.maps) (sym c.transform_of.ensures.value)

pub returns-in-None : goal.returns-in-None
returns-in-None c = record {
  of_array = c.in_ok-array.ensures.some;
  inside = subst (λ (p : List ℕ × DomainAndMaps). All (λ cell. IsInShape p.0 (value_at p.1 cell)) (cells_of p.1.domain.dims))
      (λ i. ((c.items.ensures ∙ ap (λ (r : Reference). r.shape) c.array.view_is) i, c.transform_of.ensures.value i)) (c.in-None.ensures.inside refl);
}
