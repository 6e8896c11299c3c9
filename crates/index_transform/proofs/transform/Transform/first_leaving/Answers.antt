use Rattle.std.proofs.Common.{◌∙◌, ap, sym, List}
use Rattle.std.proofs.lemmas.List.Elements.{All-from_recursion}
use Rattle.std.specs.List.{zip, position_from}
use Rattle.index_intervals.specs.Bounds.{Bounds}
use Rattle.index_transform.specs.declared.domain.Domain.{Domain}
use Rattle.index_transform.specs.declared.map.OutMap.{OutMap}
use Rattle.index_transform.specs.Cells.{cells_of}
use Rattle.index_transform.specs.Values.{value_at}
use Rattle.index_transform.specs.Shapes.{IsInShape, leaves}
use Rattle.index_transform.proofs.ShapeLemmas.{inside-shape}
use Rattle.index_transform.proofs.transform.Transform.first_leaving.Goals as goal

pub returns-clause-value : goal.returns-clause-value
returns-clause-value c =
    let dims = c.items.ensures ∙ ap (λ (d : Domain). d.dims) c.domain.ensures.value in
    c.first_leaving.ensures.value
    ∙ ap (λ (ds : List Bounds). position_from (λ p. leaves ds p.0 p.1) 0 (zip c.args.shape.now c.maps.result.now)) dims
    ∙ ap (λ (ms : List OutMap). position_from (λ p. leaves c.args.self.now.domain.dims p.0 p.1) 0 (zip c.args.shape.now ms)) c.maps.ensures.value

pub returns-clause-inside : goal.returns-clause-inside
returns-clause-inside c = λ e.
    All-from_recursion (λ cell. IsInShape c.args.shape.now (value_at c.args.self.now cell)) (cells_of c.args.self.now.domain.dims)
    (inside-shape c.args.self.now.domain.dims c.args.shape.now c.args.self.now.maps c.requires.rank (sym (returns-clause-value c) ∙ e))
