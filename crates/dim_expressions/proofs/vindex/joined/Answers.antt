use Rattle.std.proofs.Common.{◌∙◌, List, length, ap}
use Rattle.index_intervals.specs.Bounds.{Bounds}
use Rattle.index_transform.specs.declared.domain.Domain.{Domain}
use Rattle.dim_changes.specs.Dims.{others}
use Rattle.dim_expressions.proofs.vindex.joined.Goals as goal

pub joined_before-requires-clause-rest : goal.joined_before-requires-clause-rest
joined_before-requires-clause-rest c =
    c.deref.ensures.value ∙ c.in_ok-rest.ensures.value ∙ ap (λ (ds : List Bounds). others c.args.selected.now (length ds)) (c.items.ensures ∙ ap (λ (d : Domain). d.dims) c.domain.ensures.value)
