use Rattle.std.proofs.Common.{◌∙◌, List, length, ap}
use Rattle.index_intervals.specs.Bounds.{Bounds}
use Rattle.index_transform.specs.declared.domain.Domain.{Domain}
use Rattle.dim_changes.specs.Dims.{others}
use Rattle.dim_expressions.proofs.diagonal.met.Goals as goal

pub met_before-requires-clause-rest : goal.met_before-requires-clause-rest
met_before-requires-clause-rest c =
    c.deref.ensures.value ∙ c.in_ok-rest.ensures.value ∙ ap (λ (ds : List Bounds). others c.args.selected.now (length ds)) (c.items.ensures ∙ ap (λ (d : Domain). d.dims) c.domain.ensures.value)
