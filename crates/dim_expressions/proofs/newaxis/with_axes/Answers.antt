use Rattle.std.proofs.Common.{◌∙◌, ◌+◌, List, length, ap}
use Rattle.index_intervals.specs.Bounds.{Bounds}
use Rattle.index_transform.specs.declared.domain.Domain.{Domain}
use Rattle.dim_expressions.proofs.newaxis.with_axes.Goals as goal

pub axes_between-requires-clause-count : goal.axes_between-requires-clause-count
axes_between-requires-clause-count c = ap (λ (ds : List Bounds). length ds + length c.args.added.now) (c.items.ensures ∙ ap (λ (d : Domain). d.dims) c.domain.ensures.value)

pub axes_between-requires-clause-spots : goal.axes_between-requires-clause-spots
axes_between-requires-clause-spots c = c.deref.ensures.value ∙ c.in_ok-spots.ensures.value
