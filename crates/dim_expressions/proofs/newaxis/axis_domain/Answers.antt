use Rattle.std.proofs.Common.{◌∙◌, ℕ, ◌≤◌, List, length, sym, ap, subst}
use Rattle.index_intervals.specs.Bounds.{Bounds}
use Rattle.index_transform.specs.declared.domain.Domain.{Domain}
use Rattle.dim_expressions.proofs.WithoutLaws.{labels_count}
use Rattle.dim_expressions.proofs.newaxis.axis_domain.Goals as goal

pub axes-requires : goal.axes-requires
axes-requires c =
    subst (λ (ds : List Bounds). length c.args.spots.now ≤ length ds) (sym (c.items.ensures ∙ ap (λ (d : Domain). d.dims) c.domain.ensures.value)) c.requires

pub axis_labels-requires : goal.axis_labels-requires
axis_labels-requires c =
    let count = ap length (c.items-2.ensures ∙ ap (λ (d : Domain). d.labels) c.domain-2.ensures.value) ∙ labels_count c.args.u.now c.domain-2.ensures.well_formed in
    subst (λ (n : ℕ). length c.args.spots.now ≤ n) (sym count) c.requires
