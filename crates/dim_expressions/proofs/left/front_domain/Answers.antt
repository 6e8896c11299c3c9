use Rattle.std.proofs.Common.{◌∙◌, ℕ, ◌<◌, List, length, sym, ap, subst}
use Rattle.std.specs.List.{All}
use Rattle.index_intervals.specs.Bounds.{Bounds}
use Rattle.index_transform.specs.declared.domain.Domain.{Domain}
use Rattle.dim_expressions.proofs.WithoutLaws.{labels_count}
use Rattle.dim_expressions.proofs.left.front_domain.Goals as goal

pub left_dims-requires : goal.left_dims-requires
left_dims-requires c =
    subst (λ (ds : List Bounds). All (λ dim. dim < length ds) c.args.rest.now) (sym (c.items.ensures ∙ ap (λ (d : Domain). d.dims) c.domain.ensures.value)) c.requires

pub left_labels-requires : goal.left_labels-requires
left_labels-requires c =
    let count = ap length (c.items-2.ensures ∙ ap (λ (d : Domain). d.labels) c.domain-2.ensures.value) ∙ labels_count c.args.u.now c.domain-2.ensures.well_formed in
    subst (λ (n : ℕ). All (λ dim. dim < n) c.args.rest.now) (sym count) c.requires
