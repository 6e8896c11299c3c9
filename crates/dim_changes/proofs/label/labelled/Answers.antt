use Rattle.std.proofs.Common.{rules, ◌∙◌, ap, length}
use Rattle.transform_composition.specs.declared.Domain.{Domain}
use Rattle.dim_changes.specs.Marks.{new_label}
use Rattle.dim_changes.proofs.LabelledLaws.{ranks_same, length_new}
use Rattle.dim_changes.proofs.label.labelled.Goals as goal

pub relabelled-requires-clause-ranks : goal.relabelled-requires-clause-ranks
relabelled-requires-clause-ranks c =
    let u = c.args.t.now in
    let old = c.domain.ensures.value in
    let dims = ap (λ (d : Domain). d.dims) c.in_ok-domain.ensures ∙ ap (λ (d : Domain). d.dims) old in
    let labels = ap (λ (d : Domain). d.labels) c.in_ok-domain.ensures in
    let count = ap length labels ∙ length_new (new_label c.domain.result.now.labels c.args.selected.now c.args.labels.now) (length c.domain.result.now.labels) ∙ ap (λ (d : Domain). length d.labels) old in
    ranks_same u c.in_ok-domain.domain.dims c.in_ok-domain.domain.labels c.in_ok-maps.maps.items c.domain.ensures.well_formed dims count (search rules)
