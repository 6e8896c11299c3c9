use Rattle.std.proofs.Common.{◌∙◌, List, length, map, ap}
use Rattle.std.specs.List.{range_with_len}
use Rattle.index_intervals.specs.Bounds.{Bounds}
use Rattle.index_transform.specs.declared.domain.Domain.{Domain}
use Rattle.dim_expressions.specs.Transpose.{AreInverse, carried}
use Rattle.dim_expressions.proofs.CarriedLaws.{AreDims, are-inverse, on-ok}
use Rattle.dim_expressions.proofs.transpose.transposed.Goals as goal

pub transposed_from-requires-clause-from : goal.transposed_from-requires-clause-from
transposed_from-requires-clause-from c =
    c.deref.ensures.value ∙ c.in_ok-from.ensures
    ∙ ap (λ (ds : List Bounds). map (carried (length ds) c.args.targets.now c.args.selected.now) (range_with_len 0 (length ds))) (c.items.ensures ∙ ap (λ (d : Domain). d.dims) c.domain.ensures.value)

pub returns-clause-inverse : goal.returns-clause-inverse
returns-clause-inverse c =
    let f : AreDims (length c.args.u.now.domain.dims) c.args.selected.now = record { once = c.requires.once; below = c.requires.known } in
    let g : AreDims (length c.args.u.now.domain.dims) c.args.targets.now = record { once = c.requires.once_targets; below = c.requires.known_targets } in
    on-ok c.transposed_from.result (AreInverse (length c.args.u.now.domain.dims) c.args.selected.now c.args.targets.now)
    (are-inverse (length c.args.u.now.domain.dims) c.args.selected.now c.args.targets.now f g c.requires.same)
