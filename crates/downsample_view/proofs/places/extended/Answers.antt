use Rattle.std.proofs.Common.{◌∙◌, List, Option, ℕ, map, ap}
use Rattle.std.specs.List.{flat_map}
use Rattle.index_transform.specs.Cells.{members_of}
use Rattle.downsample_view.specs.Places.{joined_place, offset_of}
use Rattle.downsample_view.proofs.Rows.{flat_map-map}
use Rattle.downsample_view.proofs.Lists.{if_ok}
use Rattle.downsample_view.proofs.places.extended.Goals as goal

pub returns : goal.returns
returns c =
    if_ok _ _
    (λ all e.
    e ∙ ap (λ (rest : List (Option ℕ)). flat_map (λ offset. map (joined_place c.args.count offset) rest) c.deref.result.now) c.deref-2.ensures.value
    ∙ ap (flat_map (λ offset. map (joined_place c.args.count offset) c.args.rest.items)) (c.deref.ensures.value ∙ c.in_ok-offsets.ensures)
    ∙ flat_map-map (λ offset. map (joined_place c.args.count offset) c.args.rest.items) (offset_of c.args.method c.args.factor c.args.dim.now) (members_of c.args.dim.now))
    c.rows.result c.rows.ensures
