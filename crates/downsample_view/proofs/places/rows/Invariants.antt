use Rattle.std.proofs.Common.{◌≡◌, map, take}
use Rattle.std.specs.List.{flat_map}
use Rattle.downsample_view.specs.Places.{joined_place}
use Rattle.downsample_view.proofs.places.rows.Given as goal

abbrev pub invariant-loop-offset : goal.invariant-loop-offset
invariant-loop-offset l = l.all.items ≡ flat_map (λ offset. map (joined_place l.count offset) l.rest) (take l.offset-index l.offsets)
