use Rattle.std.proofs.Common.{◌≡◌, ◌++◌, map, take}
use Rattle.downsample_view.specs.Places.{joined_place}
use Rattle.downsample_view.proofs.places.with_row.Given as goal

abbrev pub invariant-loop-place : goal.invariant-loop-place
invariant-loop-place l = l.all.items ≡ l.initial.all.items ++ map (joined_place l.count l.offset) (take l.place-index l.rest)
