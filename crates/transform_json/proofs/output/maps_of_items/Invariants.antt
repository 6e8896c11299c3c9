use Rattle.transform_json.proofs.MapLists.{IsRead}
use Rattle.transform_json.proofs.output.maps_of_items.Given as goal

abbrev pub invariant-loop-output : goal.invariant-loop-output
invariant-loop-output l = IsRead l.dims l.items l.output l.maps.items
