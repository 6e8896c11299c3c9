use Rattle.transform_json.proofs.MapLists.{IsIdentity}
use Rattle.transform_json.proofs.output.identity.Given as goal

abbrev pub invariant-loop-dim : goal.invariant-loop-dim
invariant-loop-dim l = IsIdentity l.dims l.dim l.maps.items
