use Rattle.transform_json.proofs.Gathering.{Paired}
use Rattle.transform_json.specs.Uppers.{dim_to}
use Rattle.transform_json.proofs.uppers.dims_to.Given as goal

abbrev pub invariant-loop-k : goal.invariant-loop-k
invariant-loop-k l = Paired (dim_to l.upper) l.lowers l.items l.k l.dims.items
