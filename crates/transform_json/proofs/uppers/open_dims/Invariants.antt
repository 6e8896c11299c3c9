use Rattle.transform_json.specs.Bounds.{open_bound, interval_of}
use Rattle.transform_json.proofs.Gathering.{Gathered}
use Rattle.transform_json.proofs.uppers.open_dims.Given as goal

abbrev pub invariant-loop-lower : goal.invariant-loop-lower
invariant-loop-lower l = Gathered (λ lower. interval_of lower open_bound) l.lowers l.lower-index l.dims.items
