use Rattle.std.proofs.Common.{◌≡◌, ◌++◌, replicate}
use Rattle.transform_json.proofs.arrays.put_ones.Given as goal

abbrev pub invariant-loop-place : goal.invariant-loop-place
invariant-loop-place l = l.out.items ≡ l.fn.out.items ++ replicate l._place 1
