use Rattle.std.proofs.Common.{◌≡◌, length, take}
use Rattle.index_transform.specs.Values.{value_at}
use Rattle.stack_targets.proofs.landing.finite_values.Given as goal

-- the first numbers stand in the buffer
abbrev pub invariant-loop-output : goal.invariant-loop-output
invariant-loop-output l = record {
  room : length l.out ≡ length l.transform.maps;
  done : take l.output l.out ≡ take l.output (value_at l.transform l.index);
}
