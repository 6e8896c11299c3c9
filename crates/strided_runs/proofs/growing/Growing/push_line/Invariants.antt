use Rattle.std.proofs.Common.{◌≡◌, ◌+◌, ◌*◌, ◌≤◌}
use Rattle.std.specs.List.{fold}
use Rattle.strided_runs.specs.Growing.{grown}
use Rattle.strided_runs.specs.Loops.{pairs_on}
use Rattle.strided_runs.proofs.growing.Growing.push_line.Given as goal

-- the pairs so far are put
abbrev pub invariant-loop-k : goal.invariant-loop-k
invariant-loop-k l = record {
  pairs : l.self ≡ fold grown l.initial.self (pairs_on l.view l.view_step l.chunk l.step 0 l.k);
  before : (l.self.run.view + l.self.run.len) ≤ (l.view + l.view_step * l.k);
}
