use Rattle.std.proofs.Common.{◌≡◌, length}
use Rattle.open_fits.proofs.Walked.{AreFirstFor}
use Rattle.open_fits.proofs.settling.arrays_settled.Given as goal

abbrev pub invariant-loop-place : goal.invariant-loop-place
invariant-loop-place l = record {
  first : AreFirstFor l.openings.events l.upto l.leaves l.takings l.place l.arrays.items;
  count : length l.arrays.items ≡ l.place;
}
