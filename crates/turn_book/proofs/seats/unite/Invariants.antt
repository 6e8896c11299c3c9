use Rattle.std.proofs.Common.{◌≡◌, List, ◌++◌, map}
use Rattle.turn_book.specs.Seats.{with_claims, claim_of}
use Rattle.turn_book.proofs.seats.unite.Given as goal

abbrev pub invariant-loop-pass : goal.invariant-loop-pass
invariant-loop-pass g l = record {
  table : l.seat.table_id ≡ l.fn.seat.table_id;
  done : (done : List (_)) × (l.fn.passes.items ≡ l.passes.items ++ done) × (l.seat.me ≡ with_claims l.fn.seat.me (map claim_of done));
}

abbrev pub decreases-loop-pass : goal.decreases-loop-pass
decreases-loop-pass g l = goal.left-loop-pass g l
