use Rattle.std.proofs.Common.{◌≡◌, ◌≤◌, length, vec_len, vec_capacity, []}
use Rattle.std.specs.Prelude.{All}
use Rattle.session_workers.proofs.dealing.workers.Given as goal

abbrev pub invariant-loop-place : goal.invariant-loop-place
invariant-loop-place g l = record {
  len : vec_len l.row ≡ l._place;
  count : length l.row.items ≡ l._place;
  room : l.count ≤ vec_capacity l.row;
  rooms : All (λ w. (w.sessions.items ≡ []) × (l.room ≤ vec_capacity w.sessions)) l.row.items;
}
