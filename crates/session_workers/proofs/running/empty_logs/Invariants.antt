use Rattle.std.proofs.Common.{◌≡◌, ◌≤◌, length, vec_len, vec_capacity}
use Rattle.session_workers.proofs.running.empty_logs.Given as goal

abbrev pub invariant-loop-place : goal.invariant-loop-place
invariant-loop-place l = record {
  len : vec_len l.logs ≡ l._place;
  long : length l.logs.items ≡ l._place;
  room : l.count ≤ vec_capacity l.logs;
}
