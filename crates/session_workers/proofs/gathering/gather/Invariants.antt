use Rattle.std.proofs.Common.{◌≡◌, ◌≤◌, ◌+◌, ◌<◌, ℕ, Bool, List, length, map, vec_capacity}
use Rattle.std.specs.Prelude.{◌⊎◌, Contains}
use Rattle.std.specs.List.{AllByRecursion}
use Rattle.indexmap.specs.IndexMap.{get_by_text}
use Rattle.session_runs.specs.Session.{session_with}
use Rattle.session_workers.specs.Workers.{HasRun, AreKept, numbers_in}
use Rattle.state_laws.specs.Agreement.{Opening}
use Rattle.turn_book.specs.Passes.{BookView}
use Rattle.session_workers.proofs.gathering.gather.Given as goal

-- of the workers that were there, some are left and the others' sessions were taken apart
abbrev pub invariant-loop-worker : goal.invariant-loop-worker
invariant-loop-worker g l = record {
  small : AllByRecursion (AllByRecursion (λ s. s.pass.number < length l.logs)) (map (λ w. map (λ s. session_with s.pass (get_by_text s.names) s.txn s.log.items s.ended) w.sessions.items) l.row.items);
  room : length l.back.items + length (numbers_in (map (λ w. map (λ s. session_with s.pass (get_by_text s.names) s.txn s.log.items s.ended) w.sessions.items) l.row.items)) ≤ vec_capacity l.back;
  count : length l.logs ≡ length l.initial.logs;
  all : (k : ℕ) → Contains (numbers_in (map (λ w. map (λ s. session_with s.pass (get_by_text s.names) s.txn s.log.items s.ended) w.sessions.items) l.fn.row.items)) k → (Contains (numbers_in (map (λ w. map (λ s. session_with s.pass (get_by_text s.names) s.txn s.log.items s.ended) w.sessions.items) l.row.items)) k ⊎ Contains (map (λ p. p.number) l.back.items) k);
  left : (book : BookView Opening) (mounts scripts : List (List ℕ)) (whole : Bool) → AllByRecursion (AllByRecursion (HasRun book mounts scripts whole)) (map (λ w. map (λ s. session_with s.pass (get_by_text s.names) s.txn s.log.items s.ended) w.sessions.items) l.fn.row.items) → AllByRecursion (AllByRecursion (HasRun book mounts scripts whole)) (map (λ w. map (λ s. session_with s.pass (get_by_text s.names) s.txn s.log.items s.ended) w.sessions.items) l.row.items);
  kept : (book : BookView Opening) (mounts scripts : List (List ℕ)) (whole : Bool) → AllByRecursion (AllByRecursion (HasRun book mounts scripts whole)) (map (λ w. map (λ s. session_with s.pass (get_by_text s.names) s.txn s.log.items s.ended) w.sessions.items) l.fn.row.items)
      → AreKept book mounts scripts whole l.initial.back.items l.initial.logs → AreKept book mounts scripts whole l.back.items l.logs;
}

abbrev pub decreases-loop-worker : goal.decreases-loop-worker
decreases-loop-worker g l = goal.left-loop-worker g l
