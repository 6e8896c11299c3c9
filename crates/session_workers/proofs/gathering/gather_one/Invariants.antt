use Rattle.std.proofs.Common.{◌≡◌, ◌+◌, ◌<◌, ℕ, Bool, List, length, map, vec_capacity}
use Rattle.std.specs.Prelude.{◌⊎◌, Contains}
use Rattle.std.specs.List.{AllByRecursion}
use Rattle.indexmap.specs.IndexMap.{get_by_text}
use Rattle.session_runs.specs.Session.{session_with}
use Rattle.session_workers.specs.Workers.{HasRun, AreKept}
use Rattle.state_laws.specs.Agreement.{Opening}
use Rattle.turn_book.specs.Passes.{BookView}
use Rattle.session_workers.proofs.gathering.gather_one.Given as goal

-- of the sessions that were there, some are left and the others were taken apart
abbrev pub invariant-loop-session : goal.invariant-loop-session
invariant-loop-session g l = record {
  small : AllByRecursion (λ s. s.pass.number < length l.logs) (map (λ s. session_with s.pass (get_by_text s.names) s.txn s.log.items s.ended) l.sessions.items);
  length_is : length l.back.items + length l.sessions.items ≡ length l.initial.back.items + length l.fn.sessions.items;
  room : vec_capacity l.back ≡ vec_capacity l.initial.back;
  count : length l.logs ≡ length l.initial.logs;
  all : (k : ℕ) → Contains (map (λ s. s.pass.number) l.fn.sessions.items) k → (Contains (map (λ s. s.pass.number) l.sessions.items) k ⊎ Contains (map (λ p. p.number) l.back.items) k);
  stay : (k : ℕ) → Contains (map (λ p. p.number) l.initial.back.items) k → Contains (map (λ p. p.number) l.back.items) k;
  left : (book : BookView Opening) (mounts scripts : List (List ℕ)) (whole : Bool) → AllByRecursion (HasRun book mounts scripts whole) (map (λ s. session_with s.pass (get_by_text s.names) s.txn s.log.items s.ended) l.fn.sessions.items) → AllByRecursion (HasRun book mounts scripts whole) (map (λ s. session_with s.pass (get_by_text s.names) s.txn s.log.items s.ended) l.sessions.items);
  kept : (book : BookView Opening) (mounts scripts : List (List ℕ)) (whole : Bool) → AllByRecursion (HasRun book mounts scripts whole) (map (λ s. session_with s.pass (get_by_text s.names) s.txn s.log.items s.ended) l.fn.sessions.items)
      → AreKept book mounts scripts whole l.initial.back.items l.initial.logs → AreKept book mounts scripts whole l.back.items l.logs;
}

abbrev pub decreases-loop-session : goal.decreases-loop-session
decreases-loop-session g l = goal.left-loop-session g l
