use Rattle.std.proofs.Common.{◌≡◌, length, map, take, drop}
use Rattle.indexmap.specs.IndexMap.{get_by_text}
use Rattle.session_runs.specs.Session.{session_with}
use Rattle.session_workers.specs.Workers.{AreWorked}
use Rattle.session_workers.proofs.working.run_each.Given as goal

-- the sessions before the place were worked, the others are as they were
abbrev pub invariant-loop-place : goal.invariant-loop-place
invariant-loop-place g l = record {
  count : length l.sessions ≡ length l.initial.sessions;
  worked : AreWorked l.book l.mounts (map (λ v. v.items) l.scripts) (map (λ s. session_with s.pass (get_by_text s.names) s.txn s.log.items s.ended) (take l.place l.initial.sessions)) (map (λ s. session_with s.pass (get_by_text s.names) s.txn s.log.items s.ended) (take l.place l.sessions));
  rest : drop l.place l.sessions ≡ drop l.place l.initial.sessions;
}
