use Rattle.std.proofs.Common.{◌<◌, ℕ}
use Rattle.std.specs.Prelude.{All, slice_index_or}
use Rattle.indexmap.specs.IndexMap.{get_by_text}
use Rattle.session_runs.specs.Session.{session_with}
use Rattle.session_workers.specs.Workers.{IsFull}
use Rattle.session_workers.proofs.gathering.are_full.Given as goal

abbrev pub invariant-loop-worker : goal.invariant-loop-worker
invariant-loop-worker g l = (k : ℕ) (d : _) → k < l.worker-index → All (λ s. IsFull (session_with s.pass (get_by_text s.names) s.txn s.log.items s.ended)) (slice_index_or l.row k d).sessions.items
