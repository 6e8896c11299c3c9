use Rattle.std.proofs.Common.{◌<◌, ℕ}
use Rattle.std.specs.Prelude.{slice_index_or}
use Rattle.indexmap.specs.IndexMap.{get_by_text}
use Rattle.session_runs.specs.Session.{session_with}
use Rattle.session_workers.specs.Workers.{IsFull}
use Rattle.session_workers.proofs.gathering.each_full.Given as goal

abbrev pub invariant-loop-session : goal.invariant-loop-session
invariant-loop-session g l = (k : ℕ) (d : _) → k < l.session-index → IsFull (session_with (slice_index_or l.sessions k d).pass (get_by_text (slice_index_or l.sessions k d).names) (slice_index_or l.sessions k d).txn (slice_index_or l.sessions k d).log.items (slice_index_or l.sessions k d).ended)
