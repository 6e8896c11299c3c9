use Rattle.std.proofs.Common.{◌≡◌, ◌<◌, ◌≤◌, ◌++◌, length, map, vec_capacity}
use Rattle.std.specs.Prelude.{All}
use Rattle.indexmap.specs.IndexMap.{get_by_text}
use Rattle.session_runs.specs.Session.{session_with}
use Rattle.session_workers.specs.Workers.{IsFresh, AreDealt}
use Rattle.state_laws.specs.Agreement.{Opening}
use Rattle.turn_book.specs.Passes.{BookView, AreNew}
use Rattle.session_workers.proofs.dealing.deal.Given as goal

-- the passes so far are those of sessions that were dealt
abbrev pub invariant-loop-pass : goal.invariant-loop-pass
invariant-loop-pass g l = record {
  count : length l.row ≡ length l.initial.row;
  next : l.next < l.front;
  rest : l.fn.passes.items ≡ l.yielded ++ l.pass-iterator.rest.items;
  rooms : All (λ w. (length w.sessions.items ≤ length l.yielded) × (length l.fn.passes.items ≤ vec_capacity w.sessions)) l.row;
  dealt : (book : BookView Opening) → book.passes ≡ length l.fn.passes.items → AreNew book l.fn.passes.items → AreDealt (IsFresh book) (map (λ w. map (λ s. session_with s.pass (get_by_text s.names) s.txn s.log.items s.ended) w.sessions.items) l.row) (length l.yielded);
}
