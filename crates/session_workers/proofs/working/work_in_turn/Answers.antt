use Rattle.std.proofs.Common.{map}
use Rattle.indexmap.specs.IndexMap.{get_by_text}
use Rattle.session_runs.specs.Session.{session_with}
use Rattle.session_workers.specs.Workers.{AreWorked}
use Rattle.session_workers.proofs.Worked.{both_at}
use Rattle.session_workers.proofs.working.work_in_turn.Goals as goal

pub returns-clause-worked : goal.returns-clause-worked
returns-clause-worked g c =
    both_at c.args.row.now c.split_at_mut-first.result.0.now c.split_at_mut-first.result.1.now c.work.new.row c.work-2.new.row
    (λ w v. AreWorked c.args.book.now c.args.mounts.now (map (λ v. v.items) c.args.scripts.now) (map (λ s. session_with s.pass (get_by_text s.names) s.txn s.log.items s.ended) w.sessions.items) (map (λ s. session_with s.pass (get_by_text s.names) s.txn s.log.items s.ended) v.sessions.items))
    c.split_at_mut-first.ensures.value c.work.ensures.count c.work.ensures.worked c.work-2.ensures.worked
