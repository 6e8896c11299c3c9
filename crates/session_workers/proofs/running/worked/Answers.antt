use Rattle.std.proofs.Common.{◌∙◌, false, length, map, sym, ap, subst}
use Rattle.std.specs.List.{AllZip}
use Rattle.indexmap.specs.IndexMap.{get_by_text}
use Rattle.session_runs.specs.Session.{session_with}
use Rattle.session_workers.specs.Workers.{IsFresh, HasRun, AreDealt, AreWorked}
use Rattle.session_workers.proofs.Dealt.{worked_dealt, zip_of}
use Rattle.session_workers.proofs.Worked.{lent, row_all_at}
use Rattle.session_workers.proofs.running.worked.Goals as goal

pub work_in_turn-requires-clause-fresh : goal.work_in_turn-requires-clause-fresh
work_in_turn-requires-clause-fresh g c κs within =
    row_all_at (λ w. map (λ s. session_with s.pass (get_by_text s.names) s.txn s.log.items s.ended) w.sessions.items) (IsFresh c.args.book.now) c.args.row.items c.as_mut_slice.result.now c.as_mut_slice.ensures.value c.requires.dealt.keep

pub returns : goal.returns
returns g c =
    let items = c.as_mut_slice.ensures.value in
    let long = ap length (sym items) ∙ c.as_mut_slice.ensures.len in
    subst (λ xs. AreDealt (HasRun c.args.book.now c.args.mounts.now (map (λ v. v.items) c.args.scripts.now) false) (map (λ w. map (λ s. session_with s.pass (get_by_text s.names) s.txn s.log.items s.ended) w.sessions.items) xs) (length c.args.scripts.now)) (sym (lent c.args.row.len c.args.row.items c.work_in_turn.new.row long (c.work_in_turn.ensures.count ∙ ap length items)))
    (worked_dealt c.args.book.now c.args.mounts.now (map (λ v. v.items) c.args.scripts.now) (IsFresh c.args.book.now) (map (λ w. map (λ s. session_with s.pass (get_by_text s.names) s.txn s.log.items s.ended) w.sessions.items) c.args.row.items) (map (λ w. map (λ s. session_with s.pass (get_by_text s.names) s.txn s.log.items s.ended) w.sessions.items) c.work_in_turn.new.row) (length c.args.scripts.now)
    (subst (λ xs. AllZip (AreWorked c.args.book.now c.args.mounts.now (map (λ v. v.items) c.args.scripts.now)) (map (λ w. map (λ s. session_with s.pass (get_by_text s.names) s.txn s.log.items s.ended) w.sessions.items) xs) (map (λ w. map (λ s. session_with s.pass (get_by_text s.names) s.txn s.log.items s.ended) w.sessions.items) c.work_in_turn.new.row)) items
    (zip_of (λ w. map (λ s. session_with s.pass (get_by_text s.names) s.txn s.log.items s.ended) w.sessions.items) (AreWorked c.args.book.now c.args.mounts.now (map (λ v. v.items) c.args.scripts.now)) c.as_mut_slice.result.now c.work_in_turn.new.row c.work_in_turn.ensures.count c.work_in_turn.ensures.worked))
    c.requires.dealt)
