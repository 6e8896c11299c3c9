use Rattle.std.proofs.Common.{rules, ◌<◌, ◌∙◌, length, map, add-one}
use Rattle.std.proofs.lemmas.List.{length-set}
use Rattle.indexmap.specs.IndexMap.{get_by_text}
use Rattle.session_runs.specs.Session.{session_with}
use Rattle.session_workers.specs.Workers.{IsFresh, IsWorked}
use Rattle.session_workers.proofs.Worked.{at_drop, zip_more, rest_more}
use Rattle.session_workers.proofs.working.run_each.Goals as goal

pub run_one-requires-clause-fresh : goal.run_one-requires-clause-fresh
run_one-requires-clause-fresh g c =
    let low : c.loop-place.place < length c.loop-place.sessions = search rules in
    at_drop (λ s. session_with s.pass (get_by_text s.names) s.txn s.log.items s.ended) (IsFresh c.args.book.now) c.loop-place.place c.args.sessions.now c.loop-place.sessions c.index-sessions-place.result c.loop-place.invariant.count low c.loop-place.invariant.rest c.requires.fresh

pub loop-place-preserved : goal.loop-place-preserved
loop-place-preserved g c =
    let low : c.loop-place.place < length c.loop-place.sessions = search rules in
    rw add-one
    (record {
      count = length-set c.loop-place.sessions c.loop-place.place c.run_one.new.session ∙ c.loop-place.invariant.count;
      worked = zip_more (λ s. session_with s.pass (get_by_text s.names) s.txn s.log.items s.ended) (IsWorked c.args.book.now c.args.mounts.now (map (λ v. v.items) c.args.scripts.now)) c.loop-place.place c.args.sessions.now c.loop-place.sessions c.run_one.new.session c.index-sessions-place.result c.loop-place.invariant.count low
          c.loop-place.invariant.worked c.loop-place.invariant.rest c.run_one.ensures;
      rest = rest_more c.loop-place.place c.args.sessions.now c.loop-place.sessions c.run_one.new.session c.loop-place.invariant.count c.loop-place.invariant.rest;
    })
