use Rattle.indexmap.specs.IndexMap.{get_by_text}
use Rattle.session_runs.specs.Session.{session_with}
use Rattle.session_workers.proofs.Kept.{kept_apart}
use Rattle.session_workers.proofs.gathering.take_apart.Goals as goal

pub returns-clause-kept : goal.returns-clause-kept
returns-clause-kept g c = λ book mounts scripts whole ran kept.
    kept_apart book mounts scripts whole c.args.back.now.items c.push_reserved.new.self.items c.args.logs.now c.number-place.result c.wrap.result
    (session_with c.args.session.pass (get_by_text c.args.session.names) c.args.session.txn c.args.session.log.items c.args.session.ended) c.push_reserved.ensures.items c.number-place.ensures c.wrap.ensures c.requires.small ran kept
