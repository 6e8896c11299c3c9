use Rattle.indexmap.specs.IndexMap.{get_by_text}
use Rattle.session_runs.specs.Session.{session_with}
use Rattle.session_workers.proofs.Dealt.{added}
use Rattle.session_workers.proofs.dealing.add.Goals as goal

pub returns-clause-added : goal.returns-clause-added
returns-clause-added g c =
    added (λ w. w.sessions.items) (λ s. session_with s.pass (get_by_text s.names) s.txn s.log.items s.ended) c.args.row.now c.args.place c.take_on.new.worker c.index-row-place.result c.args.session c.requires.place c.take_on.ensures.sessions
