use Rattle.std.proofs.Common.{refl}
use Rattle.session_turns.proofs.Laws.{found_all}
use Rattle.sessions.proofs.WriteLaws.{begun_sound}
use Rattle.sessions.proofs.writing.begun.Goals as goal

pub returns-in-Ok-clause-sound : goal.returns-in-Ok-clause-sound
returns-in-Ok-clause-sound c opening events legal refs =
    begun_sound c.args.line c.begin-t.result c.write_owned.new.self c.args.w.view c.args.w.words c.args.w.words c.begin-t.ensures refl c.in-Ok.ensures.ok c.requires.view c.in-Ok.ensures.whole
    opening events (λ txn. c.in-Ok.ensures.txn opening events txn refs) legal

pub returns-in-Ok-clause-found : goal.returns-in-Ok-clause-found
returns-in-Ok-clause-found c = found_all c.args.w.view c.in-Ok.ensures.whole.targets
