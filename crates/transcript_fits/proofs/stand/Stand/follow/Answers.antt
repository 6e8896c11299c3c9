use Rattle.std.proofs.lemmas.Result.{on_ok_weaker}
use Rattle.stated_history.specs.declared.Act.TheVariants.{Commits}
use Rattle.transcript_fits.proofs.Follows.{follow_begin, follow_other, follow_write}
use Rattle.transcript_fits.proofs.stand.Stand.follow.Goals as goal

pub returns-in-Writes : goal.returns-in-Writes
returns-in-Writes c =
    on_ok_weaker c.write.result
    (λ kept. λ h asked following.
    follow_write h c.args.self.now c.args.line asked c.args.act.now following c.write.new.self c.args.place c.write.ensures.upto c.write.ensures.walk c.in-Writes.view c.in-Writes.words c.in-Writes.is c.write.ensures.begun (kept h))
    c.write.ensures.kept

pub returns-in-Begins : goal.returns-in-Begins
returns-in-Begins c = λ h asked following.
    follow_begin h c.args.self.now c.args.line asked c.args.act.now following c.begin.new.self c.args.place c.begin.ensures.upto c.begin.ensures.walk _ c.in-Begins.is c.begin.ensures.begun (c.begin.ensures.own h c.begin.new.self.upto)

pub returns-in-Commits : goal.returns-in-Commits
returns-in-Commits c = λ h asked following. follow_other h c.args.self.now c.args.line asked c.args.act.now following c.args.place Commits c.in-Commits.is tt
