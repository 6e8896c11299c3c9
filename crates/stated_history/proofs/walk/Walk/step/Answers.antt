use Rattle.std.proofs.Common.{◌<◌, length, sym, subst}
use Rattle.stated_acts.specs.SaidAnswers.{data_said}
use Rattle.stated_acts.specs.Standings.{transaction_of, transaction_in, standing_of, IsEnded}
use Rattle.stated_history.proofs.WalkLaws.{has_ended, no_event}
use Rattle.stated_history.proofs.walk.Walk.step.Goals as goal

pub of-requires : goal.of-requires
of-requires c =
    let before = transaction_in c.args.self.now.standing.transaction in
    let after = transaction_in c.step.new.self.transaction in
    let ended = has_ended c.args.act before after c.in-Some.transaction (subst (IsEnded c.args.act before after) c.in-Some.is c.in_ok-ended.ensures.ended) in
    c.requires.sound.kept (transaction_of c.in-Some.transaction) ended.stood

pub returns-in-None-clause-event : goal.returns-in-None-clause-event
returns-in-None-clause-event c = λ history asked is opened some.
    let before = standing_of c.args.self.now.standing in
    let after = standing_of c.step.new.self in
    no_event history before after c.args.said.now.line.number asked c.args.act (data_said c.args.answer.now) c.requires.other is (c.in_ok-ended.ensures.stands history asked is opened)
    (subst (λ ns. 0 < length ns) (sym c.requires.numbers.done) some) (subst (IsEnded c.args.act before.transaction after.transaction) c.in-None.is c.in_ok-ended.ensures.ended)
