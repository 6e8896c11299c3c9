use Rattle.std.proofs.Common.{refl}
use Rattle.transcript_fits.proofs.PendingLaws.{met_more, refused_more}
use Rattle.transcript_fits.proofs.pending.Pending.add.Goals as goal

pub returns-in_ok-push-in-IfRefused-clause-added : goal.returns-in_ok-push-in-IfRefused-clause-added
returns-in_ok-push-in-IfRefused-clause-added c = λ history.
    refused_more history c.args.self.now (record { questions = c.push.new.self; waiting = c.args.self.now.waiting }) c.in-IfRefused.question c.args.fit c.in-IfRefused.is c.in_ok-push-in-IfRefused.ensures.items refl

pub returns-in_ok-push-in-IfMet-clause-added : goal.returns-in_ok-push-in-IfMet-clause-added
returns-in_ok-push-in-IfMet-clause-added c = λ history.
    met_more history c.args.self.now (record { questions = c.args.self.now.questions; waiting = c.push-in-IfMet.new.self }) c.in-IfMet.waiting c.args.fit c.in-IfMet.is c.in_ok-push-in-IfMet.ensures.items refl
