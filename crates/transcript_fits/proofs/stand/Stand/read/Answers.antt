use Rattle.std.proofs.Common.{◌∙◌, codes, sym, ap}
use Rattle.std.proofs.lemmas.Result.{on_ok_weaker}
use Rattle.serde_json.specs.Find.{get}
use Rattle.stated_history.specs.SaidAnswers.{data_said}
use Rattle.stated_history.specs.Standings.{standing_of}
use Rattle.transcript_fits.specs.Stands.{ops_in}
use Rattle.transcript_fits.proofs.Follows.{has_joined}
use Rattle.transcript_fits.proofs.stand.Stand.read.Goals as goal

pub returns-in-Some-clause-kept : goal.returns-in-Some-clause-kept
returns-in-Some-clause-kept c =
    on_ok_weaker c.read.result
    (λ joins. λ h reading.
    has_joined h c.args.self.now (record { walk = c.args.self.now.walk; own = c.read.new.self; begun = c.args.self.now.begun; upto = c.args.self.now.upto }) c.args.view.now (data_said c.args.answer.now) _ (sym (c.in-Some.ensures ∙ c.in_ok-values.ensures)) (c.keeps_reads.ensures.yes c.if-keeps_reads.true)
    (λ words. joins h c.args.self.now.upto (ops_in (standing_of c.args.self.now.walk.standing).transaction) words reading.there reading.own))
    c.read.ensures
