use Rattle.stated_history.specs.Standings.{transaction_of}
use Rattle.transcript_fits.proofs.Follows.{stands_some}
use Rattle.transcript_fits.proofs.stand.Stand.keeps_reads.Goals as goal

pub returns-in-Some-clause-yes : goal.returns-in-Some-clause-yes
returns-in-Some-clause-yes c = λ asked.
    (transaction_of c.in-Some.transaction, stands_some c.args.self.now.walk.standing.transaction c.in-Some.transaction c.in-Some.is, asked)
