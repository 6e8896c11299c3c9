use Rattle.std.proofs.Common.{ap}
use Rattle.std.proofs.lemmas.Result.{IfOk-weaker}
use Rattle.stated_history.specs.Standings.{standing_of, transaction_in, transaction_of}
use Rattle.transcript_fits.proofs.FaceLaws.{commit_ops, commit_own, commit_fits, no_commit}
use Rattle.transcript_fits.proofs.fitting.fit_committing.Goals as goal

pub fit_commit-requires-clause-line : goal.fit_commit-requires-clause-line
fit_commit-requires-clause-line c = c.requires.faced.2.prints

pub fit_commit-requires-clause-ops : goal.fit_commit-requires-clause-ops
fit_commit-requires-clause-ops c =
    commit_ops c.args.judge.now c.args.line c.requires.faced.0 (standing_of c.args.stand.now.walk.standing) c.args.stand.now.own c.requires.faced.1 c.requires.judge (transaction_of c.in-Some.transaction) (ap transaction_in c.in-Some.is) c.requires.faced.2

pub fit_commit-requires-clause-own : goal.fit_commit-requires-clause-own
fit_commit-requires-clause-own c = (
  c.args.line.window.upto,
  commit_own c.args.judge.now c.args.line c.requires.faced.0 (standing_of c.args.stand.now.walk.standing) c.args.stand.now.own c.requires.faced.1 (transaction_of c.in-Some.transaction) (ap transaction_in c.in-Some.is) c.requires.faced.2,
)

pub returns-in-Some-clause-fits : goal.returns-in-Some-clause-fits
returns-in-Some-clause-fits c =
    IfOk-weaker c.fit_commit.result _ _
    (λ fit may place asked faced.
    commit_fits c.args.judge.now c.args.line place (standing_of c.args.stand.now.walk.standing) c.args.stand.now.own asked (transaction_of c.in-Some.transaction) fit (ap transaction_in c.in-Some.is) faced may)
    c.fit_commit.ensures.fits

pub returns-in-None-clause-fits : goal.returns-in-None-clause-fits
returns-in-None-clause-fits c = λ place asked faced.
    absurd (no_commit c.args.judge.now c.args.line place (standing_of c.args.stand.now.walk.standing) c.args.stand.now.own asked (ap transaction_in c.in-None.is) faced)
