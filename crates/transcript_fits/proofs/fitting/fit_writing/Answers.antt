use Rattle.std.proofs.Common.{ap}
use Rattle.std.proofs.lemmas.Result.{IfOk-weaker}
use Rattle.stated_history.specs.Standings.{standing_of, transaction_in}
use Rattle.transcript_fits.proofs.FaceLaws.{staged_fits, write_in, alone_fits}
use Rattle.transcript_fits.proofs.fitting.fit_writing.Goals as goal

pub fit_write-requires-clause-line : goal.fit_write-requires-clause-line
fit_write-requires-clause-line c = c.requires.faced.2.prints

pub fit_write-requires-clause-view : goal.fit_write-requires-clause-view
fit_write-requires-clause-view c =
    (write_in c.args.judge.now c.args.line c.requires.faced.0 (standing_of c.args.stand.now.walk.standing) c.args.stand.now.own c.requires.faced.1 c.requires.judge c.args.view.now c.args.words.now c.requires.faced.2).view

pub returns-in-Some-clause-fits : goal.returns-in-Some-clause-fits
returns-in-Some-clause-fits c =
    let s = standing_of c.args.stand.now.walk.standing in
    IfOk-weaker c.fit_one.result _ _
    (λ fit tells place asked faced.
    staged_fits c.args.judge.now c.args.line place s c.args.stand.now.own asked c.args.view.now c.args.words.now c.len-cells.result _ fit (ap transaction_in c.in-Some.is) c.len-cells.ensures faced tells)
    c.fit_one.ensures.fits

pub returns-in-None-clause-fits : goal.returns-in-None-clause-fits
returns-in-None-clause-fits c =
    let s = standing_of c.args.stand.now.walk.standing in
    IfOk-weaker c.fit_write.result _ _
    (λ fit may place asked faced.
    alone_fits c.args.judge.now c.args.line place s c.args.stand.now.own asked c.requires.judge c.args.view.now c.args.words.now c.len-cells.result fit (ap transaction_in c.in-None.is) c.len-cells.ensures faced may)
    c.fit_write.ensures.fits
