use Rattle.std.proofs.Common.{◌≡◌, ℕ, List, Option, Ok, subst}
use Rattle.std.proofs.lemmas.Result.{IfOk-weaker}
use Rattle.history.specs.Acts.{binds}
use Rattle.history.specs.Commit.{Transaction}
use Rattle.history.specs.History.{History}
use Rattle.open_fits.specs.AnswerLines.{IsAnswerText}
use Rattle.stated_history.specs.Standings.{standing_of}
use Rattle.stated_history.specs.declared.Act.{Act}
use Rattle.transcript_fits.specs.Judges.{history_of}
use Rattle.transcript_fits.specs.LineFits.{IsAnsweredSo, IsLineFit, answer_of_line}
use Rattle.transcript_fits.specs.Stands.{IsFaced}
use Rattle.transcript_fits.proofs.FaceLaws.{plain_asked, plain_on, opening_on, reading_on, refused_fits, begun_fits, aborted_fits, opened_fits, bound_fits, reading_of, reads_fit}
use Rattle.transcript_fits.proofs.fitting.fit_line.Goals as goal

pub fit_opening-requires-clause-line : goal.fit_opening-requires-clause-line
fit_opening-requires-clause-line c = c.requires.faced.1.prints

pub fit_opening-requires-clause-opening : goal.fit_opening-requires-clause-opening
fit_opening-requires-clause-opening c =
    let s = standing_of c.args.stand.now.walk.standing in
    (subst (λ (a : Act). IsFaced c.args.judge.now c.args.line c.args.place s c.args.stand.now.own c.requires.faced.0 a) c.in-Opens.is c.requires.faced.1).opens

pub fit_reading-requires-clause-reading : goal.fit_reading-requires-clause-reading
fit_reading-requires-clause-reading c =
    let s = standing_of c.args.stand.now.walk.standing in
    let faced = subst (λ (a : Act). IsFaced c.args.judge.now c.args.line c.args.place s c.args.stand.now.own c.requires.faced.0 a) c.in-Reads.is c.requires.faced.1 in
    (s.transaction, reading_of c.args.judge.now c.args.line c.args.place s c.args.stand.now.own c.requires.faced.0 c.in-Reads.view faced)

pub fit_writing-requires-clause-faced : goal.fit_writing-requires-clause-faced
fit_writing-requires-clause-faced c =
    let s = standing_of c.args.stand.now.walk.standing in
    (c.args.place, c.requires.faced.0, subst (λ (a : Act). IsFaced c.args.judge.now c.args.line c.args.place s c.args.stand.now.own c.requires.faced.0 a) c.in-Writes.is c.requires.faced.1)

pub fit_committing-requires-clause-faced : goal.fit_committing-requires-clause-faced
fit_committing-requires-clause-faced c =
    let s = standing_of c.args.stand.now.walk.standing in
    (c.args.place, c.requires.faced.0, subst (λ (a : Act). IsFaced c.args.judge.now c.args.line c.args.place s c.args.stand.now.own c.requires.faced.0 a) c.in-Commits.is c.requires.faced.1)

pub returns-in-Refused-clause-fits : goal.returns-in-Refused-clause-fits
returns-in-Refused-clause-fits c =
    let s = standing_of c.args.stand.now.walk.standing in
    IfOk-weaker c.fit_one.result _ _
    (λ fit tells asked faced.
    refused_fits c.args.judge.now c.args.line c.args.place s c.args.stand.now.own asked c.in-Refused.body fit (subst (λ (a : Act). IsFaced c.args.judge.now c.args.line c.args.place s c.args.stand.now.own asked a) c.in-Refused.is faced) tells)
    c.fit_one.ensures.fits

pub returns-in-Refused-clause-asked : goal.returns-in-Refused-clause-asked
returns-in-Refused-clause-asked c = IfOk-weaker c.fit_one.result _ _ (λ fit plain. plain_asked (history_of c.args.judge.now) fit plain) c.fit_one.ensures.plain

pub returns-in-Refused-clause-on : goal.returns-in-Refused-clause-on
returns-in-Refused-clause-on c = IfOk-weaker c.fit_one.result _ _ (λ fit plain asked faced. plain_on c.args.line asked fit plain) c.fit_one.ensures.plain

pub returns-in-Opens-clause-fits : goal.returns-in-Opens-clause-fits
returns-in-Opens-clause-fits c =
    let s = standing_of c.args.stand.now.walk.standing in
    IfOk-weaker c.fit_opening.result _ _
    (λ fit may asked faced.
    opened_fits c.args.judge.now c.args.line c.args.place s c.args.stand.now.own asked c.in-Opens.name c.in-Opens.plan fit (subst (λ (a : Act). IsFaced c.args.judge.now c.args.line c.args.place s c.args.stand.now.own asked a) c.in-Opens.is faced) may)
    c.fit_opening.ensures.fits

pub returns-in-Opens-clause-asked : goal.returns-in-Opens-clause-asked
returns-in-Opens-clause-asked c = c.fit_opening.ensures.asked

pub returns-in-Opens-clause-on : goal.returns-in-Opens-clause-on
returns-in-Opens-clause-on c = IfOk-weaker c.fit_opening.result _ _ (λ fit is asked faced. opening_on c.args.line asked fit is) c.fit_opening.ensures.opening

pub returns-in-Binds-clause-fits : goal.returns-in-Binds-clause-fits
returns-in-Binds-clause-fits c =
    let s = standing_of c.args.stand.now.walk.standing in
    let same : c.items.result.now ≡ c.in-Binds.name = c.items.ensures in
    IfOk-weaker c.fit_binding.result _ _
    (λ fit may asked faced.
    bound_fits c.args.judge.now c.args.line c.args.place s c.args.stand.now.own asked c.in-Binds.name c.in-Binds.view fit (subst (λ (a : Act). IsFaced c.args.judge.now c.args.line c.args.place s c.args.stand.now.own asked a) c.in-Binds.is faced)
    (subst (λ (n : List ℕ). (h : History) (t : Option Transaction) → IsAnswerText c.args.line.line c.args.line.text.now (answer_of_line c.args.line)
    → IsLineFit h (IsAnsweredSo h c.args.line t (Ok (binds n c.in-Binds.view))) fit) same may))
    c.fit_binding.ensures.fits

pub returns-in-Binds-clause-asked : goal.returns-in-Binds-clause-asked
returns-in-Binds-clause-asked c = IfOk-weaker c.fit_binding.result _ _ (λ fit plain. plain_asked (history_of c.args.judge.now) fit plain) c.fit_binding.ensures.plain

pub returns-in-Binds-clause-on : goal.returns-in-Binds-clause-on
returns-in-Binds-clause-on c = IfOk-weaker c.fit_binding.result _ _ (λ fit plain asked faced. plain_on c.args.line asked fit plain) c.fit_binding.ensures.plain

pub returns-in-Reads-clause-fits : goal.returns-in-Reads-clause-fits
returns-in-Reads-clause-fits c =
    let s = standing_of c.args.stand.now.walk.standing in
    IfOk-weaker c.fit_reading.result _ _
    (λ fit may asked faced.
    reads_fit c.args.judge.now c.args.line c.args.place s c.args.stand.now.own asked c.in-Reads.view fit (subst (λ (a : Act). IsFaced c.args.judge.now c.args.line c.args.place s c.args.stand.now.own asked a) c.in-Reads.is faced) may)
    c.fit_reading.ensures.fits

pub returns-in-Reads-clause-asked : goal.returns-in-Reads-clause-asked
returns-in-Reads-clause-asked c = c.fit_reading.ensures.asked

pub returns-in-Reads-clause-on : goal.returns-in-Reads-clause-on
returns-in-Reads-clause-on c =
    let s = standing_of c.args.stand.now.walk.standing in
    IfOk-weaker c.fit_reading.result _ _
    (λ fit is asked faced. reading_on c.args.line asked c.in-Reads.view fit (subst (λ (a : Act). IsFaced c.args.judge.now c.args.line c.args.place s c.args.stand.now.own asked a) c.in-Reads.is faced).does is)
    c.fit_reading.ensures.reading

pub returns-in-Writes-clause-fits : goal.returns-in-Writes-clause-fits
returns-in-Writes-clause-fits c =
    let s = standing_of c.args.stand.now.walk.standing in
    IfOk-weaker c.fit_writing.result _ _
    (λ fit may asked faced. may c.args.place asked (subst (λ (a : Act). IsFaced c.args.judge.now c.args.line c.args.place s c.args.stand.now.own asked a) c.in-Writes.is faced))
    c.fit_writing.ensures.fits

pub returns-in-Writes-clause-asked : goal.returns-in-Writes-clause-asked
returns-in-Writes-clause-asked c = IfOk-weaker c.fit_writing.result _ _ (λ fit plain. plain_asked (history_of c.args.judge.now) fit plain) c.fit_writing.ensures.plain

pub returns-in-Writes-clause-on : goal.returns-in-Writes-clause-on
returns-in-Writes-clause-on c = IfOk-weaker c.fit_writing.result _ _ (λ fit plain asked faced. plain_on c.args.line asked fit plain) c.fit_writing.ensures.plain

pub returns-in-Begins-clause-fits : goal.returns-in-Begins-clause-fits
returns-in-Begins-clause-fits c =
    let s = standing_of c.args.stand.now.walk.standing in
    IfOk-weaker c.fit_one-in-Begins.result _ _
    (λ fit tells asked faced.
    begun_fits c.args.judge.now c.args.line c.args.place s c.args.stand.now.own asked c.in-Begins.mode fit (subst (λ (a : Act). IsFaced c.args.judge.now c.args.line c.args.place s c.args.stand.now.own asked a) c.in-Begins.is faced) tells)
    c.fit_one-in-Begins.ensures.fits

pub returns-in-Begins-clause-asked : goal.returns-in-Begins-clause-asked
returns-in-Begins-clause-asked c = IfOk-weaker c.fit_one-in-Begins.result _ _ (λ fit plain. plain_asked (history_of c.args.judge.now) fit plain) c.fit_one-in-Begins.ensures.plain

pub returns-in-Begins-clause-on : goal.returns-in-Begins-clause-on
returns-in-Begins-clause-on c = IfOk-weaker c.fit_one-in-Begins.result _ _ (λ fit plain asked faced. plain_on c.args.line asked fit plain) c.fit_one-in-Begins.ensures.plain

pub returns-in-Commits-clause-fits : goal.returns-in-Commits-clause-fits
returns-in-Commits-clause-fits c =
    let s = standing_of c.args.stand.now.walk.standing in
    IfOk-weaker c.fit_committing.result _ _
    (λ fit may asked faced. may c.args.place asked (subst (λ (a : Act). IsFaced c.args.judge.now c.args.line c.args.place s c.args.stand.now.own asked a) c.in-Commits.is faced))
    c.fit_committing.ensures.fits

pub returns-in-Commits-clause-asked : goal.returns-in-Commits-clause-asked
returns-in-Commits-clause-asked c = IfOk-weaker c.fit_committing.result _ _ (λ fit plain. plain_asked (history_of c.args.judge.now) fit plain) c.fit_committing.ensures.plain

pub returns-in-Commits-clause-on : goal.returns-in-Commits-clause-on
returns-in-Commits-clause-on c = IfOk-weaker c.fit_committing.result _ _ (λ fit plain asked faced. plain_on c.args.line asked fit plain) c.fit_committing.ensures.plain

pub returns-in-Aborts-clause-fits : goal.returns-in-Aborts-clause-fits
returns-in-Aborts-clause-fits c =
    let s = standing_of c.args.stand.now.walk.standing in
    IfOk-weaker c.fit_one-in-Aborts.result _ _
    (λ fit tells asked faced.
    aborted_fits c.args.judge.now c.args.line c.args.place s c.args.stand.now.own asked fit (subst (λ (a : Act). IsFaced c.args.judge.now c.args.line c.args.place s c.args.stand.now.own asked a) c.in-Aborts.is faced) tells)
    c.fit_one-in-Aborts.ensures.fits

pub returns-in-Aborts-clause-asked : goal.returns-in-Aborts-clause-asked
returns-in-Aborts-clause-asked c = IfOk-weaker c.fit_one-in-Aborts.result _ _ (λ fit plain. plain_asked (history_of c.args.judge.now) fit plain) c.fit_one-in-Aborts.ensures.plain

pub returns-in-Aborts-clause-on : goal.returns-in-Aborts-clause-on
returns-in-Aborts-clause-on c = IfOk-weaker c.fit_one-in-Aborts.result _ _ (λ fit plain asked faced. plain_on c.args.line asked fit plain) c.fit_one-in-Aborts.ensures.plain
