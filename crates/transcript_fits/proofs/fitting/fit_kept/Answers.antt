use Rattle.std.proofs.Common.{◌≡◌, ◌∙◌, Some, ap}
use Rattle.std.specs.List.{slice_get}
use Rattle.std.proofs.lemmas.Result.{IfOk-weaker}
use Rattle.stated_history.specs.Standings.{standing_of}
use Rattle.stated_history.specs.ToldStandings.{act_at}
use Rattle.stated_history.specs.declared.Act.TheVariants.{Reads, Writes}
use Rattle.transcript_fits.specs.Judges.{history_of}
use Rattle.transcript_fits.proofs.FaceLaws.{plain_asked, plain_on, reading_of, reading_on, reads_fit}
use Rattle.transcript_fits.proofs.KeptLines.{kept_faced, one_faced}
use Rattle.transcript_fits.proofs.fitting.fit_kept.Goals as goal

pub fit_reading-requires-clause-reading : goal.fit_reading-requires-clause-reading
fit_reading-requires-clause-reading c =
    let j = c.args.judge.now in
    let s = standing_of c.args.stand.now.walk.standing in
    let act = Reads c.in-Reads.view in
    let got : slice_get j.acts.now c.args.place ≡ Some (Some act) = c.requires.kept ∙ ap (λ a. Some (Some a)) c.in-Reads.is in
    let one = one_faced j c.requires.judge c.args.stand.now c.args.line c.args.place c.requires.line act got in
    (s.transaction, reading_of j c.args.line c.args.place s c.args.stand.now.own one.0 c.in-Reads.view one.1)

pub returns-in-Reads-clause-fits : goal.returns-in-Reads-clause-fits
returns-in-Reads-clause-fits c =
    let j = c.args.judge.now in
    let s = standing_of c.args.stand.now.walk.standing in
    let act = Reads c.in-Reads.view in
    let got : slice_get j.acts.now c.args.place ≡ Some (Some act) = c.requires.kept ∙ ap (λ a. Some (Some a)) c.in-Reads.is in
    IfOk-weaker c.fit_reading.result _ _
    (λ fit may told t it. reads_fit j c.args.line c.args.place s c.args.stand.now.own (act_at s t) c.in-Reads.view fit (kept_faced j c.requires.judge c.args.stand.now c.args.line c.args.place c.requires.line act got told t it) may)
    c.fit_reading.ensures.fits

pub returns-in-Reads-clause-on : goal.returns-in-Reads-clause-on
returns-in-Reads-clause-on c =
    let j = c.args.judge.now in
    let s = standing_of c.args.stand.now.walk.standing in
    let act = Reads c.in-Reads.view in
    let got : slice_get j.acts.now c.args.place ≡ Some (Some act) = c.requires.kept ∙ ap (λ a. Some (Some a)) c.in-Reads.is in
    IfOk-weaker c.fit_reading.result _ _
    (λ fit is told t it. reading_on c.args.line (act_at s t) c.in-Reads.view fit (kept_faced j c.requires.judge c.args.stand.now c.args.line c.args.place c.requires.line act got told t it).does is)
    c.fit_reading.ensures.reading

pub fit_writing-requires-clause-faced : goal.fit_writing-requires-clause-faced
fit_writing-requires-clause-faced c =
    let j = c.args.judge.now in
    let act = Writes c.in-Writes.view c.in-Writes.words in
    let got : slice_get j.acts.now c.args.place ≡ Some (Some act) = c.requires.kept ∙ ap (λ a. Some (Some a)) c.in-Writes.is in
    let one = one_faced j c.requires.judge c.args.stand.now c.args.line c.args.place c.requires.line act got in
    (c.args.place, one.0, one.1)

pub returns-in-Writes-clause-fits : goal.returns-in-Writes-clause-fits
returns-in-Writes-clause-fits c =
    let j = c.args.judge.now in
    let s = standing_of c.args.stand.now.walk.standing in
    let act = Writes c.in-Writes.view c.in-Writes.words in
    let got : slice_get j.acts.now c.args.place ≡ Some (Some act) = c.requires.kept ∙ ap (λ a. Some (Some a)) c.in-Writes.is in
    IfOk-weaker c.fit_writing.result _ _
    (λ fit may told t it. may c.args.place (act_at s t) (kept_faced j c.requires.judge c.args.stand.now c.args.line c.args.place c.requires.line act got told t it))
    c.fit_writing.ensures.fits

pub returns-in-Writes-clause-asked : goal.returns-in-Writes-clause-asked
returns-in-Writes-clause-asked c = IfOk-weaker c.fit_writing.result _ _ (λ fit plain. plain_asked (history_of c.args.judge.now) fit plain) c.fit_writing.ensures.plain

pub returns-in-Writes-clause-on : goal.returns-in-Writes-clause-on
returns-in-Writes-clause-on c =
    let s = standing_of c.args.stand.now.walk.standing in
    IfOk-weaker c.fit_writing.result _ _ (λ fit plain told t it. plain_on c.args.line (act_at s t) fit plain) c.fit_writing.ensures.plain
