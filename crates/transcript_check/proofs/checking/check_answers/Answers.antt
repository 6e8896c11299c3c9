use Rattle.transcript_check.proofs.PartLaws.{told_in, judged, by_answers}
use Rattle.transcript_check.proofs.checking.check_answers.Goals as goal

pub are_answered-requires : goal.are_answered-requires
are_answered-requires c = judged c.args.source.now c.requires.source c.args.events.now c.requires.stated c.requires.legal c.args.acts.now c.args.store.now c.requires.few c.requires.acts c.requires.kept

pub returns-in-Ok : goal.returns-in-Ok
returns-in-Ok c =
    let s = c.args.source.now in
    let is = c.requires.source in
    by_answers s is c.args.events.now c.requires.stated c.requires.legal c.in-Ok.answered c.verdict_by.result (c.in-Ok.ensures is.cut.told (told_in s is)) c.verdict_by.ensures
