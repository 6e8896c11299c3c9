use Rattle.std.proofs.Common.{◌∙◌, length, sym, ap}
use Rattle.std.proofs.lemmas.Result.{IfOk-weaker}
use Rattle.transcript_fits.specs.Walks.{outlined}
use Rattle.transcript_check.proofs.PartLaws.{told_in, put_in}
use Rattle.transcript_check.proofs.SpotLaws.{spots_count, spots_within}
use Rattle.transcript_check.proofs.checking.stated_events.Goals as goal

pub put_all-requires-clause-count : goal.put_all-requires-clause-count
put_all-requires-clause-count c =
    let s = c.args.source.now in
    let is = c.requires.source.source in
    let by = is.stated.stated s.transcript.now is.cut.told is.cut.said in
    spots_count s.scripts.now s.said.now c.args.spots.now s.transcript.now is.cut.told c.requires.source.table is.cut.said ∙ sym by.outlined.count ∙ sym (ap length (c.in-Ok.ensures ∙ c.items.ensures))

pub put_all-requires-clause-spots : goal.put_all-requires-clause-spots
put_all-requires-clause-spots c =
    let s = c.args.source.now in
    let is = c.requires.source.source in
    spots_within s.scripts.now s.said.now c.args.spots.now s.transcript.now is.cut.told (outlined s) c.args.commits.now c.requires.source.table is.cut.said (c.requires.commits is.cut.told (told_in s is))

pub returns-in-Ok : goal.returns-in-Ok
returns-in-Ok c =
    IfOk-weaker c.put_all.result _ _
    (λ all put. put_in c.args.source.now c.args.spots.now c.args.commits.now c.in-Ok.events.items all.items c.requires.source c.requires.commits c.commits_complete_the_history.ensures.stated (c.in-Ok.ensures ∙ c.items.ensures) put) c.put_all.ensures
