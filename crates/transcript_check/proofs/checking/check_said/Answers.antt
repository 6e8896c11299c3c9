use Rattle.std.proofs.Common.{sym, subst}
use Rattle.transcript_fits.specs.StatedOpenings.{IsNumberedCut}
use Rattle.transcript_fits.proofs.Laws.{sessions_within}
use Rattle.transcript_check.proofs.PartLaws.{fails_part_2}
use Rattle.transcript_check.proofs.checking.check_said.Goals as goal

pub number_events-requires : goal.number_events-requires
number_events-requires c = let cut = c.requires.cut in sessions_within c.args.scripts.now c.args.transcript.now c.args.said.now cut.told cut.said

pub check_numbers-requires-clause-numbered : goal.check_numbers-requires-clause-numbered
check_numbers-requires-clause-numbered c = let numbering = rw c.in-Ok-Some.field-0-is at c.in-Ok-Some.ensures in numbering.1 c.args.scripts.now c.args.transcript.now

pub check_numbers-requires-clause-table : goal.check_numbers-requires-clause-table
check_numbers-requires-clause-table c =
    let cut = c.requires.cut in
    let numbering = rw c.in-Ok-Some.field-0-is at c.in-Ok-Some.ensures in
    subst (IsNumberedCut c.args.scripts.now c.args.said.now) (sym c.items.ensures)
    (record { transcript = c.args.transcript.now; told = cut.told; said_of = cut.said; numbered = numbering.1 c.args.scripts.now c.args.transcript.now cut.told cut.said; table = numbering.0 })

pub returns-in-Ok-None : goal.returns-in-Ok-None
returns-in-Ok-None c =
    let numbering = rw c.in-Ok-None.field-0-is at c.in-Ok-None.ensures in
    fails_part_2 c.args.scripts.now c.args.transcript.now c.args.said.now c.requires.checked c.requires.cut (numbering c.args.scripts.now c.args.transcript.now)
