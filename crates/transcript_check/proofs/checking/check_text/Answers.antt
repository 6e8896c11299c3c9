use Rattle.std.proofs.Common.{sym, subst}
use Rattle.transcript_fits.specs.Cuttings.{IsWholeCut}
use Rattle.transcript_fits.specs.Unchecked.{by_memory}
use Rattle.transcript_fits.specs.Verdicts.{is_no, part_1}
use Rattle.transcript_check.proofs.CutLaws.{whole_is_checked}
use Rattle.transcript_check.proofs.PartLaws.{by_line}
use Rattle.transcript_check.proofs.checking.check_text.Goals as goal

pub check_said-requires-clause-cut : goal.check_said-requires-clause-cut
check_said-requires-clause-cut c = subst (IsWholeCut c.args.scripts.now c.args.transcript.now) (sym c.items.ensures) (rw c.in-Ok-Whole.field-0-is at c.in-Ok-Whole.ensures)

pub returns-in-Ok-Broken : goal.returns-in-Ok-Broken
returns-in-Ok-Broken c =
    let broken = rw c.in-Ok-Broken.field-0-is at c.in-Ok-Broken.ensures in
    is_no (whole_is_checked c.args.scripts.now c.args.transcript.now c.requires.checked broken.whole) (part_1 broken.fails)

pub returns-in-Ok-CutOff : goal.returns-in-Ok-CutOff
returns-in-Ok-CutOff c =
    let off = rw c.in-Ok-CutOff.field-0-is at c.in-Ok-CutOff.ensures in
    by_line c.args.scripts.now c.args.transcript.now c.in-Ok-CutOff.line c.not_checked.result (by_memory c.requires.checked off.cut_off) c.not_checked.ensures
