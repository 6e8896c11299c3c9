use Rattle.transcript_fits.specs.Unchecked.{by_script}
use Rattle.transcript_check.proofs.PartLaws.{by_line}
use Rattle.transcript_check.proofs.checking.check.Goals as goal

pub check_lines_read-requires-clause-checked : goal.check_lines_read-requires-clause-checked
check_lines_read-requires-clause-checked c = let asking = rw c.in-Ok-Checked.field-0-is at c.in-Ok-Checked.ensures in asking.0

pub check_lines_read-requires-clause-commands : goal.check_lines_read-requires-clause-commands
check_lines_read-requires-clause-commands c = let asking = rw c.in-Ok-Checked.field-0-is at c.in-Ok-Checked.ensures in asking.1

pub returns-in-Ok-Unchecked : goal.returns-in-Ok-Unchecked
returns-in-Ok-Unchecked c =
    let asking = rw c.in-Ok-Unchecked.field-0-is at c.in-Ok-Unchecked.ensures in
    by_line c.args.scripts.now c.args.transcript.now c.in-Ok-Unchecked.line c.not_checked.result (by_script asking.0) c.not_checked.ensures
