use Rattle.rebase_writes.proofs.MarkLaws.{staged_marks-set}
use Rattle.rebase_writes.proofs.run.stage_cell.Goals as goal

pub returns : goal.returns
returns c count full =
    staged_marks-set count c.args.marks.now c.mark.new.marks c.args.staged.now c.args.place c.args.word full c.mark.ensures.here c.mark.ensures.others
