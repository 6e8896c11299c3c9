use Rattle.rebase_writes.proofs.MarkLaws.{marked_here, marked_others}
use Rattle.rebase_writes.proofs.marks.mark.Goals as goal

pub returns-clause-here : goal.returns-clause-here
returns-clause-here c = marked_here c.args.marks.now c.args.place c.requires

pub returns-clause-others : goal.returns-clause-others
returns-clause-others c other apart = marked_others c.args.marks.now c.args.place other c.requires apart
