use Rattle.script_lines.proofs.FirstLine.{lines_of-at, lines_of-no_lf}
use Rattle.script_lines.proofs.cutting.cut.Goals as goal

pub returns-in-Some-clause-lines : goal.returns-in-Some-clause-lines
returns-in-Some-clause-lines c = rw (c.split_at.ensures.front, c.split_at-in-Some.ensures.back) (lines_of-at c.args.script.now c.in-Some.at c.in-Some.ensures)

pub returns-in-None-clause-lines : goal.returns-in-None-clause-lines
returns-in-None-clause-lines c = lines_of-no_lf c.args.script.now c.in-None.ensures
