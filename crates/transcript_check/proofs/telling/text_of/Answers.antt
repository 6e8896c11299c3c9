use Rattle.transcript_check.proofs.telling.text_of.Goals as goal

pub returns-in-Yes : goal.returns-in-Yes
returns-in-Yes c = rw (c.in-Yes.is) c.around.ensures

pub returns-in-No : goal.returns-in-No
returns-in-No c = rw (c.in-No.is) c.around-in-No.ensures

pub returns-in-NotChecked : goal.returns-in-NotChecked
returns-in-NotChecked c = rw (c.in-NotChecked.is) c.of_line.ensures
