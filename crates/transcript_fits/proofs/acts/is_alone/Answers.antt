use Rattle.transcript_fits.proofs.acts.is_alone.Goals as goal

pub returns-then-is_read : goal.returns-then-is_read
returns-then-is_read c = λ yes. (c.is_read.ensures c.if-is_read.true, c.stands_alone.ensures yes)
