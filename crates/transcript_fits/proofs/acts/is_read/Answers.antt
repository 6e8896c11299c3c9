use Rattle.transcript_fits.proofs.acts.is_read.Goals as goal

pub returns-in-Reads : goal.returns-in-Reads
returns-in-Reads c = λ yes. (c.in-Reads.view, c.in-Reads.is)
