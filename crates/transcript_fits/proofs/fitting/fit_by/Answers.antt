use Rattle.std.proofs.Common.{◌∙◌, Some, ap}
use Rattle.transcript_fits.proofs.fitting.fit_by.Goals as goal

pub fit_kept-requires-clause-kept : goal.fit_kept-requires-clause-kept
fit_kept-requires-clause-kept c = c.requires.kept ∙ ap Some c.in-Some.is
