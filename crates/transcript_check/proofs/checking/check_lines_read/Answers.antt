use Rattle.std.proofs.Common.{◌∙◌, sym, subst}
use Rattle.transcript_fits.specs.Keeping.{AreCommandsOf}
use Rattle.transcript_fits.specs.Transcript.{lines_of_scripts}
use Rattle.transcript_check.proofs.checking.check_lines_read.Goals as goal

pub check_text-requires-clause-commands : goal.check_text-requires-clause-commands
check_text-requires-clause-commands c = subst (AreCommandsOf (lines_of_scripts 0 c.args.scripts.now)) (sym (c.as_mut_slice.ensures.value ∙ c.into_inner-commands.ensures)) c.requires.commands
