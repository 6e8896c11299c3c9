use Rattle.std.proofs.Common.{sym, subst}
use Rattle.transcript_check.specs.Keeping.{AreCommandsOf, IsAsking}
use Rattle.transcript_check.specs.Transcript.{lines_of_scripts}
use Rattle.transcript_cases.proofs.judging.judged.Goals as goal

pub by_cutting-requires-clause-commands : goal.by_cutting-requires-clause-commands
by_cutting-requires-clause-commands c =
    let asking = subst (IsAsking c.args.scripts.now) c.in-Checked.is c.in_ok-commands.ensures in
    subst (AreCommandsOf (lines_of_scripts 0 c.args.scripts.now)) (sym c.items.ensures) asking.1
