use Rattle.std.proofs.Common.{[], ◌∷◌, sym, ap, subst}
use Rattle.transcript_fits.specs.Keeping.{AreCommandsOf}
use Rattle.transcript_check.proofs.PartLaws.{fails_part_3}
use Rattle.transcript_check.proofs.checking.check_numbers.Goals as goal

pub state_openings-requires-clause-commands : goal.state_openings-requires-clause-commands
state_openings-requires-clause-commands c = subst (λ ls. AreCommandsOf ls c.args.commands.now) (sym c.requires.cut.lines) c.requires.commands

pub check_source-requires-clause-source : goal.check_source-requires-clause-source
check_source-requires-clause-source c = record {
  source = record { cut = c.requires.cut; checked = c.requires.checked; stated = rw c.in-Ok-Some.field-0-is at c.in-Ok-Some.ensures; mounts = ap (λ name. name ∷ []) c.in_ok-the_mount.ensures };
  few = c.requires.few;
  numbered = c.requires.numbered;
  table = c.requires.table;
}

pub check_source-requires-clause-commands : goal.check_source-requires-clause-commands
check_source-requires-clause-commands c = subst (λ ls. AreCommandsOf ls c.args.commands.now) (sym c.requires.cut.lines) c.requires.commands

pub returns-in-Ok-None : goal.returns-in-Ok-None
returns-in-Ok-None c =
    let cut = c.requires.cut in
    let none = rw c.in-Ok-None.field-0-is at c.in-Ok-None.ensures in
    fails_part_3 c.args.scripts.now c.args.transcript.now c.args.said.now c.requires.checked cut c.requires.numbered (none c.args.transcript.now cut.told cut.said)
