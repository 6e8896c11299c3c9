use Rattle.std.proofs.Common.{sym, subst}
use Rattle.transcript_cut.specs.Cuttings.{IsWholeCut}
use Rattle.transcript_cut.proofs.cutting.cut.Goals as goal

pub returns-in-Ok-Complete : goal.returns-in-Ok-Complete
returns-in-Ok-Complete c = subst (IsWholeCut c.args.scripts.now c.args.transcript.now) (sym c.wrap.ensures) (rw c.in-Ok-Complete.field-0-is at c.in-Ok-Complete.ensures)

pub returns-in-Ok-Spoiled : goal.returns-in-Ok-Spoiled
returns-in-Ok-Spoiled c = rw c.in-Ok-Spoiled.field-0-is at c.in-Ok-Spoiled.ensures

pub returns-in-Ok-Short : goal.returns-in-Ok-Short
returns-in-Ok-Short c = rw c.in-Ok-Short.field-0-is at c.in-Ok-Short.ensures
