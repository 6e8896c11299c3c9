use Rattle.std.proofs.Common.{◌<◌, length, sym, subst}
use Rattle.std.specs.List.{AllByRecursion}
use Rattle.transcript_check.specs.Cuttings.{lines_kept, IsWholeCut}
use Rattle.transcript_check.specs.Keeping.{AreCommandsOf}
use Rattle.transcript_check.specs.declared.Said.{Said}
use Rattle.transcript_check.proofs.Laws.{sessions_within}
use Rattle.transcript_cases.proofs.judging.by_cutting.Goals as goal

pub by_numbers-requires-clause-sessions : goal.by_numbers-requires-clause-sessions
by_numbers-requires-clause-sessions c =
    let whole : IsWholeCut c.args.scripts.now c.args.transcript.now c.in-Ok-Whole.said = rw c.in-Ok-Whole.field-0-is at c.in-Ok-Whole.ensures in
    subst (AllByRecursion (λ (s : Said). s.line.session < length c.args.scripts.now)) (sym c.items.ensures) (sessions_within c.args.scripts.now c.args.transcript.now c.in-Ok-Whole.said whole.told whole.said)

pub by_numbers-requires-clause-cut : goal.by_numbers-requires-clause-cut
by_numbers-requires-clause-cut c =
    let whole : IsWholeCut c.args.scripts.now c.args.transcript.now c.in-Ok-Whole.said = rw c.in-Ok-Whole.field-0-is at c.in-Ok-Whole.ensures in
    (c.args.transcript.now, subst (IsWholeCut c.args.scripts.now c.args.transcript.now) (sym c.items.ensures) whole)

pub by_numbers-requires-clause-commands : goal.by_numbers-requires-clause-commands
by_numbers-requires-clause-commands c =
    let whole : IsWholeCut c.args.scripts.now c.args.transcript.now c.in-Ok-Whole.said = rw c.in-Ok-Whole.field-0-is at c.in-Ok-Whole.ensures in
    subst (λ said. AreCommandsOf (lines_kept c.args.scripts.now said) c.args.commands.now) (sym c.items.ensures)
    (subst (λ ls. AreCommandsOf ls c.args.commands.now) (sym whole.lines) c.requires.commands)
