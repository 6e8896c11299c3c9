use Rattle.std.proofs.Common.{sym}
use Rattle.chunk_plans.proofs.Laws.{write_by_form}
use Rattle.state_cases.proofs.Ready.{ready_kept}
use Rattle.state_cases.proofs.planning.plan_staged.Goals as goal

pub plan_write-requires-clause-agrees : goal.plan_write-requires-clause-agrees
plan_write-requires-clause-agrees g c = (c.requires.ready.opening, c.requires.ready.agrees)

pub plan_write-requires-clause-write : goal.plan_write-requires-clause-write
plan_write-requires-clause-write g c =
    let there = c.requires.chunk in
    write_by_form _ there.array c.args.form.now (c.requires.ready.opening, c.requires.ready.agrees) there.known there.valid (sym (c.in_ok-key.ensures there.array there.known)) c.requires.stored (c.requires.form there.array there.known) c.requires.reached c.requires.size
    c.requires.words

pub returns-in-Ok : goal.returns-in-Ok
returns-in-Ok g c = ready_kept _ _ _ _ c.requires.ready c.plan_write.ensures.kept

pub returns-in-Err : goal.returns-in-Err
returns-in-Err g c = ready_kept _ _ _ _ c.requires.ready c.plan_write.ensures.kept
