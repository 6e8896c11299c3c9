use Rattle.std.proofs.Common.{◌∙◌, ap, sym, Ok}
use Rattle.stack_targets.specs.Buffers.{told_targets}
use Rattle.stack_targets.specs.Landings.{leaves_of}
use Rattle.stack_targets.specs.declared.buffers.Targets.{Targets}
use Rattle.stack_targets.proofs.Gathered.{targets_told, targets_fault}
use Rattle.stack_targets.proofs.targeting.gathered.Goals as goal

pub returns-in-Err-clause-err : goal.returns-in-Err-clause-err
returns-in-Err-clause-err c = λ wanted. targets_fault c.args.v.now c.in-Err.e (c.in-Err.ensures.err wanted)

pub returns-in-Ok-clause-targets : goal.returns-in-Ok-clause-targets
returns-in-Ok-clause-targets c =
    targets_told c.args.v.now c.gather.new.buffers.leaves.items c.gather.new.buffers.numbers.items c.in-Ok.ensures.ok
    ∙ ap (λ (t : Targets). Ok (told_targets (leaves_of c.args.v.now) t.leaves t.numbers)) (sym c.told.ensures)
