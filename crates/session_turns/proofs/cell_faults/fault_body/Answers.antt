use Rattle.std.proofs.Common.{subst}
use Rattle.session_turns.proofs.cell_faults.fault_body.Goals as goal
use Rattle.transactions.specs.Faults.{IsFaultOf}

pub targets_body-requires-clause-fault : goal.targets_body-requires-clause-fault
targets_body-requires-clause-fault c = λ _. subst (IsFaultOf c.args.v.now) c.in-OutOfRange.is c.requires.fault

pub targets_body-requires-in-Uncovered-clause-fault : goal.targets_body-requires-in-Uncovered-clause-fault
targets_body-requires-in-Uncovered-clause-fault c = λ _. subst (IsFaultOf c.args.v.now) c.in-Uncovered.is c.requires.fault
