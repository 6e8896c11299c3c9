use Rattle.state_laws.proofs.Reshaping.{locals_at, arrays_at}
use Rattle.state_laws.proofs.records.reshape_at.Goals as goal

pub returns-clause-locals : goal.returns-clause-locals
returns-clause-locals c = locals_at c.args.entries.now c.args.place _ c.args.form c.args.number c.requires

pub returns-clause-arrays : goal.returns-clause-arrays
returns-clause-arrays c = arrays_at c.args.entries.now c.args.place _ c.args.form c.args.number c.requires
