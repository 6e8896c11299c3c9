use Rattle.std.proofs.Common.{codes}
use Rattle.state_cases.proofs.Ready.{ready_kept, ready_names, memory_mount, takes_all}
use Rattle.state_cases.proofs.opens.opened.Goals as goal

pub open-answer-requires-clause-agrees : goal.open-answer-requires-clause-agrees
open-answer-requires-clause-agrees g c = (c.requires.opening, c.requires.agrees)

pub open-answer-requires-clause-mount : goal.open-answer-requires-clause-mount
open-answer-requires-clause-mount g c = memory_mount

pub open-answer-requires-clause-taken : goal.open-answer-requires-clause-taken
open-answer-requires-clause-taken g c =
    let store = g.K.KvStore.seen c.args.state.now.store in
    takes_all ((g.K.KvStore.seen c.args.state.now.store).names) (codes "memory") (ready_names store c.args.state.now.log c.requires)

pub returns : goal.returns
returns g c = ready_kept _ _ _ _ c.requires c.open-answer.ensures.kept
