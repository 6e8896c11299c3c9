use Rattle.std.proofs.Common.{◌≡◌, [], sym, subst}
use Rattle.state_laws.specs.Places.{IsTable}
use Rattle.state_laws.proofs.Laws.{table_none}
use Rattle.state_laws.specs.Agreement.{Agrees}
use Rattle.state_laws.specs.Log.{log_of}
use Rattle.state_laws.proofs.Laws.{agrees_begun, log_begun}
use Rattle.shared_state.proofs.state.State.new.Goals as goal

pub invariant_of-result : goal.invariant_of-result
invariant_of-result g c = subst (λ h. IsTable h c.new-2.result) (sym c.in-Ok.ensures.events) (subst (IsTable []) (sym c.new-2.ensures) table_none)

pub returns-clause-agrees : goal.returns-clause-agrees
returns-clause-agrees g c =
    let seen = g.K.KvStore.seen in
    let made = c.in-Ok.ensures in
    let same : log_of c.in-Ok.records ≡ log_begun c.args.limit = λ i. record { events = made.events i; generations = made.generations i; cache = made.cache i; locals = made.locals i } in
    subst (Agrees (record { store = seen c.args.store; limit = c.args.limit }) (seen c.args.store)) (sym same) (agrees_begun (seen c.args.store) c.args.limit)
