use Rattle.std.proofs.Common.{sym, ap, subst}
use Rattle.state_laws.specs.Places.{IsTable}
use Rattle.state_laws.specs.Recorded.{RecordsOf}
use Rattle.shared_state.proofs.state.State.write_new.Goals as goal

pub write_array-requires-clause-table : goal.write_array-requires-clause-table
write_array-requires-clause-table g c =
    let places = c.self.inside.places in
    (places, subst (λ h. IsTable h places) (sym (ap (λ (r : RecordsOf). r.events) c.in_ok-make_place.ensures.same)) c.self.invariant, c.in_ok-make_place.ensures.put)
