use Rattle.std.proofs.Common.{◌++◌, ◌∷◌, [], refl, sym, ap, subst, ◌∙◌}
use Rattle.state_laws.specs.Own.{opened_event}
use Rattle.state_laws.specs.Places.{IsTable}
use Rattle.state_laws.proofs.Laws.{table_opened}
use Rattle.state_laws.specs.Recorded.{RecordsOf}
use Rattle.shared_state.proofs.state.State.enter_new.Goals as goal

pub invariant_of-self-2 : goal.invariant_of-self-2
invariant_of-self-2 g c =
    let events = c.self.inside.records.events in
    let info = c.args.new.info in
    let e = opened_event c.args.owner info in
    let grown = ap (λ (r : RecordsOf). r.events) c.add_new.ensures.after ∙ ap (λ (r : RecordsOf). r.events ++ e ∷ []) c.in_ok-reserve.ensures.same in
    let table = table_opened events e info c.args.location.now c.self.inside.places refl c.requires.at c.self.invariant in
    subst (λ h. IsTable h c.put.new.self) (sym grown) (subst (IsTable (events ++ e ∷ [])) (sym c.in_ok-put.ensures.put) table)
