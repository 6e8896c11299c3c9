use Rattle.std.proofs.Common.{◌++◌, ◌∷◌, [], refl, sym, ap, subst}
use Rattle.history.specs.Own.{opened_event}
use Rattle.history.specs.Places.{IsTable}
use Rattle.history.proofs.Laws.{table_opened}
use Rattle.state_laws.specs.Recorded.{RecordsOf}
use Rattle.state_laws.proofs.writing.write_array.Goals as goal

pub returns-in-Ok-clause-table : goal.returns-in-Ok-clause-table
returns-in-Ok-clause-table g c =
    let events = c.args.records.now.events in
    let info = c.args.new.info in
    let e = opened_event c.args.owner info in
    let before = c.requires.table in
    subst (λ h. IsTable h c.args.places.now) (sym (ap (λ (r : RecordsOf). r.events) c.add_new.ensures.after))
    (subst (IsTable (events ++ e ∷ [])) (sym before.2) (table_opened events e info c.args.here.now before.0 refl c.requires.at before.1))
