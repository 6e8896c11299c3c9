use Rattle.std.proofs.Common.{◌++◌, ◌∷◌, [], sym, ap, subst, ◌∙◌}
use Rattle.std.specs.FinMap as finmap
use Rattle.history.specs.Own.{fault}
use Rattle.history.specs.Places.{IsTable}
use Rattle.history.proofs.Laws.{table_same}
use Rattle.state_laws.specs.Recorded.{RecordsOf}
use Rattle.state_laws.proofs.Tables.{table_back}
use Rattle.state_laws.proofs.writing.unwritten.Goals as goal

pub returns-in-Failed-clause-table : goal.returns-in-Failed-clause-table
returns-in-Failed-clause-table c =
    let events = c.args.records.now.events in
    let here = c.args.here.now in
    let e = fault c.args.owner c.args.mount in
    let before = c.requires.table in
    let back = table_back events before.0 here before.1 c.requires.free before.2 in
    let table = table_same events e (finmap.remove (finmap.insert before.0 here before.1) here) tt back in
    subst (λ h. IsTable h c.remove.new.self) (sym (ap (λ (r : RecordsOf). r.events) c.add_fault-event.ensures.after))
    (subst (IsTable (events ++ e ∷ [])) (sym (c.remove.ensures ∙ ap (λ places. finmap.remove places here) before.3)) table)

pub returns-in-Memory-clause-table : goal.returns-in-Memory-clause-table
returns-in-Memory-clause-table c =
    let events = c.args.records.now.events in
    let here = c.args.here.now in
    let before = c.requires.table in
    subst (IsTable events) (sym (c.remove.ensures ∙ ap (λ places. finmap.remove places here) before.3)) (table_back events before.0 here before.1 c.requires.free before.2)
