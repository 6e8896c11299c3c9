use Rattle.std.proofs.Common.{◌≡◌, ◌+◌, length, Some, sym, ap, subst, ◌∙◌, rules}
use Rattle.chunk_cache.specs.Snapshot.{SnapshotCells}
use Rattle.state_laws.specs.OpenRows.{next_array, given_info}
use Rattle.state_laws.specs.Agreement.{Agrees}
use Rattle.state_laws.specs.Log.{StateOf, log_of}
use Rattle.state_laws.specs.Placed.{entered}
use Rattle.state_laws.proofs.Laws.{agrees_given}
use Rattle.shared_state.proofs.state.State.enter_given.Goals as goal

pub returns-clause-kept : goal.returns-clause-kept
returns-clause-kept g c = λ opening agrees.
    let log = c.args.self.now.log in
    let given = c.requires.given in
    let seen = g.K.KvStore.seen in
    let store : seen c.self.inside.store ≡ seen c.args.self.now.store = ap (λ (st : StateOf g.row.K.Denot). seen st.store) c.self.view_is in
    let cells : SnapshotCells = record { generation = length log.events + 1; cells = c.args.cells.cells } in
    let same : c.args.cells ≡ cells = ap (λ n. record { generation = n; cells = c.args.cells.cells }) given.generation in
    let entered_is : log_of c.add_given.new.records ≡ entered log c.args.owner c.args.new.info (Some c.args.cells) = search rules in
    let is : log_of c.add_given.new.records ≡ entered log c.args.owner (given_info (next_array log.events) c.args.cells.cells) (Some cells) =
    entered_is ∙ (λ i. entered log c.args.owner (given.info i) (Some (same i))) in
    subst (λ s. Agrees opening s (log_of c.add_given.new.records)) (sym store)
    (subst (Agrees opening (seen c.args.self.now.store)) (sym is) (agrees_given opening (seen c.args.self.now.store) log c.args.owner c.args.cells.cells agrees given.valid c.requires.few))
