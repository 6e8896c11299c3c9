use Rattle.std.proofs.Common.{◌≡◌, sym, ap, subst, ◌∙◌}
use Rattle.std.specs.Arc.{arc_value}
use Rattle.cells.specs.Dense.{DenseCells}
use Rattle.state_laws.specs.Chunks.{Chunk}
use Rattle.state_laws.specs.Fetches.{IsAnswered}
use Rattle.state_laws.proofs.Laws.{answered_may}
use Rattle.shared_state.proofs.state.State.put.Goals as goal

pub returns-clause-kept : goal.returns-clause-kept
returns-clause-kept g c = λ opening agrees.
    let seen = g.K.KvStore.seen in
    let chunk : Chunk = record { array = c.args.array; index = c.args.chunk.now } in
    let told : arc_value c.in-Ok.cells ≡ c.args.cells = c.in-Ok.ensures.ok in
    let same : record { generation = c.args.generation; cells = c.args.cells } ≡ c.in_ok-shared.shared = ap (λ (d : DenseCells). record { generation = c.args.generation; cells = d }) (sym told) ∙ sym c.new-snapshot.ensures ∙ sym c.in_ok-shared.ensures in
    c.settle_at.ensures.kept opening agrees (answered_may opening (seen c.args.self.now.store) c.args.self.now.log chunk c.in_ok-shared.shared agrees (subst (IsAnswered (seen c.args.self.now.store) c.args.self.now.log chunk) same c.requires.answered))
