use Rattle.std.proofs.Common.{◌≡◌, sym, ap, subst, ◌∙◌}
use Rattle.std.specs.Arc.{arc_value}
use Rattle.cells.specs.Dense.{DenseCells}
use Rattle.chunk_cache.specs.Snapshot.{SnapshotCells}
use Rattle.history.specs.Chunks.{Chunk}
use Rattle.state_laws.specs.Fetches.{MaySettle}
use Rattle.state_cases.proofs.settling.settle_cells.Goals as goal

pub settle-answer-requires-clause-agrees : goal.settle-answer-requires-clause-agrees
settle-answer-requires-clause-agrees g c = (c.requires.ready.ready.opening, c.requires.ready.ready.agrees)

pub returns : goal.returns
returns g c =
    let r = c.requires.ready in
    let chunk : Chunk = record { array = c.args.array; index = c.args.chunk.now } in
    let told : arc_value c.in-Ok.cells ≡ c.args.cells = c.in-Ok.ensures.ok in
    let same : record { generation = c.args.generation; cells = c.args.cells } ≡ c.new-snapshot.result = ap (λ (d : DenseCells). record { generation = c.args.generation; cells = d }) (sym told) ∙ sym c.new-snapshot.ensures in
    record {
      opening = r.ready.opening;
      agrees = c.settle-answer.ensures.kept r.ready.opening r.ready.agrees (subst (λ (s : SnapshotCells). MaySettle r.ready.opening c.args.state.now.log chunk s) same r.may);
      every = r.ready.every;
    }
