use Rattle.std.proofs.Common.{sym, subst}
use Rattle.chunk_cache.specs.Snapshot.{SnapshotCells}
use Rattle.history.specs.Chunks.{Chunk}
use Rattle.chunk_plans.specs.Fetches.{IsChunkOf, MaySettle}
use Rattle.commits.specs.Keeping.{LeftChunk}
use Rattle.commits.proofs.KeepLaws.{kept_same}
use Rattle.commits.proofs.PlanningLaws.{same_log}
use Rattle.commits.proofs.keeping.keep.Goals as goal

pub returns-in_default-clause-same : goal.returns-in_default-clause-same
returns-in_default-clause-same g c = same_log c.args.state.now.log

pub settle-requires-clause-chunk : goal.settle-requires-clause-chunk
settle-requires-clause-chunk g c = subst (λ (l : LeftChunk). IsChunkOf c.args.state.now.log.events l.chunk) (sym c.left.view_is) c.requires.chunk

pub returns-clause-same : goal.returns-clause-same
returns-clause-same g c =
    let log = c.args.state.now.log in
    let chunk : Chunk = record { array = c.left.inside.array; index = c.left.inside.chunk.now } in
    let there : IsChunkOf log.events chunk = subst (λ (l : LeftChunk). IsChunkOf log.events l.chunk) (sym c.left.view_is) c.requires.chunk in
    kept_same log c.settle.new.self.log chunk there.array c.in-Ok.snapshot c.settle.result there.known c.settle.ensures.after c.settle.ensures.err

pub returns-clause-kept : goal.returns-clause-kept
returns-clause-kept g c opening agrees may =
    let log = c.args.state.now.log in
    c.settle.ensures.kept opening agrees
    (subst (λ (s : SnapshotCells). MaySettle opening log (record { array = c.left.inside.array; index = c.left.inside.chunk.now }) s) (sym c.in-Ok.ensures)
    (subst (λ (l : LeftChunk). MaySettle opening log l.chunk (record { generation = c.args.number; cells = l.cells })) (sym c.left.view_is) may))
