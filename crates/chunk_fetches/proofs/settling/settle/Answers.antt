use Rattle.std.proofs.Common.{◌∙◌, sym, ap, subst}
use Rattle.chunk_cache.specs.Snapshot.{SnapshotCells}
use Rattle.history.specs.Arrays.{known_after}
use Rattle.history.specs.Chunks.{Chunk, chunk_key}
use Rattle.shared_state.specs.Fetches.{MaySettle}
use Rattle.shared_state.specs.Log.{Log}
use Rattle.chunk_fetches.specs.Kept.{chunk_at}
use Rattle.chunk_fetches.proofs.LookLaws.{chunk_parts}
use Rattle.chunk_fetches.proofs.SettleLaws.{may_settle, settled_events, either_way}
use Rattle.chunk_fetches.proofs.settling.settle.Goals as goal

pub returns-clause-events : goal.returns-clause-events
returns-clause-events c d =
    let log = d.args.state.now.log in
    let chunk = chunk_parts (chunk_at d.args.id.now) _ _ d.array_in.ensures d.index_in.ensures in
    let k = d.requires.chunk.array in
    let known = ap (λ (x : Chunk). known_after log.events x.array) chunk ∙ d.requires.chunk.known in
    either_way d.settle.result d.settle.ensures.after d.settle.ensures.err
    (λ after. ap (λ (l : Log). l.events) (after k known) ∙ settled_events log k (chunk_key k _) _)
    (λ same. ap (λ (l : Log). l.events) same)

pub returns-clause-kept : goal.returns-clause-kept
returns-clause-kept c d opening early more grown fresh agrees =
    let log = d.args.state.now.log in
    let chunk = chunk_parts (chunk_at d.args.id.now) _ _ d.array_in.ensures d.index_in.ensures in
    d.settle.ensures.kept opening agrees
    (subst (λ (s : SnapshotCells). MaySettle opening log (record { array = d.array_in.result; index = d.index_in.result.now }) s) (sym d.in_ok-snapshot.ensures)
    (subst (λ x. MaySettle opening log x d.args.f.now.snapshot) (sym chunk) (may_settle opening _ log early more (chunk_at d.args.id.now) d.args.f.now.snapshot d.args.f.now.bounds grown agrees fresh.chunk)))
