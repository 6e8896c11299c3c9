use Rattle.std.proofs.Common.{sym, subst, drop, ◌+◌, ◌∙◌}
use Rattle.std.specs.Prelude.{IsSome}
use Rattle.history.specs.Arrays.{known_after}
use Rattle.chunk_plans.specs.declared.write.ChunkWrite.{ChunkWrite}
use Rattle.commits.specs.Planning.{IsMountFor}
use Rattle.commits.proofs.Steps.{all_at, drop_at, ok_to}
use Rattle.commits.proofs.StoredLaws.{known_some, mount_here, mount_more}
use Rattle.commits.proofs.mount.mount_of_writes.Goals as goal

pub loop-write-init : goal.loop-write-init
loop-write-init g c = λ mount is. is

pub mount_name-requires : goal.mount_name-requires
mount_name-requires g c =
    let h = c.args.state.now.log.events in
    let some = all_at (λ (w : ChunkWrite). IsSome (known_after h w.array)) c.args.writes.now c.loop-write.write-index c.write-item.result c.requires.known c.loop-write-test.true c.write-item.is in
    let k = known_some (known_after h c.write-item.result.array) some in
    (k.0, k.1, sym (c.is_local.ensures k.0 k.1) ∙ c.if-not-is_local.true)

pub returns-then-not-is_local : goal.returns-then-not-is_local
returns-then-not-is_local g c =
    let h = c.args.state.now.log.events in
    let some = all_at (λ (w : ChunkWrite). IsSome (known_after h w.array)) c.args.writes.now c.loop-write.write-index c.write-item.result c.requires.known c.loop-write-test.true c.write-item.is in
    let k = known_some (known_after h c.write-item.result.array) some in
    ok_to _ (IsMountFor h c.args.writes.now) c.mount_name.result
    (λ mount is.
    c.loop-write.invariant mount
    (subst (λ ws. IsMountFor h ws mount) (sym (drop_at c.args.writes.now c.loop-write.write-index c.write-item.result c.loop-write-test.true c.write-item.is))
    (mount_here h c.write-item.result (drop (c.loop-write.write-index + 1) c.args.writes.now) k.0 mount k.1 (is k.0 k.1)))) c.mount_name.ensures

pub loop-write-preserved : goal.loop-write-preserved
loop-write-preserved g c = λ mount is.
    let h = c.args.state.now.log.events in
    let some = all_at (λ (w : ChunkWrite). IsSome (known_after h w.array)) c.args.writes.now c.loop-write.write-index c.write-item.result c.requires.known c.loop-write-test.true c.write-item.is in
    let k = known_some (known_after h c.write-item.result.array) some in
    c.loop-write.invariant mount
    (subst (λ ws. IsMountFor h ws mount) (sym (drop_at c.args.writes.now c.loop-write.write-index c.write-item.result c.loop-write-test.true c.write-item.is))
    (mount_more h c.write-item.result (drop (c.loop-write.write-index + 1) c.args.writes.now) k.0 mount k.1 (sym (c.is_local.ensures k.0 k.1) ∙ c.if-not-is_local.false) is))
