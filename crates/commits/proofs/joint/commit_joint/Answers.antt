use Rattle.std.proofs.Common.{Err, List, [], ◌∷◌, ◌+◌, length, sym, ap, subst, ◌∙◌, arith}
use Rattle.chunk_plans.specs.Recorded.{done_event}
use Rattle.chunk_plans.specs.declared.write.ChunkWrite.{ChunkWrite}
use Rattle.commits.specs.Made.{IsMade}
use Rattle.commits.specs.Planning.{ArePlannedBy, IsFirstDamaged, IsMountFor}
use Rattle.chunk_plans.proofs.Laws.{not_risen}
use Rattle.commits.proofs.JointLaws.{joint_made, joint_mount, joint_plans, joint_right}
use Rattle.commits.proofs.MadeLaws.{failed_unplanned, made_then, unplanned_made}
use Rattle.commits.proofs.joint.commit_joint.Goals as goal

pub plan_writes-requires-clause-agrees : goal.plan_writes-requires-clause-agrees
plan_writes-requires-clause-agrees g c = (c.requires.agrees.0, c.requires.agrees.1.0)

pub make_joint-requires-clause-agrees : goal.make_joint-requires-clause-agrees
make_joint-requires-clause-agrees g c =
    let seen = g.K.KvStore.seen in
    let it = c.requires.agrees in (
      it.0,
      (
        c.plan_writes.ensures.kept it.0 it.1.0,
        λ start told.
            joint_right it.0 start (seen c.args.state.now.store) c.args.state.now.log c.plan_writes.new.state.log c.args.owner c.args.commit c.args.writes.items c.in-Ok.plans.items c.requires.whole c.in-Ok.ensures.same.events c.requires.all
            (subst (λ n. ArePlannedBy (seen c.args.state.now.store) c.args.state.now.log n 0 c.args.writes.items c.in-Ok.plans.items) (ap (λ n. n + 1) (ap length c.events.ensures)) c.in-Ok.ensures.plans) it.1.0 told (it.1.1 start told),
      ),
    )

pub make_joint-requires-clause-plans : goal.make_joint-requires-clause-plans
make_joint-requires-clause-plans g c =
    let seen = g.K.KvStore.seen in
    joint_plans (seen c.args.state.now.store) (seen c.plan_writes.new.state.store) c.args.state.now.log c.plan_writes.new.state.log c.args.owner c.args.commit c.args.writes.items c.in-Ok.plans.items c.requires.whole c.in-Ok.ensures.same.events c.plan_writes.ensures.read c.requires.all
    (subst (λ n. ArePlannedBy (seen c.args.state.now.store) c.args.state.now.log n 0 c.args.writes.items c.in-Ok.plans.items) (ap (λ n. n + 1) (ap length c.events.ensures)) c.in-Ok.ensures.plans)

pub make_joint-requires-clause-made : goal.make_joint-requires-clause-made
make_joint-requires-clause-made g c =
    let seen = g.K.KvStore.seen in
    joint_made (seen c.args.state.now.store) (seen c.plan_writes.new.state.store) c.args.state.now.log c.plan_writes.new.state.log c.args.owner c.args.commit c.args.writes.items c.in-Ok.plans.items c.requires.whole c.in-Ok.ensures.same.events c.plan_writes.ensures.read c.requires.all
    (subst (λ n. ArePlannedBy (seen c.args.state.now.store) c.args.state.now.log n 0 c.args.writes.items c.in-Ok.plans.items) (ap (λ n. n + 1) (ap length c.events.ensures)) c.in-Ok.ensures.plans) (c.requires.agrees.0, c.plan_writes.ensures.kept c.requires.agrees.0 c.requires.agrees.1.0) c.requires.together

pub make_joint-requires-clause-mount : goal.make_joint-requires-clause-mount
make_joint-requires-clause-mount g c =
    let seen = g.K.KvStore.seen in
    joint_mount (seen c.args.state.now.store) (seen c.plan_writes.new.state.store) c.args.state.now.log c.plan_writes.new.state.log c.args.owner c.args.commit c.args.writes.items c.in-Ok.plans.items c.requires.whole c.in-Ok.ensures.same.events c.plan_writes.ensures.read c.requires.all
    (subst (λ n. ArePlannedBy (seen c.args.state.now.store) c.args.state.now.log n 0 c.args.writes.items c.in-Ok.plans.items) (ap (λ n. n + 1) (ap length c.events.ensures)) c.in-Ok.ensures.plans) c.in_ok-mount.mount (subst (λ (ws : List ChunkWrite). IsMountFor c.args.state.now.log.events ws c.in_ok-mount.mount) c.deref.ensures.value c.in_ok-mount.ensures)

pub returns-in-Ok-clause-made : goal.returns-in-Ok-clause-made
returns-in-Ok-clause-made g c =
    let seen = g.K.KvStore.seen in
    made_then c.args.owner (seen c.args.state.now.store) (seen c.plan_writes.new.state.store) (seen c.make_joint.new.state.store) c.args.state.now.log c.plan_writes.new.state.log c.make_joint.new.state.log 0 c.args.writes.items c.in-Ok.plans.items
    (done_event c.args.owner c.args.commit ∷ []) c.in-Ok.ensures.same.events c.plan_writes.ensures.read.frame.faults (subst (λ n. ArePlannedBy (seen c.args.state.now.store) c.args.state.now.log n 0 c.args.writes.items c.in-Ok.plans.items) (ap (λ n. n + 1) (ap length c.events.ensures)) c.in-Ok.ensures.plans)
    c.make_joint.result c.make_joint.ensures.made

pub returns-in-Ok-clause-kept : goal.returns-in-Ok-clause-kept
returns-in-Ok-clause-kept g c opening agrees right =
    let seen = g.K.KvStore.seen in
    c.make_joint.ensures.kept opening (c.plan_writes.ensures.kept opening agrees)
    (λ start told.
    joint_right opening start (seen c.args.state.now.store) c.args.state.now.log c.plan_writes.new.state.log c.args.owner c.args.commit c.args.writes.items c.in-Ok.plans.items c.requires.whole c.in-Ok.ensures.same.events c.requires.all
    (subst (λ n. ArePlannedBy (seen c.args.state.now.store) c.args.state.now.log n 0 c.args.writes.items c.in-Ok.plans.items) (ap (λ n. n + 1) (ap length c.events.ensures)) c.in-Ok.ensures.plans) agrees told (right start told))

pub returns-in-Err-clause-made : goal.returns-in-Err-clause-made
returns-in-Err-clause-made g c =
    let seen = g.K.KvStore.seen in
    let all = done_event c.args.owner c.args.commit ∷ [] in
    subst (λ r. IsMade c.args.owner (seen c.args.state.now.store) (seen c.plan_writes.new.state.store) c.args.state.now.log c.plan_writes.new.state.log 0 c.args.writes.items all (Err r)) (sym c.unplanned.ensures)
    (unplanned_made c.args.owner (seen c.args.state.now.store) (seen c.plan_writes.new.state.store) c.args.state.now.log c.plan_writes.new.state.log 0 c.args.writes.items all c.in-Err.error (omega arith)
    (λ event same. c.plan_writes.ensures.failed event (c.in-Err.is ∙ ap Err same)) (λ key cause same.
    let there = c.plan_writes.ensures.damaged key cause (c.in-Err.is ∙ ap Err same) in
    (there.0, subst (λ n. IsFirstDamaged (seen c.args.state.now.store) c.args.state.now.log (n + 1) 0 c.args.writes.items key cause) (ap length c.events.ensures) there.1)) (λ same. c.plan_writes.ensures.memory (c.in-Err.is ∙ ap Err same)))

pub returns-in-Err-clause-kept : goal.returns-in-Err-clause-kept
returns-in-Err-clause-kept g c opening agrees right = c.plan_writes.ensures.kept opening agrees

pub returns-in-Ok-clause-rose : goal.returns-in-Ok-clause-rose
returns-in-Ok-clause-rose g c more =
    let seen = g.K.KvStore.seen in
    let same = not_risen (seen c.args.state.now.store).faults (seen c.plan_writes.new.state.store).faults (λ rose. let why = c.plan_writes.ensures.told rose in let no = sym c.in-Ok.is ∙ why.1 in absurd (cc)) in
    c.make_joint.ensures.rose (omega (arith, more, same))

pub returns-in-Err-clause-rose : goal.returns-in-Err-clause-rose
returns-in-Err-clause-rose g c more = failed_unplanned c.plan_writes.result c.in-Err.error c.unplanned.result c.in-Err.is c.unplanned.ensures (c.plan_writes.ensures.told more)
