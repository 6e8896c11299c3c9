use Rattle.std.proofs.Common.{Err, ◌+◌, length, sym, ap, subst, ◌∙◌, arith}
use Rattle.chunk_plans.proofs.Laws.{not_risen}
use Rattle.commits.specs.Keyed.{each_event}
use Rattle.commits.specs.Made.{IsMade}
use Rattle.commits.specs.Planning.{ArePlannedBy, IsFirstDamaged}
use Rattle.commits.specs.Prepared.{write_keys}
use Rattle.commits.proofs.ByKeysLaws.{each_right, each_some, key_plans_of, planned_some}
use Rattle.commits.proofs.MadeLaws.{failed_unplanned, made_then, unplanned_made}
use Rattle.commits.proofs.Plans.{planned_keys}
use Rattle.commits.proofs.each.commit_each.Goals as goal

pub plan_writes-requires-clause-agrees : goal.plan_writes-requires-clause-agrees
plan_writes-requires-clause-agrees g c = (c.requires.agrees.0, c.requires.agrees.1.0)

pub make_each-requires-clause-agrees : goal.make_each-requires-clause-agrees
make_each-requires-clause-agrees g c =
    let seen = g.K.KvStore.seen in
    let it = c.requires.agrees in
    let planned = subst (λ n. ArePlannedBy (seen c.args.state.now.store) c.args.state.now.log (n + 1) 1 c.args.writes.items c.in-Ok.plans.items) (ap length c.events.ensures) c.in-Ok.ensures.plans in (
      it.0,
      (
        c.plan_writes.ensures.kept it.0 it.1.0,
        λ start told.
            each_right it.0 start (seen c.args.state.now.store) c.args.state.now.log c.args.by.ops it.1.0 told c.plan_writes.new.state.log c.args.owner c.args.by.line c.args.by.mode c.args.writes.items c.in-Ok.plans.items c.in-Ok.ensures.same.events c.requires.all planned (it.1.1 start told),
      ),
    )

pub make_each-requires-clause-plans : goal.make_each-requires-clause-plans
make_each-requires-clause-plans g c =
    let seen = g.K.KvStore.seen in
    key_plans_of (seen c.args.state.now.store) c.args.state.now.log c.plan_writes.new.state.log c.args.by.ops c.args.writes.items c.in-Ok.plans.items c.in-Ok.ensures.same.events c.requires.all
    (subst (λ n. ArePlannedBy (seen c.args.state.now.store) c.args.state.now.log (n + 1) 1 c.args.writes.items c.in-Ok.plans.items) (ap length c.events.ensures) c.in-Ok.ensures.plans)

pub make_each-requires-clause-some : goal.make_each-requires-clause-some
make_each-requires-clause-some g c =
    let seen = g.K.KvStore.seen in
    planned_some (seen c.args.state.now.store) c.args.state.now.log _ c.args.writes.items c.in-Ok.plans.items c.in-Ok.ensures.plans c.requires.some

pub returns-in-Ok-clause-made : goal.returns-in-Ok-clause-made
returns-in-Ok-clause-made g c =
    let seen = g.K.KvStore.seen in
    let planned = subst (λ n. ArePlannedBy (seen c.args.state.now.store) c.args.state.now.log (n + 1) 1 c.args.writes.items c.in-Ok.plans.items) (ap length c.events.ensures) c.in-Ok.ensures.plans in
    let by = c.args.by in
    subst (λ keys. IsMade c.args.owner (seen c.args.state.now.store) (seen c.make_each.new.state.store) c.args.state.now.log c.make_each.new.state.log 1 c.args.writes.items (each_event c.args.owner by.line by.mode by.ops keys) c.make_each.result)
    (planned_keys (seen c.args.state.now.store) c.args.state.now.log (length c.args.state.now.log.events + 1) 1 c.args.writes.items c.in-Ok.plans.items planned)
    (made_then c.args.owner (seen c.args.state.now.store) (seen c.plan_writes.new.state.store) (seen c.make_each.new.state.store) c.args.state.now.log c.plan_writes.new.state.log c.make_each.new.state.log 1 c.args.writes.items c.in-Ok.plans.items _
    c.in-Ok.ensures.same.events c.plan_writes.ensures.read.frame.faults planned c.make_each.result c.make_each.ensures.made)

pub returns-in-Ok-clause-kept : goal.returns-in-Ok-clause-kept
returns-in-Ok-clause-kept g c opening agrees right =
    let seen = g.K.KvStore.seen in
    let planned = subst (λ n. ArePlannedBy (seen c.args.state.now.store) c.args.state.now.log (n + 1) 1 c.args.writes.items c.in-Ok.plans.items) (ap length c.events.ensures) c.in-Ok.ensures.plans in
    c.make_each.ensures.kept opening (c.plan_writes.ensures.kept opening agrees)
    (λ start told.
    each_right opening start (seen c.args.state.now.store) c.args.state.now.log c.args.by.ops agrees told c.plan_writes.new.state.log c.args.owner c.args.by.line c.args.by.mode c.args.writes.items c.in-Ok.plans.items c.in-Ok.ensures.same.events c.requires.all planned (right start told))

pub returns-in-Err-clause-made : goal.returns-in-Err-clause-made
returns-in-Err-clause-made g c =
    let seen = g.K.KvStore.seen in
    let all = each_event c.args.owner c.args.by.line c.args.by.mode c.args.by.ops (write_keys c.args.writes.items) in
    subst (λ r. IsMade c.args.owner (seen c.args.state.now.store) (seen c.plan_writes.new.state.store) c.args.state.now.log c.plan_writes.new.state.log 1 c.args.writes.items all (Err r)) (sym c.unplanned.ensures)
    (unplanned_made c.args.owner (seen c.args.state.now.store) (seen c.plan_writes.new.state.store) c.args.state.now.log c.plan_writes.new.state.log 1 c.args.writes.items all c.in-Err.error
    (each_some c.args.owner c.args.by.line c.args.by.mode c.args.by.ops c.args.writes.items c.requires.some)
    (λ event same. c.plan_writes.ensures.failed event (c.in-Err.is ∙ ap Err same))
    (λ key cause same.
    let there = c.plan_writes.ensures.damaged key cause (c.in-Err.is ∙ ap Err same) in
    (there.0, subst (λ n. IsFirstDamaged (seen c.args.state.now.store) c.args.state.now.log (n + 1) 1 c.args.writes.items key cause) (ap length c.events.ensures) there.1))
    (λ same. c.plan_writes.ensures.memory (c.in-Err.is ∙ ap Err same)))

pub returns-in-Err-clause-kept : goal.returns-in-Err-clause-kept
returns-in-Err-clause-kept g c opening agrees right = c.plan_writes.ensures.kept opening agrees

pub returns-in-Ok-clause-rose : goal.returns-in-Ok-clause-rose
returns-in-Ok-clause-rose g c more =
    let seen = g.K.KvStore.seen in
    let same = not_risen (seen c.args.state.now.store).faults (seen c.plan_writes.new.state.store).faults (λ rose. let why = c.plan_writes.ensures.told rose in let no = sym c.in-Ok.is ∙ why.1 in absurd (cc)) in
    c.make_each.ensures.rose (omega (arith, more, same))

pub returns-in-Err-clause-rose : goal.returns-in-Err-clause-rose
returns-in-Err-clause-rose g c more = failed_unplanned c.plan_writes.result c.in-Err.error c.unplanned.result c.in-Err.is c.unplanned.ensures (c.plan_writes.ensures.told more)
