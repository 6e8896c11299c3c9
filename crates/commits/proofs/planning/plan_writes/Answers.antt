use Rattle.std.proofs.Common.{◌≡◌, List, [], ◌∷◌, ◌++◌, length, Err, false, inl, inr, sym, ap, subst, ◌∙◌, arith}
use Rattle.history.specs.Arrays.{chunk_shape}
use Rattle.chunk_plans.specs.Laid.{IsCovered}
use Rattle.std.specs.List.{AllByRecursion}
use Rattle.std.proofs.lemmas.List.{append_assoc, append-nil}
use Rattle.chunk_plans.specs.declared.FetchError.TheVariants as fetch
use Rattle.chunk_plans.proofs.Laws.{err_told, not_risen, read_then}
use Rattle.chunk_plans.specs.declared.write.ChunkWrite.{ChunkWrite}
use Rattle.chunk_plans.specs.Writes.{IsWrite, may_use}
use Rattle.commits.specs.Planning.{ArePlannedBy, IsAmongOn, IsDamagedWrite, IsFirstDamaged, write_arrays}
use Rattle.commits.proofs.PlanningLaws.{damaged_first, failed_first, planned_first, same_then}
use Rattle.commits.proofs.Steps.{count_more, err_and, none_left, on_err}
use Rattle.commits.proofs.planning.plan_writes.Goals as goal

pub plan_write-requires-clause-agrees : goal.plan_write-requires-clause-agrees
plan_write-requires-clause-agrees g c = (c.requires.agrees.0, c.loop-write.invariant.kept c.requires.agrees.0 c.requires.agrees.1)

pub plan_write-requires-clause-write : goal.plan_write-requires-clause-write
plan_write-requires-clause-write g c =
    subst (λ events. IsWrite events c.in-Some.write) (sym c.loop-write.invariant.same.events) (subst (AllByRecursion (IsWrite c.args.state.now.log.events)) c.in-Some.ensures.steps.0 c.loop-write.invariant.writes).0

pub returns-in_err-plan-clause-failed : goal.returns-in_err-plan-clause-failed
returns-in_err-plan-clause-failed g c event e =
    let seen = g.K.KvStore.seen in
    let h = c.args.state.now.log.events in
    let told = err_and _ c.from_residual-in_err-plan.result (fetch.StoreFailed event) e c.from_residual-in_err-plan.ensures.1 in
    let is : c.plan_write.result ≡ Err (fetch.StoreFailed event) = c.in_err-plan.was ∙ ap Err (sym told) in
    failed_first (seen c.args.state.now.store) (seen c.loop-write.state.store) c.args.state.now.log c.loop-write.state.log c.loop-write.invariant.same c.loop-write.invariant.kept c.args.owner c.in-Some.write (write_arrays c.args.writes.items) (seen c.plan_write.new.state.store) c.plan_write.new.state.log event
    c.loop-write.invariant.read.frame.faults
    (λ mount among.
    c.loop-write.invariant.among mount
    (subst (λ (ws : List ChunkWrite). IsAmongOn h (write_arrays ws) mount) (sym c.in-Some.ensures.steps.0) (elim among [ inl here ↦ inl here | inr none ↦ absurd none ])))
    (c.plan_write.ensures.failed event is)

pub returns-in_err-plan-clause-damaged : goal.returns-in_err-plan-clause-damaged
returns-in_err-plan-clause-damaged g c name cause e =
    let seen = g.K.KvStore.seen in
    let told = err_and _ c.from_residual-in_err-plan.result (fetch.Damaged name cause) e c.from_residual-in_err-plan.ensures.1 in
    let is : c.plan_write.result ≡ Err (fetch.Damaged name cause) = c.in_err-plan.was ∙ ap Err (sym told) in
    let there = c.plan_write.ensures.damaged name cause is in
    let here : IsDamagedWrite (seen c.loop-write.state.store) c.loop-write.state.log c.in-Some.write name cause = record {
      there = there.1;
      partly = λ k known.
          (on_err ((may_use c.loop-write.state.log k c.in-Some.write ≡ false) × ¬ (IsCovered k.shape (chunk_shape k.info) c.in-Some.write.chunk.now c.in-Some.write.staged.now)) c.plan_write.result (fetch.Damaged name cause) is
          (c.plan_write.ensures.read_on k known (λ memory. let clash = sym is ∙ memory in absurd (cc)))).1;
    } in (
      ap (λ log. log.events) there.0 ∙ c.loop-write.invariant.same.events,
      c.loop-write.invariant.damaged name cause
          (subst (λ (ws : List ChunkWrite). IsFirstDamaged (seen c.args.state.now.store) c.args.state.now.log c.loop-write.next c.args.step ws name cause) (sym c.in-Some.ensures.steps.0)
          (inl (damaged_first (seen c.args.state.now.store) (seen c.loop-write.state.store) c.args.state.now.log c.loop-write.state.log c.loop-write.invariant.same c.loop-write.invariant.kept c.in-Some.write name cause here))),
    )

pub returns-in_err-plan-clause-told : goal.returns-in_err-plan-clause-told
returns-in_err-plan-clause-told g c more =
    let before = c.loop-write.invariant.steady in
    let why = c.plan_write.ensures.told (omega (arith, more, before)) in
    (why.0, err_told c.from_residual-in_err-plan.result c.plan_write.result _ (fetch.StoreFailed why.0) c.from_residual-in_err-plan.ensures.0 c.from_residual-in_err-plan.ensures.1 c.in_err-plan.was why.1)

pub returns-clause-told : goal.returns-clause-told
returns-clause-told g c more = let same = c.loop-write.invariant.steady in absurd (omega (arith, more, same))

pub returns-in_err-plan-clause-kept : goal.returns-in_err-plan-clause-kept
returns-in_err-plan-clause-kept g c opening agrees = c.plan_write.ensures.kept opening (c.loop-write.invariant.kept opening agrees)

pub loop-write-preserved : goal.loop-write-preserved
loop-write-preserved g c =
    let seen = g.K.KvStore.seen in
    let h = c.args.state.now.log.events in
    let log = c.args.state.now.log in
    let w = c.in-Some.write in
    let p = c.in_ok-plan.plan in
    let steps = c.in-Some.ensures.steps.0 in
    let planned = planned_first (seen c.args.state.now.store) (seen c.loop-write.state.store) log c.loop-write.state.log c.loop-write.invariant.same c.loop-write.invariant.kept w p c.loop-write.next
    (record { array = c.in_ok-plan.ensures.array; chunk = c.in_ok-plan.ensures.chunk; key = c.in_ok-plan.ensures.key; left = c.in_ok-plan.ensures.left; numbered = c.in_ok-plan.ensures.numbered; plan = c.in_ok-plan.ensures.plan }) in
    record {
      plans = λ more are.
          subst (ArePlannedBy (seen c.args.state.now.store) log c.args.number c.args.step c.args.writes.items) (sym (append_assoc c.loop-write.plans.items (p ∷ []) more) ∙ ap (λ xs. xs ++ more) (sym c.push_reserved.ensures.items))
          (c.loop-write.invariant.plans (p ∷ more) (subst (λ (ws : List ChunkWrite). ArePlannedBy (seen c.args.state.now.store) log c.loop-write.next c.args.step ws (p ∷ more)) (sym steps) (planned, are)));
      damaged = λ key cause is. c.loop-write.invariant.damaged key cause (subst (λ (ws : List ChunkWrite). IsFirstDamaged (seen c.args.state.now.store) log c.loop-write.next c.args.step ws key cause) (sym steps) (inr (p, planned, is)));
      among = λ mount is. c.loop-write.invariant.among mount (subst (λ (ws : List ChunkWrite). IsAmongOn h (write_arrays ws) mount) (sym steps) (inr is));
      same = same_then log c.loop-write.state.log c.plan_write.new.state.log c.loop-write.invariant.same c.in_ok-plan.ensures.same;
      read = read_then (seen c.args.state.now.store) (seen c.loop-write.state.store) (seen c.plan_write.new.state.store) c.loop-write.invariant.read c.plan_write.ensures.read;
      steady =
          let before = c.loop-write.invariant.steady in
          let same =
          not_risen (seen c.loop-write.state.store).faults (seen c.plan_write.new.state.store).faults (λ rose. let why = c.plan_write.ensures.told rose in let no = sym c.in_ok-plan.was ∙ why.1 in absurd (cc)) in
          omega (arith, before, same);
      kept = λ opening agrees. c.plan_write.ensures.kept opening (c.loop-write.invariant.kept opening agrees);
      writes = (subst (AllByRecursion (IsWrite h)) steps c.loop-write.invariant.writes).1;
      number = count_more c.loop-write.next c.args.step (length c.next.new.self.rest.items) (length c.loop-write.write-iterator.rest.items) (ap length steps) ∙ c.loop-write.invariant.number;
      room = let room = c.loop-write.invariant.room in let one = ap length steps in let len = c.push_reserved.ensures.len in let capacity = c.push_reserved.ensures.capacity in omega (arith, room, one, len, capacity);
    }

pub returns-clause-plans : goal.returns-clause-plans
returns-clause-plans g c =
    let seen = g.K.KvStore.seen in
    let none = none_left c.loop-write.write-iterator.rest.items (omega (arith, c.in-None.ensures.steps.0)) in
    subst (ArePlannedBy (seen c.args.state.now.store) c.args.state.now.log c.args.number c.args.step c.args.writes.items) (append-nil c.loop-write.plans.items)
    (c.loop-write.invariant.plans [] (subst (λ (ws : List ChunkWrite). ArePlannedBy (seen c.args.state.now.store) c.args.state.now.log c.loop-write.next c.args.step ws []) (sym none) tt))
