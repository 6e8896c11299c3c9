use Rattle.std.proofs.Common.{◌≡◌, Err, List, [], length, inl, inr, refl, sym, ap, subst, ◌∙◌, arith}
use Rattle.std.specs.Prelude.{filter}
use Rattle.history.specs.Commit.{is_write}
use Rattle.chunk_plans.proofs.Laws.{frame_same, frame_then, not_risen}
use Rattle.chunk_plans.specs.declared.plan.Planned.{Planned}
use Rattle.commits.specs.Plans.{keys_of}
use Rattle.commits.specs.Keyed.{AreKeyPlans, AreRightKeys, IsMadeEach, each_event, key_event, plan_arrays}
use Rattle.commits.specs.Planning.{IsAmongOn}
use Rattle.commits.proofs.ByKeysLaws.{each_length}
use Rattle.commits.proofs.DoneLaws.{IsDoneSoFar, done_none, done_one, keeps_one, keys_of_length, none_each, plans_left, unmade_then, wanting_then, writes_twice}
use Rattle.commits.proofs.EachLaws.{first_right}
use Rattle.commits.proofs.MadeLaws.{failed_unmade}
use Rattle.commits.proofs.each.make_each.Goals as goal

pub returns-in_err-numbers-clause-made : goal.returns-in_err-numbers-clause-made
returns-in_err-numbers-clause-made g c =
    let seen = g.K.KvStore.seen in
    let by = c.args.by in
    let one = each_length c.args.owner by.line by.mode by.ops (keys_of c.args.plans.items) in
    let two = keys_of_length c.args.plans.items in
    let some = c.requires.some in
    none_each c.args.owner (plan_arrays c.args.plans.items) (seen c.args.state.now.store) (seen c.args.state.now.store) c.args.state.now.log.events (each_event c.args.owner by.line by.mode by.ops (keys_of c.args.plans.items)) c.from_residual.result (omega (arith, one, two, some))
    c.from_residual.ensures

pub loop-plan-init : goal.loop-plan-init
loop-plan-init g c =
    let seen = g.K.KvStore.seen in
    let by = c.args.by in
    let h = c.args.state.now.log.events in
    let all = each_event c.args.owner by.line by.mode by.ops (keys_of c.args.plans.items) in
    let whole = sym c.into_iter-plan-iterator.ensures.into_iter_gives.0 in
    record {
      done =
          subst (IsDoneSoFar h h all (each_event c.args.owner by.line by.mode by.ops (keys_of c.into_iter-plan-iterator.result.rest.items))) (sym c.in_ok-numbers.ensures.items)
          (subst (λ (ps : List Planned). IsDoneSoFar h h all (each_event c.args.owner by.line by.mode by.ops (keys_of ps)) []) whole (done_none h all));
      plans = subst (AreKeyPlans h) whole c.requires.plans;
      frame = frame_same (seen c.args.state.now.store);
      steady = omega arith;
      kept = λ opening agrees right. (agrees, λ start told. subst (λ (ps : List Planned). AreRightKeys start c.args.owner by.line by.mode h by.ops ps) whole (right start told));
      among = λ es mount is. subst (λ (ps : List Planned). IsAmongOn es (plan_arrays ps) mount) (sym whole) is;
      writes = c.requires.writes;
      room = let len = ap length (sym whole) in let empty = c.in_ok-numbers.ensures.len in let room = c.in_ok-numbers.ensures.capacity in let count = c.len.ensures in omega (arith, len, empty, room, count);
    }

pub make_one-requires-clause-agrees : goal.make_one-requires-clause-agrees
make_one-requires-clause-agrees g c =
    let by = c.args.by in
    let it = c.requires.agrees in
    let there = c.loop-plan.invariant.kept it.0 it.1.0 it.1.1 in
    let each = (subst (AreKeyPlans c.loop-plan.state.log.events) c.in-Some.ensures.steps.0 c.loop-plan.invariant.plans).each in (
      it.0,
      (
        there.0,
        λ start told.
            first_right start c.args.owner by.line by.mode c.loop-plan.state.log c.loop-plan.ops c.in-Some.plan c.next.new.self.rest.items each
            (subst (λ (ps : List Planned). AreRightKeys start c.args.owner by.line by.mode c.loop-plan.state.log.events c.loop-plan.ops ps) c.in-Some.ensures.steps.0 (there.1 start told)),
      ),
    )

pub make_one-requires-clause-plan : goal.make_one-requires-clause-plan
make_one-requires-clause-plan g c = (subst (AreKeyPlans c.loop-plan.state.log.events) c.in-Some.ensures.steps.0 c.loop-plan.invariant.plans).each.0

pub make_one-requires-clause-numbered : goal.make_one-requires-clause-numbered
make_one-requires-clause-numbered g c = (subst (AreKeyPlans c.loop-plan.state.log.events) c.in-Some.ensures.steps.0 c.loop-plan.invariant.plans).numbered.0

pub returns-in_default-clause-made : goal.returns-in_default-clause-made
returns-in_default-clause-made g c =
    let seen = g.K.KvStore.seen in
    let by = c.args.by in
    let p = c.in-Some.plan in
    wanting_then c.args.owner (plan_arrays c.args.plans.items) (seen c.args.state.now.store) (seen c.loop-plan.state.store) (seen c.loop-plan.state.store) c.args.state.now.log.events c.loop-plan.state.log.events c.loop-plan.state.log.events
    (each_event c.args.owner by.line by.mode by.ops (keys_of c.args.plans.items)) (key_event c.args.owner by.line by.mode c.loop-plan.ops p.key) (each_event c.args.owner by.line by.mode (filter is_write c.loop-plan.ops) (keys_of c.next.new.self.rest.items)) c.loop-plan.numbers.items
    (subst (λ (ps : List Planned). IsDoneSoFar c.args.state.now.log.events c.loop-plan.state.log.events (each_event c.args.owner by.line by.mode by.ops (keys_of c.args.plans.items)) (each_event c.args.owner by.line by.mode c.loop-plan.ops (keys_of ps)) c.loop-plan.numbers.items)
    c.in-Some.ensures.steps.0 c.loop-plan.invariant.done) refl

pub returns-in_default-clause-kept : goal.returns-in_default-clause-kept
returns-in_default-clause-kept g c opening agrees right = (c.loop-plan.invariant.kept opening agrees right).0

pub returns-in-Err-clause-made : goal.returns-in-Err-clause-made
returns-in-Err-clause-made g c =
    let seen = g.K.KvStore.seen in
    let by = c.args.by in
    let p = c.in-Some.plan in
    let all = each_event c.args.owner by.line by.mode by.ops (keys_of c.args.plans.items) in
    subst (λ r. IsMadeEach c.args.owner (plan_arrays c.args.plans.items) (seen c.args.state.now.store) (seen c.make_one.new.state.store) c.args.state.now.log.events c.make_one.new.state.log.events all (Err r)) (sym c.unmade.ensures)
    (unmade_then c.args.owner (plan_arrays c.args.plans.items) (seen c.args.state.now.store) (seen c.loop-plan.state.store) (seen c.make_one.new.state.store) c.args.state.now.log.events c.loop-plan.state.log.events c.make_one.new.state.log.events all
    (key_event c.args.owner by.line by.mode c.loop-plan.ops p.key) (each_event c.args.owner by.line by.mode (filter is_write c.loop-plan.ops) (keys_of c.next.new.self.rest.items)) c.loop-plan.numbers.items
    (subst (λ (ps : List Planned). IsDoneSoFar c.args.state.now.log.events c.loop-plan.state.log.events all (each_event c.args.owner by.line by.mode c.loop-plan.ops (keys_of ps)) c.loop-plan.numbers.items) c.in-Some.ensures.steps.0 c.loop-plan.invariant.done) p.array
    c.in-Err.error c.loop-plan.invariant.frame.faults
    (λ es mount among.
    c.loop-plan.invariant.among es mount (subst (λ (ps : List Planned). IsAmongOn es (plan_arrays ps) mount) (sym c.in-Some.ensures.steps.0) (elim among [ inl here ↦ inl here | inr none ↦ absurd none ])))
    (λ event same. c.make_one.ensures.failed event (c.in-Err.is ∙ ap Err same)) (λ same. c.make_one.ensures.memory (c.in-Err.is ∙ ap Err same)))

pub returns-in-Err-clause-kept : goal.returns-in-Err-clause-kept
returns-in-Err-clause-kept g c opening agrees right =
    let by = c.args.by in
    let there = c.loop-plan.invariant.kept opening agrees right in
    let each = (subst (AreKeyPlans c.loop-plan.state.log.events) c.in-Some.ensures.steps.0 c.loop-plan.invariant.plans).each in
    c.make_one.ensures.kept opening there.0
    (λ start told.
    first_right start c.args.owner by.line by.mode c.loop-plan.state.log c.loop-plan.ops c.in-Some.plan c.next.new.self.rest.items each
    (subst (λ (ps : List Planned). AreRightKeys start c.args.owner by.line by.mode c.loop-plan.state.log.events c.loop-plan.ops ps) c.in-Some.ensures.steps.0 (there.1 start told)))

pub loop-plan-preserved : goal.loop-plan-preserved
loop-plan-preserved g c =
    let seen = g.K.KvStore.seen in
    let by = c.args.by in
    let p = c.in-Some.plan in
    let steps = c.in-Some.ensures.steps.0 in
    let h = c.args.state.now.log.events in
    let now = c.loop-plan.state.log in
    let left = c.next.new.self.rest.items in
    let all = each_event c.args.owner by.line by.mode by.ops (keys_of c.args.plans.items) in
    let plans = subst (AreKeyPlans now.events) steps c.loop-plan.invariant.plans in
    let writes : c.in-Ok.next ≡ filter is_write c.loop-plan.ops = c.in-Ok.ensures ∙ c.loop-plan.invariant.writes in
    record {
      done =
          subst (λ ops. IsDoneSoFar h c.make_one.new.state.log.events all (each_event c.args.owner by.line by.mode ops (keys_of left)) c.push_reserved.new.self.items) (sym writes)
          (done_one h now.events c.make_one.new.state.log.events all (each_event c.args.owner by.line by.mode (filter is_write c.loop-plan.ops) (keys_of left)) c.loop-plan.numbers.items c.push_reserved.new.self.items
          (key_event c.args.owner by.line by.mode c.loop-plan.ops p.key) c.in-Ok-make_one.number
          (subst (λ (ps : List Planned). IsDoneSoFar h now.events all (each_event c.args.owner by.line by.mode c.loop-plan.ops (keys_of ps)) c.loop-plan.numbers.items) steps c.loop-plan.invariant.done) c.in-Ok-make_one.ensures.after c.in-Ok-make_one.ensures.number
          c.push_reserved.ensures.items);
      plans = plans_left c.args.owner by.line by.mode c.loop-plan.ops now.events c.make_one.new.state.log.events p left c.in-Ok-make_one.ensures.after plans;
      steady =
          let before = c.loop-plan.invariant.steady in
          let still =
          not_risen (seen c.loop-plan.state.store).faults (seen c.make_one.new.state.store).faults (λ rose. let why = c.make_one.ensures.told rose in let no = sym c.in-Ok-make_one.is ∙ why.1 in absurd (cc)) in
          omega (arith, before, still);
      frame = frame_then (seen c.args.state.now.store) (seen c.loop-plan.state.store) (seen c.make_one.new.state.store) c.loop-plan.invariant.frame c.make_one.ensures.frame;
      kept =
          keeps_one (seen c.args.state.now.store) c.args.state.now.log c.args.owner by.line by.mode by.ops c.args.plans.items (seen c.loop-plan.state.store) now c.loop-plan.ops c.in-Ok.next p left (seen c.make_one.new.state.store) c.make_one.new.state.log plans writes
          c.in-Ok-make_one.ensures.after c.make_one.ensures.kept
          (λ opening agrees right.
          let there = c.loop-plan.invariant.kept opening agrees right in
          (there.0, λ start told. subst (λ (ps : List Planned). AreRightKeys start c.args.owner by.line by.mode now.events c.loop-plan.ops ps) steps (there.1 start told)));
      among = λ es mount is. c.loop-plan.invariant.among es mount (subst (λ (ps : List Planned). IsAmongOn es (plan_arrays ps) mount) (sym steps) (inr is));
      writes = c.loop-plan.invariant.writes ∙ sym (writes_twice c.loop-plan.ops) ∙ ap (filter is_write) (sym writes);
      room = let room = c.loop-plan.invariant.room in let one = ap length steps in let len = c.push_reserved.ensures.len in let capacity = c.push_reserved.ensures.capacity in omega (arith, room, one, len, capacity);
    }

pub returns-clause-kept : goal.returns-clause-kept
returns-clause-kept g c opening agrees right = (c.loop-plan.invariant.kept opening agrees right).0

pub returns-in_default-clause-rose : goal.returns-in_default-clause-rose
returns-in_default-clause-rose g c more = let same = c.loop-plan.invariant.steady in absurd (omega (arith, more, same))

pub returns-in-Err-clause-rose : goal.returns-in-Err-clause-rose
returns-in-Err-clause-rose g c more =
    let before = c.loop-plan.invariant.steady in
    failed_unmade c.make_one.result c.loop-plan.numbers.items c.in-Err.error c.unmade.result c.in-Err.is c.unmade.ensures (c.make_one.ensures.told (omega (arith, more, before)))

pub returns-clause-rose : goal.returns-clause-rose
returns-clause-rose g c more = let same = c.loop-plan.invariant.steady in absurd (omega (arith, more, same))
