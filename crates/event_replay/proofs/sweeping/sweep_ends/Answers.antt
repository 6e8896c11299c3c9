use Rattle.std.proofs.Common.{◌≡◌, ◌<◌, ◌≤◌, length, take, true, false, refl, ap, subst, arith}
use Rattle.std.specs.Prelude.{◌↔◌, IsTrue}
use Rattle.std.specs.FinMap as finmap
use Rattle.std.proofs.lemmas.List.{length-take-le, take_all}
use Rattle.history.specs.History.{History}
use Rattle.history.specs.Legal.{IsLegal}
use Rattle.history.proofs.Laws.{legal_more}
use Rattle.version_store.specs.Stores.{IsStoreOf}
use Rattle.event_replay.specs.Sweeps.{AreMetBefore}
use Rattle.event_replay.proofs.Fronts.{front_at}
use Rattle.event_replay.proofs.SweepLaws.{next_at, take_next, count_next, legal_next, met_next, none_before, swept}
use Rattle.event_replay.proofs.sweeping.sweep_ends.Goals as goal

pub loop-n-init : goal.loop-n-init
loop-n-init c = record {
  legal = tt;
  kept = c.requires.empty;
  count = refl;
  few = omega arith;
  tells = none_before c.args.events.now c.args.waiting.now true refl;
}

pub are_met-requires : goal.are_met-requires
are_met-requires c = record {
  ends = (length c.args.events.now, c.requires.ends, omega arith);
  waiting = (c.args.events.now, c.requires.waiting);
}

pub step-requires : goal.step-requires
step-requires c =
    let events = c.args.events.now in
    let n = c.loop-n.n in
    let inv = c.loop-n.invariant in
    (events, take n events, next_at events n c.loop-n.opened c.index-events-n.result c.loop-n.store c.requires.stated (omega arith) c.index-events-n.is inv.legal inv.kept inv.count)

pub loop-n-preserved : goal.loop-n-preserved
loop-n-preserved c =
    let events = c.args.events.now in
    let waiting = c.args.waiting.now in
    let n = c.loop-n.n in
    let inv = c.loop-n.invariant in
    let e = c.index-events-n.result in
    let low : n < length events = omega arith in
    let next = next_at events n c.loop-n.opened e c.loop-n.store c.requires.stated low c.index-events-n.is inv.legal inv.kept inv.count in
    let more = take_next events n e low c.index-events-n.is in
    record {
      legal = subst (IsLegal finmap.empty) more (legal_more finmap.empty (take n events) e inv.legal ((c.in_ok-step.ensures.legal events (take n events) next).0 c.if-not-branch.false));
      kept = subst (λ (h : History). IsStoreOf h c.step.new.store) more (c.in_ok-step.ensures.kept c.if-not-branch.false events (take n events) next);
      count = count_next events n c.loop-n.opened c.openings_of.result e low c.index-events-n.is inv.count c.openings_of.ensures.value;
      few = let few = inv.few in let one = c.openings_of.ensures.few in omega (arith, few, one);
      tells = met_next events waiting n c.loop-n.met c.in_ok-met.met inv.tells
          (c.in_ok-met.ensures events (take n events) (front_at events n c.loop-n.opened c.requires.stated inv.count) inv.kept (length-take-le n events (omega arith)) c.requires.waiting);
    }

pub returns-then-not-branch-clause-none : goal.returns-then-not-branch-clause-none
returns-then-not-branch-clause-none c = λ legal.
    let events = c.args.events.now in
    let n = c.loop-n.n in
    let inv = c.loop-n.invariant in
    let e = c.index-events-n.result in
    let low : n < length events = omega arith in
    let next = next_at events n c.loop-n.opened e c.loop-n.store c.requires.stated low c.index-events-n.is inv.legal inv.kept inv.count in
    let may = (c.in_ok-step.ensures.legal events (take n events) next).1 (legal_next events (take n events) next.rest e next.here legal) in
    absurd (let isnt = c.if-not-branch.true in cc)

pub are_met-requires-2 : goal.are_met-requires-2
are_met-requires-2 c = record {
  ends = (length c.args.events.now, c.requires.ends, omega arith);
  waiting = (c.args.events.now, c.requires.waiting);
}

pub returns-clause-some : goal.returns-clause-some
returns-clause-some c =
    let events = c.args.events.now in
    let waiting = c.args.waiting.now in
    let n = c.loop-n.n in
    let inv = c.loop-n.invariant in
    let past : length events ≤ n = omega arith in
    let end : n ≡ length events = omega arith in
    let told = c.in_ok-all.ensures events (take n events) (front_at events n c.loop-n.opened c.requires.stated inv.count) inv.kept (ap (λ (h : History). length h) (take_all n events past)) c.requires.waiting in
    swept events waiting n c.in_ok-all.all past inv.legal c.requires.waiting
    (met_next events waiting (length events) c.loop-n.met c.in_ok-all.all (subst (λ k. IsTrue c.loop-n.met ↔ AreMetBefore events waiting k) end inv.tells) told)

pub returns-clause-kept : goal.returns-clause-kept
returns-clause-kept c =
    let past : length c.args.events.now ≤ c.loop-n.n = omega arith in
    subst (λ (h : History). IsStoreOf h c.loop-n.store) (take_all c.loop-n.n c.args.events.now past) c.loop-n.invariant.kept

pub overflow_add-opened : goal.overflow_add-opened
overflow_add-opened c = let few = c.loop-n.invariant.few in let one = c.openings_of.ensures.few in omega (arith, few, one)
