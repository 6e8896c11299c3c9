use Rattle.std.proofs.Common.{◌∷◌, ◌++◌, [], List, refl, sym, subst}
use Rattle.std.specs.Prelude.{◌↔◌, IsTrue}
use Rattle.std.specs.FinMap as finmap
use Rattle.std.proofs.lemmas.Result.{IfOk-weaker}
use Rattle.history.specs.declared.event.Kind.{Kind}
use Rattle.history.specs.declared.event.Op.{Op}
use Rattle.history.specs.History.{History}
use Rattle.history.specs.Legal.{IsLegalDone, IsLegalKind}
use Rattle.version_store.specs.Stores.{IsStoreOf}
use Rattle.version_store.proofs.Laws.{store_fault}
use Rattle.event_replay.specs.Replays.{IsBehind}
use Rattle.event_replay.specs.Sweeps.{IsNext, IsNextDone, IsStatedKind}
use Rattle.event_replay.proofs.Fronts.{stated_next}
use Rattle.event_replay.proofs.SweepLaws.{opening_may, opening_kept, done_next, done_kept}
use Rattle.event_replay.proofs.sweeping.step.Goals as goal

pub returns-in_ok-open-in-Opened-clause-legal : goal.returns-in_ok-open-in-Opened-clause-legal
returns-in_ok-open-in-Opened-clause-legal c = λ events before next.
    (λ so. opening_may events before c.args.opened c.args.number c.args.event.now c.args.store.now next c.in-Opened.array c.in-Opened.is, λ legal. refl)

pub returns-in_ok-open-in-Opened-clause-kept : goal.returns-in_ok-open-in-Opened-clause-kept
returns-in_ok-open-in-Opened-clause-kept c = λ so events before next.
    opening_kept events before c.args.opened c.args.number c.args.event.now c.args.store.now next c.in-Opened.array c.open.new.self c.in-Opened.is c.in_ok-open-in-Opened.ensures

pub commit-requires : goal.commit-requires
commit-requires c =
    let events = c.requires.0 in
    let before = c.requires.1 in (
      events,
      before,
      subst (λ (ops : List Op). IsNextDone events before c.args.opened c.args.number ops c.args.store.now) (sym c.items.ensures)
          (done_next events before c.args.opened c.args.number c.args.event.now c.args.store.now c.requires.2 _ _ c.in-Done.ops _ c.in-Done.is).0,
    )

pub returns-in-Done-clause-legal : goal.returns-in-Done-clause-legal
returns-in-Done-clause-legal c =
    let ops = c.items.result.now in
    IfOk-weaker c.commit.result
    (λ may. (events : History) (before : History) → IsNextDone events before c.args.opened c.args.number ops c.args.store.now → IsTrue may ↔ IsLegalDone finmap.empty before ops)
    (λ may. (events : History) (before : History) → IsNext events before c.args.opened c.args.number c.args.event.now c.args.store.now → IsTrue may ↔ IsLegalKind finmap.empty before c.args.event.now.kind)
    (λ answer tells. λ events before next.
    let done = subst (λ (os : List Op). IsNextDone events before c.args.opened c.args.number os c.args.store.now) (sym c.items.ensures)
    (done_next events before c.args.opened c.args.number c.args.event.now c.args.store.now next _ _ c.in-Done.ops _ c.in-Done.is).0 in
    subst (λ (kind : Kind). IsTrue answer ↔ IsLegalKind finmap.empty before kind) (sym c.in-Done.is)
    (subst (λ (os : List Op). IsTrue answer ↔ IsLegalDone finmap.empty before os) c.items.ensures (tells events before done))) c.commit.ensures.legal

pub returns-in-Done-clause-kept : goal.returns-in-Done-clause-kept
returns-in-Done-clause-kept c =
    let ops = c.items.result.now in
    IfOk-weaker c.commit.result
    (λ may. IsTrue may → (events : History) (before : History) → IsNextDone events before c.args.opened c.args.number ops c.args.store.now → IsBehind before c.args.number ops c.commit.new.store)
    (λ may. IsTrue may → (events : History) (before : History) → IsNext events before c.args.opened c.args.number c.args.event.now c.args.store.now → IsStoreOf (before ++ c.args.event.now ∷ []) c.commit.new.store)
    (λ answer kept. λ so events before next.
    let done = subst (λ (os : List Op). IsNextDone events before c.args.opened c.args.number os c.args.store.now) (sym c.items.ensures)
    (done_next events before c.args.opened c.args.number c.args.event.now c.args.store.now next _ _ c.in-Done.ops _ c.in-Done.is).0 in
    done_kept events before c.args.opened c.args.number c.args.event.now c.args.store.now next _ _ c.in-Done.ops _ c.commit.new.store c.in-Done.is
    (subst (λ (os : List Op). IsBehind before c.args.number os c.commit.new.store) c.items.ensures (kept so events before done))) c.commit.ensures.kept

pub unreachable-requires : goal.unreachable-requires
unreachable-requires c =
    let next = c.requires.2 in
    subst (IsStatedKind c.requires.0) c.in-Resized.is (stated_next c.requires.0 c.requires.1 next.rest c.args.event.now next.front.stated next.here)

pub returns-in-Fault-clause-legal : goal.returns-in-Fault-clause-legal
returns-in-Fault-clause-legal c = λ events before next. (λ so. subst (IsLegalKind finmap.empty before) (sym c.in-Fault.is) tt, λ legal. refl)

pub returns-in-Fault-clause-kept : goal.returns-in-Fault-clause-kept
returns-in-Fault-clause-kept c = λ so events before next. store_fault before c.args.event.now _ c.args.store.now c.in-Fault.is next.kept
