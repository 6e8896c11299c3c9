use Rattle.std.proofs.Common.{◌≡◌, ◌≤◌, length, true, false, sym, subst, arith}
use Rattle.std.specs.Prelude.{◌↔◌, IsTrue}
use Rattle.std.specs.List.{AllByRecursion}
use Rattle.std.proofs.lemmas.Result.{IfOk-weaker}
use Rattle.history.specs.History.{History}
use Rattle.version_store.specs.Stores.{IsStoreOf}
use Rattle.event_replay.specs.Demands.{AreMetFrom, IsDemandIn}
use Rattle.event_replay.specs.Sweeps.{IsFront, IsMetIn}
use Rattle.event_replay.proofs.WindowLaws.{IsAskedBelow, met_below, met_here, end_told, pieces_before}
use Rattle.event_replay.proofs.windows.meets.Goals as goal

pub returns-then-upto-from : goal.returns-then-upto-from
returns-then-upto-from c = λ events before front store end demand. (
  λ so. absurd (let clash : false ≡ true = so in cc),
  λ met. let low = met.moment in let up = c.if-upto-from.true in absurd (omega (arith, low, up)),
)

pub returns-then-not-are_asked_of_arrays : goal.returns-then-not-are_asked_of_arrays
returns-then-not-are_asked_of_arrays c = λ events before front store end demand. (
  λ so. absurd (let clash : false ≡ true = so in cc),
  λ met.
      let w = c.args.waiting.now in
      let below = met_below events before c.args.opened front w.from w.demand.casts.items w.demand.pieces.items (met_here events before c.args.opened front w end met) in
      let here = c.are_asked_of_arrays.ensures.1 (subst (AllByRecursion (IsAskedBelow c.args.opened)) (sym c.deref.ensures.value) below) in
      absurd (let isnt = c.if-not-are_asked_of_arrays.true in cc),
)

pub is_met-requires : goal.is_met-requires
is_met-requires c = c.requires

pub returns : goal.returns
returns c =
    let w = c.args.waiting.now in
    IfOk-weaker c.is_met.result
    (λ met. (history : History) → IsStoreOf history c.args.store.now → IsDemandIn history w.demand → w.from ≤ length history → IsTrue met ↔ AreMetFrom history w.from w.demand)
    (λ met. (events : History) (before : History) → IsFront events before c.args.opened → IsStoreOf before c.args.store.now → length before ≡ w.upto → IsDemandIn events w.demand → IsTrue met ↔ IsMetIn events w)
    (λ answer tells. λ events before front store end demand.
    let order : w.from ≤ w.upto = c.if-upto-from.false in
    let below = subst (AllByRecursion (IsAskedBelow c.args.opened)) c.deref.ensures.value (c.are_asked_of_arrays.ensures.0 c.if-not-are_asked_of_arrays.false) in
    let here = pieces_before events before c.args.opened front w.demand.casts.items w.demand.pieces.items demand below in
    end_told events before c.args.opened front w end answer order (tells before store here (omega (arith, order, end)))) c.is_met.ensures
