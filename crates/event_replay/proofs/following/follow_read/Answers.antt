use Rattle.std.proofs.Common.{◌≡◌, ℕ, List, true, false}
use Rattle.std.specs.Prelude.{◌↔◌, IsTrue}
use Rattle.std.proofs.lemmas.Result.{IfOk-weaker}
use Rattle.history.specs.History.{History}
use Rattle.history.specs.declared.event.Op.{Op}
use Rattle.history.specs.declared.event.Op.TheVariants.{Read}
use Rattle.stack_driver.specs.declared.view.View.{View}
use Rattle.transaction_cells.specs.Operations.{HasSites}
use Rattle.transaction_cells.specs.Pieces.{AreCells}
use Rattle.transaction_cells.specs.Sites.{sites_of}
use Rattle.event_replay.specs.Replays.{MayFollow, IsBehind, HasWords}
use Rattle.event_replay.specs.Sweeps.{IsNextOp, IsRightOp}
use Rattle.event_replay.proofs.FollowLaws.{can_locate_view, may_next, op_told}
use Rattle.event_replay.proofs.following.follow_read.Goals as goal

pub located-requires : goal.located-requires
located-requires c =
    let next = c.requires.4 in
    can_locate_view c.requires.0 c.requires.1 c.args.opened next.front c.args.view.now next.in_history.view

pub returns-then-not-are_there : goal.returns-then-not-are_there
returns-then-not-are_there c = λ events before number done next. (
  λ so. absurd (let clash : false ≡ true = so in cc),
  λ right.
      let v = c.args.view.now in
      let has = (op_told events before (Read v c.args.words.now) next.in_history).1 right.legal in
      let here = (c.are_there.ensures events before v next.front next.in_history.view c.in_ok-cells.ensures.sites c.in_ok-cells.ensures.cells).1 has in
      absurd (let isnt = c.if-not-are_there.true in cc),
)

pub show_cells-requires : goal.show_cells-requires
show_cells-requires c =
    let events = c.requires.0 in
    let before = c.requires.1 in
    let next = c.requires.4 in
    let v = c.args.view.now in
    let has = (c.are_there.ensures events before v next.front next.in_history.view c.in_ok-cells.ensures.sites c.in_ok-cells.ensures.cells).0 c.if-not-are_there.false in
    (before, c.requires.2, c.requires.3, v, next.behind, may_next events before c.args.opened (Read v c.args.words.now) next.front next.in_history has, c.in_ok-cells.ensures.sites, c.in_ok-cells.ensures.cells)

pub returns : goal.returns
returns c =
    let v = c.args.view.now in
    let words = c.args.words.now in
    let s = c.args.store.now in
    let sites = c.in_ok-cells.ensures.sites in
    let are = c.in_ok-cells.ensures.cells in
    IfOk-weaker c.show_cells.result
    (λ has. (history : History) (number : ℕ) (done : List Op) (view : View) → IsBehind history number done s → MayFollow history (Read view words) → HasSites view → AreCells (sites_of view) c.in_ok-cells.cells → IsTrue has ↔ HasWords history done view words)
    (λ may. (events : History) (before : History) (number : ℕ) (done : List Op) → IsNextOp events before c.args.opened number done (Read v words) s → IsTrue may ↔ IsRightOp before done (Read v words))
    (λ answer tells. λ events before number done next.
    let there = (c.are_there.ensures events before v next.front next.in_history.view sites are).0 c.if-not-are_there.false in
    let told = tells before number done v next.behind (may_next events before c.args.opened (Read v words) next.front next.in_history there) sites are in
    (λ so. record { legal = (op_told events before (Read v words) next.in_history).0 there; has = told.0 so }, λ right. told.1 right.has)) c.show_cells.ensures
