use Rattle.std.proofs.Common.{◌≡◌, true, false, refl, subst}
use Rattle.std.specs.Prelude.{◌↔◌, IsTrue}
use Rattle.history.specs.declared.event.Op.TheVariants.{Write}
use Rattle.event_replay.specs.Sweeps.{HasCells}
use Rattle.event_replay.proofs.FollowLaws.{can_locate_view, may_next, op_told}
use Rattle.event_replay.proofs.following.follow_write.Goals as goal

pub located-requires : goal.located-requires
located-requires c =
    let next = c.requires.3 in
    can_locate_view c.requires.0 c.requires.1 c.args.opened next.front c.args.view.now next.in_history.view

pub returns-then-not-are_there-clause-legal : goal.returns-then-not-are_there-clause-legal
returns-then-not-are_there-clause-legal c = λ events before done next. (
  λ so. absurd (let clash : false ≡ true = so in cc),
  λ right.
      let v = c.args.view.now in
      let has = (op_told events before (Write v c.args.words.now) next.in_history).1 right.legal in
      let told = subst (λ n. IsTrue c.are_there.result ↔ HasCells before v n) c.len.ensures (c.are_there.ensures events before v next.front next.in_history.view c.in_ok-cells.ensures.sites c.in_ok-cells.ensures.cells) in
      let here = told.1 has in
      absurd (let isnt = c.if-not-are_there.true in cc),
)

pub put_cells-requires : goal.put_cells-requires
put_cells-requires c =
    let events = c.requires.0 in
    let before = c.requires.1 in
    let next = c.requires.3 in
    let v = c.args.view.now in
    let told = subst (λ n. IsTrue c.are_there.result ↔ HasCells before v n) c.len.ensures (c.are_there.ensures events before v next.front next.in_history.view c.in_ok-cells.ensures.sites c.in_ok-cells.ensures.cells) in
    (before, c.requires.2, v, next.behind, may_next events before c.args.opened (Write v c.args.words.now) next.front next.in_history (told.0 c.if-not-are_there.false), c.in_ok-cells.ensures.sites, c.in_ok-cells.ensures.cells)

pub returns-in-Ok-clause-legal : goal.returns-in-Ok-clause-legal
returns-in-Ok-clause-legal c = λ events before done next.
    let v = c.args.view.now in
    let told = subst (λ n. IsTrue c.are_there.result ↔ HasCells before v n) c.len.ensures (c.are_there.ensures events before v next.front next.in_history.view c.in_ok-cells.ensures.sites c.in_ok-cells.ensures.cells) in
    (λ so. record { legal = (op_told events before (Write v c.args.words.now) next.in_history).0 (told.0 c.if-not-are_there.false); has = tt }, λ right. refl)

pub returns-in-Ok-clause-kept : goal.returns-in-Ok-clause-kept
returns-in-Ok-clause-kept c = λ so events before done next.
    let v = c.args.view.now in
    let told = subst (λ n. IsTrue c.are_there.result ↔ HasCells before v n) c.len.ensures (c.are_there.ensures events before v next.front next.in_history.view c.in_ok-cells.ensures.sites c.in_ok-cells.ensures.cells) in
    c.in-Ok.ensures before done v next.behind (may_next events before c.args.opened (Write v c.args.words.now) next.front next.in_history (told.0 c.if-not-are_there.false)) c.in_ok-cells.ensures.sites c.in_ok-cells.ensures.cells
