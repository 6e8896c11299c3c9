use Rattle.std.proofs.Common.{◌≡◌, ◌∙◌, ◌∷◌, ◌++◌, [], ℕ, List, sym, ap, subst}
use Rattle.std.specs.Prelude.{◌↔◌, IfOk, IsTrue}
use Rattle.std.proofs.lemmas.Result.{IfOk-weaker}
use Rattle.history.specs.History.{History}
use Rattle.history.specs.declared.event.Op.{Op}
use Rattle.history.specs.declared.event.Op.TheVariants.{Read}
use Rattle.event_replay.specs.Replays.{IsBehind}
use Rattle.event_replay.specs.Sweeps.{IsNextOp, IsRightOp}
use Rattle.event_replay.proofs.OpLaws.{behind_read}
use Rattle.event_replay.proofs.following.follow.Goals as goal

pub follow_write-requires : goal.follow_write-requires
follow_write-requires c = (
  c.requires.0,
  c.requires.1,
  c.requires.2,
  subst (λ (op : Op). IsNextOp c.requires.0 c.requires.1 c.args.opened c.args.number c.requires.2 op c.args.store.now) c.in-Write.is c.requires.3,
)

pub returns-in-Write-clause-legal : goal.returns-in-Write-clause-legal
returns-in-Write-clause-legal c =
    subst (λ (op : Op). IfOk c.follow_write.result (λ may. (events : History) (before : History) (done : List Op) → IsNextOp events before c.args.opened c.args.number done op c.args.store.now → IsTrue may ↔ IsRightOp before done op)) (sym c.in-Write.is)
    c.follow_write.ensures.legal

pub returns-in-Write-clause-kept : goal.returns-in-Write-clause-kept
returns-in-Write-clause-kept c =
    subst (λ (op : Op). IfOk c.follow_write.result (λ may. IsTrue may → (events : History) (before : History) (done : List Op) → IsNextOp events before c.args.opened c.args.number done op c.args.store.now → IsBehind before c.args.number (done ++ op ∷ []) c.follow_write.new.store)) (sym c.in-Write.is)
    c.follow_write.ensures.kept

pub follow_read-requires : goal.follow_read-requires
follow_read-requires c =
    let is : c.args.op.now ≡ Read c.in-Read.view c.items.result.now = c.in-Read.is ∙ ap (λ (ws : List ℕ). Read c.in-Read.view ws) (sym c.items.ensures) in
    (c.requires.0, c.requires.1, c.args.number, c.requires.2, subst (λ (op : Op). IsNextOp c.requires.0 c.requires.1 c.args.opened c.args.number c.requires.2 op c.args.store.now) is c.requires.3)

pub returns-in-Read-clause-legal : goal.returns-in-Read-clause-legal
returns-in-Read-clause-legal c =
    let words = c.items.result.now in
    let is : c.args.op.now ≡ Read c.in-Read.view words = c.in-Read.is ∙ ap (λ (ws : List ℕ). Read c.in-Read.view ws) (sym c.items.ensures) in
    IfOk-weaker c.follow_read.result
    (λ may. (events : History) (before : History) (number : ℕ) (done : List Op) → IsNextOp events before c.args.opened number done (Read c.in-Read.view words) c.args.store.now → IsTrue may ↔ IsRightOp before done (Read c.in-Read.view words))
    (λ may. (events : History) (before : History) (done : List Op) → IsNextOp events before c.args.opened c.args.number done c.args.op.now c.args.store.now → IsTrue may ↔ IsRightOp before done c.args.op.now)
    (λ answer tells. λ events before done next.
    subst (λ (op : Op). IsTrue answer ↔ IsRightOp before done op) (sym is)
    (tells events before c.args.number done (subst (λ (op : Op). IsNextOp events before c.args.opened c.args.number done op c.args.store.now) is next))) c.follow_read.ensures

pub returns-in-Read-clause-kept : goal.returns-in-Read-clause-kept
returns-in-Read-clause-kept c =
    IfOk-weaker c.follow_read.result
    (λ may. (events : History) (before : History) (number : ℕ) (done : List Op) → IsNextOp events before c.args.opened number done (Read c.in-Read.view c.items.result.now) c.args.store.now → IsTrue may ↔ IsRightOp before done (Read c.in-Read.view c.items.result.now))
    (λ may. IsTrue may → (events : History) (before : History) (done : List Op) → IsNextOp events before c.args.opened c.args.number done c.args.op.now c.args.store.now → IsBehind before c.args.number (done ++ c.args.op.now ∷ []) c.args.store.now)
    (λ answer tells. λ so events before done next.
    subst (λ (op : Op). IsBehind before c.args.number (done ++ op ∷ []) c.args.store.now) (sym c.in-Read.is)
    (behind_read before c.args.number done c.in-Read.view c.in-Read.words c.args.store.now next.behind)) c.follow_read.ensures
