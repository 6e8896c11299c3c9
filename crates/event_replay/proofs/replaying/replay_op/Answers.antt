use Rattle.std.proofs.Common.{◌≡◌, ◌∙◌, ◌∷◌, ◌++◌, [], ℕ, List, sym, ap, subst}
use Rattle.std.specs.Prelude.{◌↔◌, IsTrue}
use Rattle.std.proofs.lemmas.Result.{IfOk-weaker}
use Rattle.history.specs.History.{History}
use Rattle.history.specs.declared.event.Op.{Op}
use Rattle.history.specs.declared.event.Op.TheVariants.{Read}
use Rattle.event_replay.specs.Replays.{MayFollow, IsBehind, HasWords, HasItsWords}
use Rattle.event_replay.proofs.replaying.replay_op.Goals as goal

pub returns-in_ok-put_write-in-Write-clause-kept : goal.returns-in_ok-put_write-in-Write-clause-kept
returns-in_ok-put_write-in-Write-clause-kept c = λ so h done behind may.
    subst (λ (op : Op). IsBehind h c.args.number (done ++ op ∷ []) c.put_write.new.store) (sym c.in-Write.is) (c.in_ok-put_write-in-Write.ensures h done behind (subst (MayFollow h) c.in-Write.is may))

pub returns-in-Read-clause-reads : goal.returns-in-Read-clause-reads
returns-in-Read-clause-reads c =
    let words = c.items.result.now in
    let is : c.args.op.now ≡ Read c.in-Read.view words = c.in-Read.is ∙ ap (λ (ws : List ℕ). Read c.in-Read.view ws) (sym c.items.ensures) in
    IfOk-weaker c.has_words.result
    (λ has. (history : History) (number : ℕ) (done : List Op) → IsBehind history number done c.args.store.now → MayFollow history (Read c.in-Read.view words) → IsTrue has ↔ HasWords history done c.in-Read.view words)
    (λ right. (history : History) (done : List Op) → IsBehind history c.args.number done c.args.store.now → MayFollow history c.args.op.now → IsTrue right ↔ HasItsWords history done c.args.op.now)
    (λ answer tells. λ h done behind may. subst (λ (op : Op). IsTrue answer ↔ HasItsWords h done op) (sym is) (tells h c.args.number done behind (subst (MayFollow h) is may))) c.has_words.ensures
