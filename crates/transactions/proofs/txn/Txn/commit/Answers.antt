use Rattle.std.proofs.Common.{List, [], ◌∷◌, ◌++◌, sym, subst}
use Rattle.std.specs.List.{AllByRecursion}
use Rattle.history.specs.declared.event.Op.{Op}
use Rattle.transactions.specs.Recording.{IsOfView}
use Rattle.transactions.specs.Txn.{TxnSeen, shared_ops}
use Rattle.transactions.proofs.txn.Txn.commit.Goals as goal

front : (P : Op → Type 0) (xs ys : List Op) → AllByRecursion P (xs ++ ys) → AllByRecursion P xs
front P [] ys all = tt
front P (x ∷ xs) ys all = (all.0, front P xs ys all.1)

pub joined-requires : goal.joined-requires
joined-requires g c = front IsOfView (shared_ops c.self.inside.shared) c.self.inside.ops.items (subst (λ (t : TxnSeen). AllByRecursion IsOfView t.ops) (sym c.self.view_is) c.requires.recorded.views)
