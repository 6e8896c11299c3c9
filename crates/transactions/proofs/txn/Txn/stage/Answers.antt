use Rattle.std.proofs.Common.{◌≡◌, ◌∙◌, ◌∷◌, ◌++◌, [], sym, ap, append_assoc, subst, rules}
use Rattle.history.specs.declared.event.Op.TheVariants.{Write}
use Rattle.chunk_fetches.specs.Operations.{AreStaged}
use Rattle.transactions.specs.Txn.{TxnSeen, shared_ops}
use Rattle.transactions.proofs.txn.Txn.stage.Goals as goal

pub returns-clause-staged : goal.returns-clause-staged
returns-clause-staged c events leaves h =
    let before = shared_ops c.self.inside.shared in
    let ops : c.push_reserved.new.self.items ≡ c.self.inside.ops.items ++ Write c.args.v.now c.args.words ∷ [] = search rules in
    let all : before ++ c.push_reserved.new.self.items ≡ (before ++ c.self.inside.ops.items) ++ Write c.args.v.now c.args.words ∷ [] =
    ap (λ xs. before ++ xs) ops ∙ sym (append_assoc before c.self.inside.ops.items (Write c.args.v.now c.args.words ∷ [])) in
    let was = subst (λ (t : TxnSeen). AreStaged events t.ops t.staged) (sym c.self.view_is) h in
    subst (λ all. AreStaged events all c.stage.new.self) (sym all)
    (c.in_ok-stage.ensures.history events c.args.v.now (before ++ c.self.inside.ops.items) leaves c.requires.sites c.requires.are c.requires.typed was)
