use Rattle.std.proofs.Common.{sym, ap, subst, List}
use Rattle.kv_face.specs.declared.change.Change.{Change}
use Rattle.chunk_plans.specs.Changing.{IsNewShape, KeepsByShape}
use Rattle.chunk_plans.specs.Log.{Log, StateOf}
use Rattle.state_resizes.proofs.making.make.Goals as goal

pub reshape-requires-clause-shape : goal.reshape-requires-clause-shape
reshape-requires-clause-shape g c =
    let same = ap (λ (st : StateOf g.row.K.Denot). st.log) c.make_room.ensures.same in
    subst (λ (changes : List Change). IsNewShape c.make_room.new.self.log c.args.owner c.args.asked.plan changes) (sym c.deref-2.ensures.value)
    (subst (λ (log : Log). IsNewShape log c.args.owner c.args.asked.plan c.args.asked.changes.items) (sym same) c.requires.shape)

pub returns-clause-kept : goal.returns-clause-kept
returns-clause-kept g c =
    let seen = g.K.KvStore.seen in
    let next = seen c.reshape.new.self.store in
    let later = c.reshape.new.self.log in
    subst (λ (changes : List Change). KeepsByShape (seen c.args.state.now.store) c.args.state.now.log c.args.owner c.args.asked.plan changes next later) c.deref-2.ensures.value
    (subst (λ (st : StateOf g.row.K.Denot). KeepsByShape (seen st.store) st.log c.args.owner c.args.asked.plan c.deref-2.result.now next later) c.make_room.ensures.same c.reshape.ensures.kept)
