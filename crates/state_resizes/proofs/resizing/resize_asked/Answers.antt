use Rattle.std.proofs.Common.{Err, length, sym, ap, subst, ◌∙◌}
use Rattle.kv_face.specs.Store.{keys_of}
use Rattle.history.specs.Commit.{are_together}
use Rattle.state_resizes.specs.Answers.{IsResize}
use Rattle.state_resizes.specs.declared.error.ResizeError.TheVariants as error
use Rattle.state_resizes.proofs.Outcome.{split_keys}
use Rattle.state_resizes.proofs.resizing.resize_asked.Goals as goal

pub returns-then-not-together : goal.returns-then-not-together
returns-then-not-together g c =
    let seen = g.K.KvStore.seen in
    let store = seen c.args.state.now.store in
    let log = c.args.state.now.log in
    let plan = c.args.asked.plan in
    subst (λ n. IsResize c.args.owner plan.array plan.shape store store log log (Err (error.NotAtomic n))) (sym (c.len-keys.ensures ∙ sym c.deref.ensures.len ∙ ap length c.deref.ensures.value))
    (split_keys c.args.owner store log c.args.chunks.now c.args.asked c.requires.agrees c.requires.asked c.requires.cut
    (ap (λ cs. are_together store.prefixes (keys_of cs)) (sym c.deref.ensures.value) ∙ sym c.if-not-together.ensures.keys))
