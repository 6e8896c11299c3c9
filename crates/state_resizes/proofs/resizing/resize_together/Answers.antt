use Rattle.std.proofs.Common.{◌≡◌, Ok, Err, sym, ap, subst, ◌∙◌}
use Rattle.chunk_plans.specs.Changing.{IsNewShape}
use Rattle.state_resizes.specs.Answers.{IsResize}
use Rattle.history.specs.Commit.{are_together}
use Rattle.state_resizes.proofs.Made.{made_later, made_together, new_shape, shape_later}
use Rattle.chunk_plans.specs.declared.FetchError.TheVariants as fetch
use Rattle.chunk_plans.proofs.Laws.{not_risen}
use Rattle.state_resizes.proofs.Looks.{err_same}
use Rattle.state_resizes.proofs.Outcome.{made_or_not, not_read}
use Rattle.state_resizes.proofs.resizing.resize_together.Goals as goal

pub make-requires-clause-agrees : goal.make-requires-clause-agrees
make-requires-clause-agrees g c = (c.requires.agrees.0, c.filled.ensures.kept c.requires.agrees.0 c.requires.agrees.1)

pub make-requires-clause-shape : goal.make-requires-clause-shape
make-requires-clause-shape g c =
    let seen = g.K.KvStore.seen in
    subst (λ p. IsNewShape c.filled.new.state.log c.args.owner p c.in-Ok.asked.changes.items) (sym c.in-Ok.ensures.plan)
    (shape_later c.args.state.now.log c.filled.new.state.log c.args.owner c.args.asked.plan c.in-Ok.asked.changes.items c.in-Ok.ensures.same.events
    (new_shape (seen c.args.state.now.store) c.args.state.now.log c.args.chunks.now c.args.asked c.requires.agrees c.requires.asked c.requires.cut c.in-Ok.asked.changes.items c.in-Ok.ensures.keys c.args.owner))

pub make-requires-clause-made : goal.make-requires-clause-made
make-requires-clause-made g c =
    let seen = g.K.KvStore.seen in
    made_later (seen c.args.state.now.store) (seen c.filled.new.state.store) c.in-Ok.asked.changes.items c.filled.ensures.read.frame
    (made_together (seen c.args.state.now.store) c.args.state.now.log c.args.chunks.now c.args.asked c.requires.agrees c.requires.asked c.requires.cut c.in-Ok.asked.changes.items c.in-Ok.ensures.keys
    (ap (are_together (seen c.args.state.now.store).prefixes) c.in-Ok.ensures.keys ∙ c.requires.together))

pub returns-in-Ok : goal.returns-in-Ok
returns-in-Ok g c =
    let seen = g.K.KvStore.seen in
    let plan = c.args.asked.plan in
    let steady =
    not_risen (seen c.args.state.now.store).faults (seen c.filled.new.state.store).faults
    (λ rose. let why = c.filled.ensures.told rose in let no : Ok c.in-Ok.asked ≡ Err (fetch.StoreFailed why.0) = sym c.in-Ok.is ∙ why.1 in absurd (cc)) in
    subst (IsResize c.args.owner plan.array plan.shape (seen c.args.state.now.store) (seen c.make.new.state.store) c.args.state.now.log c.make.new.state.log) (sym c.answer_of.ensures)
    (made_or_not c.args.owner (seen c.args.state.now.store) c.args.state.now.log c.args.chunks.now c.args.asked c.requires.agrees c.requires.asked c.requires.cut c.requires.together (seen c.filled.new.state.store) c.filled.new.state.log c.in-Ok.asked
    c.in-Ok.ensures.plan c.in-Ok.ensures.keys c.in-Ok.ensures.metadata c.in-Ok.ensures.filled c.in-Ok.ensures.same c.filled.ensures.read steady c.filled.ensures.kept (seen c.make.new.state.store) c.make.new.state.log c.make.result
    c.make.ensures.number c.make.ensures.after c.make.ensures.failed c.make.ensures.told c.make.ensures.memory c.make.ensures.quiet c.make.ensures.frame c.make.ensures.kept)

pub returns-in-Err : goal.returns-in-Err
returns-in-Err g c =
    let seen = g.K.KvStore.seen in
    let plan = c.args.asked.plan in
    subst (λ e. IsResize c.args.owner plan.array plan.shape (seen c.args.state.now.store) (seen c.filled.new.state.store) c.args.state.now.log c.filled.new.state.log (Err e)) (sym c.refusal_of.ensures)
    (not_read c.args.owner (seen c.args.state.now.store) c.args.state.now.log c.args.chunks.now c.args.asked c.requires.agrees c.requires.asked c.requires.cut c.requires.together (seen c.filled.new.state.store) c.filled.new.state.log c.in-Err.error
    c.filled.ensures.read c.filled.ensures.kept
    (λ rose. let why = c.filled.ensures.told rose in (why.0, err_same c.filled.result c.in-Err.error (fetch.StoreFailed why.0) c.in-Err.is why.1)) c.in-Err.ensures.refused)
