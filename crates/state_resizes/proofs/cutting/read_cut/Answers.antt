use Rattle.std.proofs.Common.{◌≡◌, Ok, Err, sym, ap, ◌∙◌}
use Rattle.std.proofs.lemmas.Result.{IfOk-weaker}
use Rattle.history.specs.Chunks.{chunk_key}
use Rattle.chunk_plans.specs.declared.FetchError.TheVariants as fetch
use Rattle.state_resizes.proofs.Reading.{chunk_there, looked_same, unread}
use Rattle.state_resizes.proofs.Looks.{err_same, err_weaker, same_ok, unfilled_by}
use Rattle.state_resizes.proofs.cutting.read_cut.Goals as goal

pub look-requires-clause-chunk : goal.look-requires-clause-chunk
look-requires-clause-chunk g c = chunk_there c.args.new.now c.args.chunk.now c.requires.agrees c.requires.begun c.requires.cut

pub left_of_look-requires : goal.left_of_look-requires
left_of_look-requires g c = (
  g.K.KvStore.seen c.args.state.now.store,
  c.args.state.now.log,
  record { agrees = c.requires.agrees; begun = c.requires.begun; cut = c.requires.cut; reached = c.requires.reached; named = c.requires.named; looked = c.in-Ok.ensures.looked },
)

pub returns-in-Ok-clause-left : goal.returns-in-Ok-clause-left
returns-in-Ok-clause-left g c =
    IfOk-weaker c.left_of_look.result _ _
    (λ left is. is (g.K.KvStore.seen c.args.state.now.store) c.args.state.now.log (record { agrees = c.requires.agrees; begun = c.requires.begun; cut = c.requires.cut; reached = c.requires.reached; named = c.requires.named; looked = c.in-Ok.ensures.looked }))
    c.left_of_look.ensures.left

pub returns-in-Ok-clause-same : goal.returns-in-Ok-clause-same
returns-in-Ok-clause-same g c =
    same_ok c.left_of_look.result (looked_same c.args.state.now.log c.look.new.self.log c.requires.begun.array (chunk_key c.requires.begun.array c.args.chunk.now) (c.in-Ok.ensures.after c.requires.begun.array c.requires.begun.known))

pub returns-in-Ok-clause-refused : goal.returns-in-Ok-clause-refused
returns-in-Ok-clause-refused g c =
    err_weaker c.left_of_look.result
    (λ e is.
    unfilled_by c.args.owner c.args.new.now (g.K.KvStore.seen c.args.state.now.store) (g.K.KvStore.seen c.look.new.self.store) c.args.state.now.log c.look.new.self.log e
    (looked_same c.args.state.now.log c.look.new.self.log c.requires.begun.array (chunk_key c.requires.begun.array c.args.chunk.now) (c.in-Ok.ensures.after c.requires.begun.array c.requires.begun.known))
    (is (g.K.KvStore.seen c.args.state.now.store) c.args.state.now.log (record { agrees = c.requires.agrees; begun = c.requires.begun; cut = c.requires.cut; reached = c.requires.reached; named = c.requires.named; looked = c.in-Ok.ensures.looked })))
    c.left_of_look.ensures.refused

pub returns-in-Err-clause-refused : goal.returns-in-Err-clause-refused
returns-in-Err-clause-refused g c =
    unread c.args.new.now c.args.chunk.now c.requires.agrees c.requires.begun c.requires.cut c.args.owner _ _ c.look.result c.in-Err.error c.requires.reached c.in-Err.is c.look.ensures.left.failed
    (λ name cause is. absurd (c.look.ensures.damaged name cause is)) c.look.ensures.left.memory

pub returns-in-Ok-clause-told : goal.returns-in-Ok-clause-told
returns-in-Ok-clause-told g c = λ more.
    let was = c.look.ensures.left.told more in
    let no : Ok c.in-Ok.look ≡ Err (fetch.StoreFailed was.0) = sym c.in-Ok.is ∙ was.1 in
    absurd (cc)

pub returns-in-Err-clause-told : goal.returns-in-Err-clause-told
returns-in-Err-clause-told g c = λ more. let was = c.look.ensures.left.told more in (was.0, ap (λ e. Err e) (err_same c.look.result c.in-Err.error (fetch.StoreFailed was.0) c.in-Err.is was.1))
