use Rattle.std.proofs.Common.{◌≡◌, [], Ok, Err, sym, ap, subst, ◌∙◌, arith}
use Rattle.std.specs.Prelude.{slice_index_or}
use Rattle.history.specs.Arrays.{known_after, chunk_shape}
use Rattle.history.specs.Resizes.{is_cut}
use Rattle.chunk_plans.specs.declared.NewShape.{NewShape}
use Rattle.chunk_plans.specs.declared.FetchError.TheVariants as fetch
use Rattle.chunk_plans.proofs.Laws.{not_risen, read_then}
use Rattle.state_resizes.specs.Cuts.{IsLeftBy}
use Rattle.state_resizes.specs.Refusals.{IsUnfilled}
use Rattle.state_resizes.proofs.Along.{cut_at, filled_more, left_before, same_then, unfilled_before}
use Rattle.state_resizes.proofs.Lists.{any_at}
use Rattle.state_resizes.proofs.Looks.{err_same}
use Rattle.state_resizes.proofs.filling.filled.Goals as goal

pub left_of_cut-requires-clause-agrees : goal.left_of_cut-requires-clause-agrees
left_of_cut-requires-clause-agrees g c = (c.requires.agrees.0, c.loop-place.invariant.kept c.requires.agrees.0 c.requires.agrees.1)

pub left_of_cut-requires-clause-cut : goal.left_of_cut-requires-clause-cut
left_of_cut-requires-clause-cut g c k known =
    let there = c.items.ensures ∙ c.index-chunks-place.is in
    let plan = c.loop-place.invariant.new in
    let events = c.loop-place.invariant.same.events in
    let known_then = sym (ap (λ h. known_after h c.args.asked.plan.array) events) ∙ ap (λ (p : NewShape). known_after c.loop-place.state.log.events p.array) (sym plan) ∙ known in
    ap (is_cut (chunk_shape k.info) k.shape c.loop-place.asked.plan.shape) there
    ∙ ap (λ (p : NewShape). is_cut (chunk_shape k.info) k.shape p.shape (slice_index_or c.args.chunks.now c.loop-place.place c.index-chunks-place.result)) plan
    ∙ cut_at c.args.state.now.log.events c.args.asked.plan.array c.args.asked.plan.shape c.args.chunks.now c.loop-place.place c.index-chunks-place.result c.requires.cut c.loop-place-test.true k known_then

pub returns-in-Err-clause-refused : goal.returns-in-Err-clause-refused
returns-in-Err-clause-refused g c =
    let seen = g.K.KvStore.seen in
    let was = c.loop-place.invariant in
    unfilled_before (seen c.args.state.now.store) (seen c.loop-place.state.store) c.args.state.now.log c.loop-place.state.log was.same was.kept c.args.owner c.args.asked.plan (seen c.left_of_cut.new.state.store) c.left_of_cut.new.state.log c.in-Err.error was.read.frame
    (subst (λ p. IsUnfilled c.args.owner p (seen c.loop-place.state.store) (seen c.left_of_cut.new.state.store) c.loop-place.state.log c.left_of_cut.new.state.log c.in-Err.error) was.new c.in-Err.ensures.refused)

pub returns-in-Err-clause-told : goal.returns-in-Err-clause-told
returns-in-Err-clause-told g c = λ more.
    let before = c.loop-place.invariant.steady in
    let why = c.left_of_cut.ensures.told (omega (arith, more, before)) in
    (why.0, ap (λ e. Err e) (err_same c.left_of_cut.result c.in-Err.error (fetch.StoreFailed why.0) c.in-Err.is why.1))

pub returns-clause-told : goal.returns-clause-told
returns-clause-told g c = λ more. let same = c.loop-place.invariant.steady in absurd (omega (arith, more, same))

pub returns-in-Err-clause-kept : goal.returns-in-Err-clause-kept
returns-in-Err-clause-kept g c = λ opening agrees. c.left_of_cut.ensures.kept opening (c.loop-place.invariant.kept opening agrees)

pub loop-place-preserved : goal.loop-place-preserved
loop-place-preserved g c =
    let seen = g.K.KvStore.seen in
    let was = c.loop-place.invariant in
    let first = c.args.asked.plan in
    let there = c.items.ensures ∙ c.index-chunks-place.is ∙ any_at c.args.chunks.now c.loop-place.place c.index-chunks-place.result [] c.loop-place-test.true in
    let left = subst (λ (p : NewShape). IsLeftBy (seen c.loop-place.state.store) c.loop-place.state.log p.array p.shape c.items.result.now c.in-Ok.bytes) was.new c.in-Ok.ensures.left in
    let before = left_before (seen c.args.state.now.store) (seen c.loop-place.state.store) c.args.state.now.log c.loop-place.state.log was.same was.kept first.array first.shape c.items.result.now c.in-Ok.bytes left in
    record {
      new = was.new;
      keys = c.put.ensures.keys ∙ was.keys;
      metadata = c.put.ensures.others 0 (λ same. omega (arith, same)) ∙ was.metadata;
      filled = filled_more (seen c.args.state.now.store) c.args.state.now.log first.array first.shape c.args.chunks.now c.loop-place.asked.changes.items c.put.new.changes.items c.loop-place.place c.in-Ok.bytes was.filled
          (subst (λ i. IsLeftBy (seen c.args.state.now.store) c.args.state.now.log first.array first.shape i c.in-Ok.bytes) there before) c.put.ensures.here c.put.ensures.others;
      same = same_then c.args.state.now.log c.loop-place.state.log c.left_of_cut.new.state.log was.same c.in-Ok.ensures.same;
      read = read_then (seen c.args.state.now.store) (seen c.loop-place.state.store) (seen c.left_of_cut.new.state.store) was.read c.left_of_cut.ensures.read;
      steady =
          let before = was.steady in
          let same =
          not_risen (seen c.loop-place.state.store).faults (seen c.left_of_cut.new.state.store).faults
          (λ rose. let why = c.left_of_cut.ensures.told rose in let no : Ok c.in-Ok.bytes ≡ Err (fetch.StoreFailed why.0) = sym c.in-Ok.is ∙ why.1 in absurd (cc)) in
          omega (arith, before, same);
      kept = λ opening agrees. c.left_of_cut.ensures.kept opening (was.kept opening agrees);
    }

pub returns-clause-filled : goal.returns-clause-filled
returns-clause-filled g c j low = c.loop-place.invariant.filled j (let end = c.loop-place-test.false in omega (arith, low, end))
