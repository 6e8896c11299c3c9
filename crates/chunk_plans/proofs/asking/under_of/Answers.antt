use Rattle.std.proofs.Common.{◌∙◌, sym, ap}
use Rattle.cells.specs.Places.{cell_count}
use Rattle.chunk_forms.specs.Metadata.{chunk_shape_of, shape_of}
use Rattle.history.specs.Chunks.{chunk_key}
use Rattle.shared_state.specs.Log.{Log}
use Rattle.shared_state.proofs.Laws.{looked_events}
use Rattle.chunk_plans.proofs.UnderLaws.{chunk_is, chunk_named, covered_named, reached_from, size_is, some_holds, under_covered, under_kept}
use Rattle.chunk_plans.proofs.asking.under_of.Goals as goal

pub is_gone-requires : goal.is_gone-requires
is_gone-requires g c =
    let p = c.args.part in
    let form = c.args.form.now in
    chunk_named c.shape.result.now c.chunk_shape.result.now p.chunk.now (shape_of form) (chunk_shape_of form) c.shape.ensures c.chunk_shape.ensures.value
    (chunk_is p form c.requires.agrees c.requires.part c.requires.form (sym c.is_local.ensures ∙ c.if-is_local.false))

pub covers-requires-clause-chunk : goal.covers-requires-clause-chunk
covers-requires-clause-chunk g c =
    let p = c.args.part in
    let form = c.args.form.now in
    chunk_named c.shape-2.result.now c.chunk_shape-2.result.now p.chunk.now (shape_of form) (chunk_shape_of form) c.shape-2.ensures c.chunk_shape-2.ensures.value
    (chunk_is p form c.requires.agrees c.requires.part c.requires.form (sym c.is_local.ensures ∙ c.if-is_local.false))

pub covers-requires-clause-staged : goal.covers-requires-clause-staged
covers-requires-clause-staged g c =
    size_is c.args.part c.args.form.now c.requires.agrees c.requires.part c.requires.form (sym c.is_local.ensures ∙ c.if-is_local.false) ∙ ap cell_count (sym c.chunk_shape-2.ensures.value)

pub returns-then-covers-clause-under : goal.returns-then-covers-clause-under
returns-then-covers-clause-under g c opening k agrees known =
    let p = c.args.part in
    let form = c.args.form.now in
    let reached = reached_from c.shape.result.now c.chunk_shape.result.now p.chunk.now form c.is_gone.result c.shape.ensures c.chunk_shape.ensures.value c.is_gone.ensures c.if-is_gone.false in
    under_covered p form c.requires.agrees c.requires.part c.requires.form (sym c.is_local.ensures ∙ c.if-is_local.false) opening k known reached
    (covered_named c.shape-2.result.now c.chunk_shape-2.result.now p.chunk.now form p.staged.now c.shape-2.ensures c.chunk_shape-2.ensures.value (c.covers.ensures.0 c.if-covers.true))

pub returns-in-Some-clause-under : goal.returns-in-Some-clause-under
returns-in-Some-clause-under g c opening k agrees known =
    let p = c.args.part in
    let form = c.args.form.now in
    let reached = reached_from c.shape.result.now c.chunk_shape.result.now p.chunk.now form c.is_gone.result c.shape.ensures c.chunk_shape.ensures.value c.is_gone.ensures c.if-is_gone.false in
    under_kept p form c.requires.agrees c.requires.part c.requires.form (sym c.is_local.ensures ∙ c.if-is_local.false) opening k c.in-Some.snapshot agrees known reached
    (some_holds _ c.in_ok-snapshot.field-0 c.in-Some.snapshot c.in-Some.is c.in_ok-snapshot.ensures.answered)

pub returns-in-None-clause-events : goal.returns-in-None-clause-events
returns-in-None-clause-events g c =
    let k = c.requires.part.0 in
    let known = c.requires.part.1.known in
    ap (λ (l : Log). l.events) (c.in_ok-snapshot.ensures.after k known) ∙ looked_events c.args.state.now.log k (chunk_key k c.args.part.chunk.now)
