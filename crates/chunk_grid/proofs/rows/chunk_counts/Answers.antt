use Rattle.std.proofs.Common.{◌∙◌, ◌++◌, ◌∷◌, [], ap, sym, length, arith}
use Rattle.std.proofs.lemmas.List.{take_more, take_all}
use Rattle.chunk_grid.specs.Slots.{chunk_counts}
use Rattle.chunk_grid.proofs.RowParts.{length-chunk_counts, chunk_counts-at}
use Rattle.chunk_grid.proofs.rows.chunk_counts.Goals as goal

pub loop-d-preserved : goal.loop-d-preserved
loop-d-preserved c =
    let shape = c.shape-shape.result.now in
    let chunk = c.chunk-chunk.result.now in
    let same = ap length c.chunk-chunk.ensures.value ∙ c.chunk-chunk.ensures.well_formed.same ∙ ap length (sym c.shape-shape.ensures.value) in
    let d = c.loop-d.d in
    c.in_ok-push.ensures.items ∙ (λ i. c.loop-d.invariant i ++ (c.div_ceil.ensures ∙ sym (chunk_counts-at shape chunk d same c.loop-d-test.true)) i ∷ [])
    ∙ sym (take_more (chunk_counts shape chunk) d 0 (omega (arith, c.loop-d-test.true, length-chunk_counts shape chunk same)))

pub returns-clause-value : goal.returns-clause-value
returns-clause-value c =
    let shape = c.shape-shape.result.now in
    let chunk = c.chunk-chunk.result.now in
    let same = ap length c.chunk-chunk.ensures.value ∙ c.chunk-chunk.ensures.well_formed.same ∙ ap length (sym c.shape-shape.ensures.value) in
    c.loop-d.invariant ∙ take_all c.loop-d.d (chunk_counts shape chunk) (omega (arith, c.loop-d-test.false, length-chunk_counts shape chunk same))
    ∙ (λ i. chunk_counts (c.shape-shape.ensures.value i) (c.chunk-chunk.ensures.value i))
