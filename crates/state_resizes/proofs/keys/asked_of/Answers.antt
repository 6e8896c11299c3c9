use Rattle.std.proofs.Common.{◌++◌, ◌∷◌, [], Some, List, ℕ, map, take, sym, ap, subst, ◌∙◌}
use Rattle.chunk_forms.specs.Metadata.{metadata_text}
use Rattle.kv_face.specs.declared.change.Change.{Change}
use Rattle.history.specs.Arrays.{known_after}
use Rattle.history.specs.Chunks.{chunk_key}
use Rattle.chunk_plans.specs.Fetches.{IsChunkOf}
use Rattle.chunk_plans.specs.declared.NewShape.{NewShape}
use Rattle.state_resizes.specs.Cuts.{unfilled}
use Rattle.state_resizes.proofs.Begin.{are_asked, listed_chunk, map_more}
use Rattle.state_resizes.proofs.keys.asked_of.Goals as goal

pub add_chunk-requires : goal.add_chunk-requires
add_chunk-requires g c =
    let events = c.args.state.now.log.events in
    subst (λ (p : NewShape). IsChunkOf events (record { array = p.array; index = c.items.result.now })) (sym c.loop-chunk.invariant.new)
    (subst (λ i. IsChunkOf events (record { array = c.args.new.array; index = i })) (sym (c.items.ensures ∙ c.chunk-item.is))
    (listed_chunk c.args.new.array c.args.new.shape c.args.chunks.now c.loop-chunk.chunk-index c.chunk-item.result c.requires.agrees c.requires.cut c.loop-chunk-test.true))

pub loop-chunk-preserved : goal.loop-chunk-preserved
loop-chunk-preserved g c =
    let events = c.args.state.now.log.events in
    let was = c.loop-chunk.invariant in
    let there = c.items.ensures in
    let done = take c.loop-chunk.chunk-index c.args.chunks.now in
    record {
      new = c.in_ok-add_chunk.ensures.plan ∙ ap (λ (p : NewShape). record p { keys = c.add_chunk.new.asked.plan.keys }) was.new;
      keys = λ k known.
          c.in_ok-add_chunk.ensures.keys k (ap (λ (p : NewShape). known_after events p.array) was.new ∙ known)
          ∙ ap (λ (ks : List (List ℕ)). ks ++ chunk_key k c.items.result.now ∷ []) (was.keys k known)
          ∙ ap (λ i. map (chunk_key k) done ++ chunk_key k i ∷ []) there
          ∙ map_more (chunk_key k) c.args.chunks.now c.loop-chunk.chunk-index c.chunk-item.result c.loop-chunk-test.true c.chunk-item.is;
      changes = λ k key known named.
          c.in_ok-add_chunk.ensures.changes k (ap (λ (p : NewShape). known_after events p.array) was.new ∙ known)
          ∙ ap (λ (cs : List Change). cs ++ unfilled k c.items.result.now ∷ []) (was.changes k key known named)
          ∙ ap (λ i. record { key = key; bytes = Some (metadata_text c.args.new.form) } ∷ (map (unfilled k) done ++ unfilled k i ∷ [])) there
          ∙ ap (λ cs. record { key = key; bytes = Some (metadata_text c.args.new.form) } ∷ cs) (map_more (unfilled k) c.args.chunks.now c.loop-chunk.chunk-index c.chunk-item.result c.loop-chunk-test.true c.chunk-item.is);
    }

pub returns-clause-asked : goal.returns-clause-asked
returns-clause-asked g c =
    are_asked c.args.state.now.log.events c.args.chunks.now c.args.new c.loop-chunk.asked c.loop-chunk.chunk-index c.requires.begun c.loop-chunk-test.false c.loop-chunk.invariant.new c.loop-chunk.invariant.keys c.loop-chunk.invariant.changes
