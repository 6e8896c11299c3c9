use Rattle.std.proofs.Common.{◌∙◌, ◌+◌, ◌++◌, ◌∷◌, [], ℕ, min, map, take, ap}
use Rattle.stack_targets.specs.Numberings.{size_of, total_from}
use Rattle.stack_targets.proofs.NumberLaws.{firsts_more, total_more}
use Rattle.stack_targets.proofs.numbering.firsts_of.Goals as goal

pub loop-layer-preserved : goal.loop-layer-preserved
loop-layer-preserved c =
    let layers = c.args.layers.now in
    let k = c.loop-layer.layer-index in
    record {
      leaves = c.saturating_add-leaves.ensures ∙ ap (λ (n : ℕ). min (n + c.size.result) 4294967295) c.loop-layer.invariant.leaves
          ∙ ap (λ (n : ℕ). min (total_from 0 (map size_of (take k layers)) + n) 4294967295) c.size.ensures
          ∙ total_more layers k c.layer-item.result c.loop-layer-test.true c.layer-item.is;
      firsts = c.in_ok-push.ensures.items ∙ (λ i. c.loop-layer.invariant.firsts i ++ c.loop-layer.invariant.leaves i ∷ []) ∙ firsts_more layers k c.layer-item.result c.loop-layer-test.true;
    }
