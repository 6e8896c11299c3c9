use Rattle.std.proofs.Common.{◌∙◌, ap, ◌++◌, ◌∷◌, [], None}
use Rattle.chunk_grid.proofs.SlotLaws.{replicate-more}
use Rattle.chunk_grid.proofs.slots.empty_slots.Goals as goal

pub loop-preserved : goal.loop-preserved
loop-preserved c = c.in_ok-push.ensures.items ∙ ap (λ xs. xs ++ None ∷ []) c.loop.invariant ∙ replicate-more c.loop.counter None
