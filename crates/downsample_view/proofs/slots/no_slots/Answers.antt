use Rattle.std.proofs.Common.{◌∙◌, ◌++◌, ◌∷◌, [], None, sym, ap, arith}
use Rattle.std.proofs.lemmas.List.FromFn.{map-range_with_len_more}
use Rattle.downsample_view.specs.Places.{no_slot}
use Rattle.downsample_view.proofs.slots.no_slots.Goals as goal

pub loop-k-preserved : goal.loop-k-preserved
loop-k-preserved c =
    c.in_ok-push.ensures.items ∙ ap (λ zs. zs ++ None ∷ []) c.loop-k.invariant ∙ sym (map-range_with_len_more no_slot 0 c.loop-k._k c.loop-k._k (omega arith))
