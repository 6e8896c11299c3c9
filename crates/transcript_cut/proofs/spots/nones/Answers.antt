use Rattle.std.proofs.Common.{◌≡◌, ◌+◌, ◌∷◌, [], ℕ, List, Option, None, length, get_or, sym, ap, subst, ◌∙◌, length-append}
use Rattle.transcript_cut.proofs.Slots.{none_more}
use Rattle.transcript_cut.proofs.spots.nones.Goals as goal

pub loop-k-preserved : goal.loop-k-preserved
loop-k-preserved c = record {
  len = ap (λ (xs : List (Option ℕ)). length xs) c.in_ok-push.ensures.items ∙ length-append c.loop-k.slots.items (None ∷ []) ∙ ap (λ n. n + 1) c.loop-k.invariant.len;
  none = subst (λ xs. (k : ℕ) → get_or xs k None ≡ None) (sym c.in_ok-push.ensures.items) (none_more c.loop-k.slots.items c.loop-k.invariant.none);
}
