use Rattle.std.proofs.Common.{◌≡◌, ℕ, List, Option, None, length, get_or, sym, ap, subst, ◌∙◌}
use Rattle.transcript_cut.proofs.spots.spots_of_events.Goals as goal

pub spots_by-requires-clause-count : goal.spots_by-requires-clause-count
spots_by-requires-clause-count c = ap (λ (xs : List (Option ℕ)). length xs) c.as_mut_slice.ensures.value ∙ c.in_ok-slots.ensures.len ∙ c.in_ok-count.ensures

pub spots_by-requires-clause-none : goal.spots_by-requires-clause-none
spots_by-requires-clause-none c = subst (λ xs. (k : ℕ) → get_or xs k None ≡ None) (sym c.as_mut_slice.ensures.value) c.in_ok-slots.ensures.none
