use Rattle.std.proofs.Common.{◌≡◌, ◌+◌, ◌∷◌, ◌++◌, [], ℕ, zero, suc, List, Bool, false, length, get_or, refl, sym, ap, subst, ◌∙◌, length-append}
use Rattle.stated_arrays.proofs.lines.falses.Goals as goal

still_false : (xs : List Bool) → ((k : ℕ) → get_or xs k false ≡ false) → (k : ℕ) → get_or (xs ++ false ∷ []) k false ≡ false
still_false [] none zero = refl
still_false [] none (suc k) = refl
still_false (x ∷ xs) none zero = none zero
still_false (x ∷ xs) none (suc k) = still_false xs (λ j. none (suc j)) k

pub loop-k-preserved : goal.loop-k-preserved
loop-k-preserved c = record {
  len = ap (λ (xs : List Bool). length xs) c.in_ok-push.ensures.items ∙ length-append c.loop-k.all.items (false ∷ []) ∙ ap (λ n. n + 1) c.loop-k.invariant.len;
  none = subst (λ xs. (k : ℕ) → get_or xs k false ≡ false) (sym c.in_ok-push.ensures.items) (still_false c.loop-k.all.items c.loop-k.invariant.none);
}
