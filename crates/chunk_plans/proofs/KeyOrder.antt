-- Of two keys one stands before the other, or they are the same.
use Rattle.std.proofs.Common.{◌≡◌, ℕ, [], ◌∷◌, true, false, refl, sym, ap, ◌∙◌, get_or}
use Rattle.std.specs.declared.cmp.Ordering.{Ordering}
use Rattle.std.specs.declared.cmp.Ordering.TheVariants.{Less, Equal, Greater}
use Rattle.std.specs.Ordering.{is_lt, nat_cmp, ordering_reverse, ordering_then}
use Rattle.std.specs.Cmp.Lexicographic.{nat_list_cmp_total, slice_cmp}
use Rattle.history.specs.Commit.{Key, is_before}
use Rattle.locations.proofs.Laws.{equal_texts}

-- of two bytes that compare as equal one is the other
pub same_byte : (u v : ℕ) → nat_cmp u v ≡ Equal → u ≡ v
same_byte u v e = ap (λ xs. get_or xs 0 u) (equal_texts (u ∷ []) (v ∷ []) (ap (λ o. ordering_then o Equal) e))

-- of two keys one stands before the other, or they are the same
pub same_text : (k l : Key) → is_before k l ≡ false → is_before l k ≡ false → k ≡ l
same_text k l a b = told (slice_cmp nat_cmp k l) refl
  where
    told : (o : Ordering) → slice_cmp nat_cmp k l ≡ o → k ≡ l
    told Less e = let clash : false ≡ true = sym a ∙ ap is_lt e in absurd (cc)
    told Equal e = equal_texts k l e
    told Greater e = let clash : false ≡ true = sym b ∙ ap is_lt (nat_list_cmp_total.antisymm l k ∙ ap ordering_reverse e) in absurd (cc)
