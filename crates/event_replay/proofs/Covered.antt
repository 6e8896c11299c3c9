-- Cells that words cover, one more.
use Rattle.std.proofs.Common.{◌≡◌, ◌∙◌, ◌<◌, ◌≤◌, ℕ, zero, suc, ◌+◌, List, [], ◌∷◌, ◌++◌, length, take, get_or, Option, Some, None, refl, sym, ap, subst, arith, append-nil}
use Rattle.std.specs.Prelude.{◌↔◌}
use Rattle.cast_driver.specs.declared.cast.Cast.{Cast}
use Rattle.chunk_versions.specs.Marks.{no_cell}
use Rattle.chunk_versions.specs.declared.asked.AskedCell.{AskedCell}
use Rattle.event_replay.specs.Demands.{bare, AreCovered}

-- both lists, one more
pub bare_more : (asked : List AskedCell) (own : List (Option ℕ)) (i : ℕ) → i < length asked → i < length own
    → bare (take (i + 1) asked) (take (i + 1) own) ≡ bare (take i asked) (take i own) ++ bare (get_or asked i no_cell ∷ []) (get_or own i None ∷ [])
bare_more [] own i low other = absurd (omega (arith, low))
bare_more (a ∷ asked) [] i low other = absurd (omega (arith, other))
bare_more (a ∷ asked) (None ∷ own) zero low other = refl
bare_more (a ∷ asked) (Some word ∷ own) zero low other = refl
bare_more (a ∷ asked) (None ∷ own) (suc i) low other =
    let z : suc i + 1 ≡ suc (i + 1) = omega arith in
    (λ j. bare (take (z j) (a ∷ asked)) (take (z j) (None ∷ own))) ∙ ap (λ l. a ∷ l) (bare_more asked own i (omega (arith, low)) (omega (arith, other)))
bare_more (a ∷ asked) (Some word ∷ own) (suc i) low other =
    let z : suc i + 1 ≡ suc (i + 1) = omega arith in
    (λ j. bare (take (z j) (a ∷ asked)) (take (z j) (Some word ∷ own))) ∙ bare_more asked own i (omega (arith, low)) (omega (arith, other))

module _ (casts : List (List Cast)) where
  pub covered_more : (asked : List AskedCell) (own : List (Option ℕ)) (i : ℕ) → i < length asked → i < length own
      → AreCovered casts (take i asked) (take i own) → AreCovered casts (get_or asked i no_cell ∷ []) (get_or own i None ∷ []) → AreCovered casts (take (i + 1) asked) (take (i + 1) own)
  covered_more [] own i low other all one = absurd (omega (arith, low))
  covered_more (a ∷ asked) [] i low other all one = absurd (omega (arith, other))
  covered_more (a ∷ asked) (None ∷ own) zero low other all one = tt
  covered_more (a ∷ asked) (Some word ∷ own) zero low other all one = (one.0, tt)
  covered_more (a ∷ asked) (None ∷ own) (suc i) low other all one =
      let z : suc (i + 1) ≡ suc i + 1 = omega arith in
      subst (λ n. AreCovered casts (take n (a ∷ asked)) (take n (None ∷ own))) z (covered_more asked own i (omega (arith, low)) (omega (arith, other)) all one)
  covered_more (a ∷ asked) (Some word ∷ own) (suc i) low other all one =
      let z : suc (i + 1) ≡ suc i + 1 = omega arith in
      subst (λ n. AreCovered casts (take n (a ∷ asked)) (take n (Some word ∷ own))) z (all.0, covered_more asked own i (omega (arith, low)) (omega (arith, other)) all.1 one)

  -- one of them
  pub covered_at : (asked : List AskedCell) (own : List (Option ℕ)) (i : ℕ) → i < length asked → i < length own → AreCovered casts asked own → AreCovered casts (get_or asked i no_cell ∷ []) (get_or own i None ∷ [])
  covered_at [] own i low other all = absurd (omega (arith, low))
  covered_at (a ∷ asked) [] i low other all = absurd (omega (arith, other))
  covered_at (a ∷ asked) (None ∷ own) zero low other all = tt
  covered_at (a ∷ asked) (Some word ∷ own) zero low other all = (all.0, tt)
  covered_at (a ∷ asked) (None ∷ own) (suc i) low other all = covered_at asked own i (omega (arith, low)) (omega (arith, other)) all
  covered_at (a ∷ asked) (Some word ∷ own) (suc i) low other all = covered_at asked own i (omega (arith, low)) (omega (arith, other)) all.1
