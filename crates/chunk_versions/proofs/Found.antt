-- A moment at which the cells of a read are shown.
use Rattle.std.proofs.Common.{◌≡◌, ◌<◌, ◌≤◌, ◌⊎◌, inl, inr, ℕ, zero, suc, ◌+◌, ◌-◌, max, List, [], ◌∷◌, ◌++◌, length, get_or, Option, Some, None, replicate, refl, sym, ap, subst, ◌∙◌, arith}
use Rattle.std.specs.Prelude.{◌↔◌, option_map, IfSome, IfNone}
use Rattle.std.specs.List.{AllByRecursion}
use Rattle.cells.proofs.Laws.{less_or_not}
use Rattle.cast_driver.specs.declared.cast.Cast.{Cast}
use Rattle.cast_driver.specs.Chain.{word_out}
use Rattle.chunk_versions.specs.Moments.{IsRising, up_to, newest}
use Rattle.chunk_versions.specs.Versions.{Versions, IsVersions, word_in, word_if}
use Rattle.chunk_versions.specs.Reach.{IsGood, AreJudged}
use Rattle.chunk_versions.specs.Marks.{AreShown, IsShownBehind, AreShownBehind, casts_of, IsMark, HasNoMark}
use Rattle.chunk_versions.specs.declared.asked.AskedCell.{AskedCell}
use Rattle.chunk_versions.proofs.Candidates.{reached_none}
use Rattle.chunk_versions.proofs.Counts.{up_to_has, up_to_is, up_to_later, all_low}

-- the moment of a candidate is behind so many touches
pub count_of_mark : (ns : List ℕ) (from first k : ℕ) → IsRising ns → first ≡ up_to from ns - 1 → first + k < length ns → up_to (max from (get_or ns (first + k) 0)) ns ≡ first + k + 1
count_of_mark ns from first k rising at within = up_to_is (max from (get_or ns (first + k) 0)) ns (first + k + 1) (record { few = omega (arith, within); low = lows; high = highs }) where
  lows : (i : ℕ) → i < first + k + 1 → get_or ns i 0 ≤ max from (get_or ns (first + k) 0)
  lows i low = by (less_or_not i (first + k)) where
    by : (i < first + k) ⊎ (first + k ≤ i) → get_or ns i 0 ≤ max from (get_or ns (first + k) 0)
    by (inl less) = let rises = rising.each i (first + k) less within in omega (arith, rises)
    by (inr not) = let same = ap (λ j. get_or ns j 0) (let equal : i ≡ first + k = omega (arith, low, not) in equal) in omega (arith, same)

  highs : first + k + 1 < length ns → max from (get_or ns (first + k) 0) < get_or ns (first + k + 1) 0
  highs high =
      let rises = rising.each (first + k) (first + k + 1) (omega arith) high in
      let past = after (less_or_not (up_to from ns) (length ns)) in
      omega (arith, rises, past) where
        after : (up_to from ns < length ns) ⊎ (length ns ≤ up_to from ns) → from < get_or ns (first + k + 1) 0
        after (inr all) = absurd (omega (arith, all, at, high))
        after (inl less) = by (less_or_not (up_to from ns) (first + k + 1)) where
          next : from < get_or ns (up_to from ns) 0
          next = (up_to_has from ns).high less

          by : (up_to from ns < first + k + 1) ⊎ (first + k + 1 ≤ up_to from ns) → from < get_or ns (first + k + 1) 0
          by (inl before) = let rise = rising.each (up_to from ns) (first + k + 1) before high in omega (arith, next, rise)
          by (inr not) = let same = ap (λ j. get_or ns j 0) (let equal : up_to from ns ≡ first + k + 1 = omega (arith, not, at) in equal) in omega (arith, next, same)

pub mark_low : (ns : List ℕ) (from first k : ℕ) → IsRising ns → first + k < length ns → max from (get_or ns (first + k) 0) ≤ max from (newest ns)
mark_low ns from first k rising within = let low = all_low ns rising (first + k) within in omega (arith, low)

some_same : (a b : ℕ) → Some a ≡ Some b → a ≡ b
some_same a b is = cc

module _ (v : Versions) (casts : List (List Cast)) where
  -- a cell is shown at a moment as it is behind the touches up to then
  shown_if : (cell : AskedCell) (n : ℕ) → (option_map (word_out (casts_of casts cell)) (word_if v cell.place (suc n)) ≡ Some cell.word) ↔ IsShownBehind v casts (suc n) cell
  shown_if cell n = (λ is. some_same (word_out (casts_of casts cell) (word_in v cell.place (suc n))) cell.word is, λ is. ap Some is)

  shown_at : (m n : ℕ) (asked : List AskedCell) → up_to m v.touches ≡ suc n → AreShown v casts m asked → AreShownBehind v casts (suc n) asked
  shown_at m n [] count all = tt
  shown_at m n (cell ∷ asked) count all =
      ((shown_if cell n).0 (ap (λ c. option_map (word_out (casts_of casts cell)) (word_if v cell.place c)) (sym count) ∙ all.0), shown_at m n asked count all.1)

  shown_from : (m n : ℕ) (asked : List AskedCell) → up_to m v.touches ≡ suc n → AreShownBehind v casts (suc n) asked → AreShown v casts m asked
  shown_from m n [] count all = tt
  shown_from m n (cell ∷ asked) count all =
      (ap (λ c. option_map (word_out (casts_of casts cell)) (word_if v cell.place c)) count ∙ (shown_if cell n).1 all.0, shown_from m n asked count all.1)

  -- before the opening no cell is shown
  none_shown : (m n : ℕ) (asked : List AskedCell) → up_to m v.touches ≡ 0 → AreShown v casts m asked → AreShownBehind v casts n asked
  none_shown m n [] count all = tt
  none_shown m n (cell ∷ asked) count all =
      absurd (let clash : None ≡ Some cell.word = ap (λ c. option_map (word_out (casts_of casts cell)) (word_if v cell.place c)) (sym count) ∙ all.0 in cc)

  -- a candidate at which all are shown is a mark
  pub found_mark : (asked : List AskedCell) (from first k m : ℕ) → AreShownBehind v casts (first + k + 1) asked → up_to m v.touches ≡ first + k + 1 → from ≤ m → m ≤ max from (newest v.touches) → IsMark v casts asked from m
  found_mark asked from first k m shown count early late =
      let one : first + k + 1 ≡ suc (first + k) = omega arith in
      record { not_before = early; not_behind = late; shown = shown_from m (first + k) asked (count ∙ one) (subst (λ c. AreShownBehind v casts c asked) one shown) }

  -- without one there is no mark
  pub found_none : (asked : List AskedCell) (from first : ℕ) → IsVersions v → first ≡ up_to from v.touches - 1 → ((k : ℕ) → first + k < length v.touches → ¬ AreShownBehind v casts (first + k + 1) asked) → HasNoMark v casts asked from
  found_none asked from first is at none m early all = by (up_to m v.touches) refl where
    few : up_to m v.touches ≤ length v.touches
    few = (up_to_has m v.touches).few

    rises : up_to from v.touches ≤ up_to m v.touches
    rises = up_to_later from m v.touches early

    by : (c : ℕ) → up_to m v.touches ≡ c → ⊥
    by zero count = none 0 (let opened = is.opened in omega (arith, at, rises, count, opened)) (none_shown m (first + 0 + 1) asked count all)
    by (suc n) count =
        let same : suc n ≡ first + (n - first) + 1 = omega (arith, at, rises, count) in
        none (n - first) (omega (arith, few, count, at, rises)) (subst (λ c. AreShownBehind v casts c asked) same (shown_at m n asked count all))

-- one more at the end
all_more : {X : Type 0} (P : X → Type 0) (xs : List X) (x : X) → AllByRecursion P (xs ++ x ∷ []) ↔ (AllByRecursion P xs × P x)
all_more P [] x = (λ all. (tt, all.0), λ both. (both.1, tt))
all_more P (y ∷ xs) x =
    (λ all. let rest = (all_more P xs x).0 all.1 in ((all.0, rest.0), rest.1), λ both. (both.0.0, (all_more P xs x).1 (both.0.1, both.1)))

-- candidates that are judged by one cell more
pub judged_more : (v : Versions) (casts : List (List Cast)) (first : ℕ) (old new next : List ℕ) (done all : List AskedCell) (cell : AskedCell) → all ≡ done ++ cell ∷ [] → length new ≡ length old
    → AreJudged old new (λ k. AreShownBehind v casts (first + k + 1) done) → AreJudged new next (λ k. IsShownBehind v casts (first + k + 1) cell) → AreJudged old next (λ k. AreShownBehind v casts (first + k + 1) all)
judged_more v casts first old new next done all cell parts size before here k within =
    let inner : k < length new = omega (arith, within, size) in
    let ends = all_more (IsShownBehind v casts (first + k + 1)) done cell in (
      λ good.
          let step = (here k inner).0 good in
          let was = (before k within).0 step.0 in
          (was.0, subst (AreShownBehind v casts (first + k + 1)) (sym parts) (ends.1 (was.1, step.1))),
      λ both.
          let split = ends.0 (subst (AreShownBehind v casts (first + k + 1)) parts both.1) in
          (here k inner).1 ((before k within).1 (both.0, split.0), split.1),
    )

-- none is judged yet
pub judged_none : (v : Versions) (casts : List (List Cast)) (first : ℕ) (old : List ℕ) → AreJudged old old (λ k. AreShownBehind v casts (first + k + 1) [])
judged_none v casts first old k within = (λ good. (good, tt), λ both. both.0)

-- the same candidates are judged where the words are the same
pub judged_as : (old new : List ℕ) (word : ℕ) (one other : ℕ → ℕ) → ((k : ℕ) → one k ≡ other k) → AreJudged old new (λ k. one k ≡ word) → AreJudged old new (λ k. other k ≡ word)
judged_as old new word one other same judged k within = subst (λ shown. IsGood new k ↔ (IsGood old k × (shown ≡ word))) (same k) (judged k within)

-- what holds of what is found, and where nothing is
pub some_map : {X : Type 0} (o : Option X) (P Q : X → Type 0) → ((x : X) → P x → Q x) → IfSome o P → IfSome o Q
some_map None P Q f is = tt
some_map (Some x) P Q f is = f x is

pub none_map : {X : Type 0} (o : Option X) (P Q : Type 0) → (P → Q) → IfNone o P → IfNone o Q
none_map None P Q f is = f is
none_map (Some x) P Q f is = tt

-- no candidate is ruled out at first
pub all_good : (n k : ℕ) → IsGood (replicate n 0) k
all_good n k = let none = reached_none n k in omega (arith, none)
