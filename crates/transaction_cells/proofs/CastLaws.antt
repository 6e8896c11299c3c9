-- Words that are taken outwards one after another.
use Rattle.std.proofs.Common.{◌≡◌, ◌∙◌, ℕ, zero, suc, ◌+◌, ◌<◌, ◌≤◌, List, [], ◌∷◌, length, set, get_or, refl, sym, ap, subst, arith, inl, inr, get_or-set_other, get_or-set_same}
use Rattle.std.proofs.lemmas.List.{length-set, ext_get_or}
use Rattle.cells.proofs.Laws.{equal_or_not}
use Rattle.stack_driver.specs.Targets.{inwards, outwards}
use Rattle.transaction_cells.specs.Casting.{ArePlain, casts_at, taken_back}
use Rattle.transaction_cells.specs.Gathered.{taken_out}
use Rattle.transaction_cells.specs.Lanes.{LaneSeen}

-- the first words are taken outwards, the others are as they were
pub record AreOutUpTo (lanes : List LaneSeen) (leaves old new : List ℕ) (k : ℕ) : Type 0 where
  pub size : length new ≡ length old
  pub before : (i : ℕ) → i < k → i < length old → get_or new i 0 ≡ outwards (casts_at lanes (get_or leaves i 0)) (get_or old i 0)
  pub behind : (i : ℕ) → k ≤ i → get_or new i 0 ≡ get_or old i 0

pub none_out : (lanes : List LaneSeen) (leaves old : List ℕ) → AreOutUpTo lanes leaves old old 0
none_out lanes leaves old = record { size = refl; before = λ i lt inside. absurd (omega (arith, lt)); behind = λ i le. refl }

-- one more
pub one_out : (lanes : List LaneSeen) (leaves old new : List ℕ) (k w : ℕ) → w ≡ outwards (casts_at lanes (get_or leaves k 0)) (get_or new k 0) → AreOutUpTo lanes leaves old new k
    → AreOutUpTo lanes leaves old (set new k w) (k + 1)
one_out lanes leaves old new k w is h = record {
  size = length-set new k w ∙ h.size;
  before = λ i lt inside. elim (equal_or_not i k) [
    | inl same ↦
        subst (λ n. get_or (set new k w) n 0 ≡ outwards (casts_at lanes (get_or leaves n 0)) (get_or old n 0)) (sym same)
        (let long = h.size in
        get_or-set_same new k w 0 (omega (arith, long, same, inside))
        ∙ is ∙ ap (outwards (casts_at lanes (get_or leaves k 0))) (h.behind k (omega arith)))
    | inr other ↦ get_or-set_other new k i w 0 other ∙ h.before i (omega (arith, lt, other)) inside
  ];
  behind = λ i le. get_or-set_other new k i w 0 (λ same. let no_such : ⊥ = omega (arith, le, same) in no_such) ∙ h.behind i (omega (arith, le));
}

length-taken_out : (lanes : List LaneSeen) (leaves words : List ℕ) → length words ≡ length leaves → length (taken_out lanes leaves words) ≡ length words
length-taken_out lanes [] [] same = refl
length-taken_out lanes [] (word ∷ words) same = absurd (omega (arith, same))
length-taken_out lanes (leaf ∷ leaves) [] same = refl
length-taken_out lanes (leaf ∷ leaves) (word ∷ words) same = ap suc (length-taken_out lanes leaves words (omega (arith, same)))

get_or-taken_out : (lanes : List LaneSeen) (leaves words : List ℕ) (i : ℕ) → length words ≡ length leaves → i < length words
    → get_or (taken_out lanes leaves words) i 0 ≡ outwards (casts_at lanes (get_or leaves i 0)) (get_or words i 0)
get_or-taken_out lanes [] words i same lt = absurd (omega (arith, same, lt))
get_or-taken_out lanes (leaf ∷ leaves) [] i same lt = absurd (omega (arith, lt))
get_or-taken_out lanes (leaf ∷ leaves) (word ∷ words) zero same lt = refl
get_or-taken_out lanes (leaf ∷ leaves) (word ∷ words) (suc i) same lt = get_or-taken_out lanes leaves words i (omega (arith, same)) (omega (arith, lt))

-- all of them
pub all_out : (lanes : List LaneSeen) (leaves old new : List ℕ) (k : ℕ) → length old ≡ length leaves → length leaves ≤ k → AreOutUpTo lanes leaves old new k → new ≡ taken_out lanes leaves old
all_out lanes leaves old new k same le h =
    let long = h.size in
    let out = length-taken_out lanes leaves old same in
    ext_get_or 0 new (taken_out lanes leaves old) (omega (arith, long, out))
    (λ i lt. h.before i (omega (arith, long, lt, same, le)) (omega (arith, long, lt)) ∙ sym (get_or-taken_out lanes leaves old i same (omega (arith, long, lt))))

-- a leaf without casts, also one that isn't there
plain_casts : (lanes : List LaneSeen) (leaf : ℕ) → ArePlain lanes → casts_at lanes leaf ≡ []
plain_casts [] leaf plain = refl
plain_casts (lane ∷ lanes) zero plain = plain.0
plain_casts (lane ∷ lanes) (suc leaf) plain = plain_casts lanes leaf plain.1

-- without casts a word is kept as it is shown
pub plain_back : (lanes : List LaneSeen) (leaves words : List ℕ) → ArePlain lanes → length words ≡ length leaves → taken_back lanes leaves words ≡ words
plain_back lanes [] [] plain same = refl
plain_back lanes [] (word ∷ words) plain same = absurd (omega (arith, same))
plain_back lanes (leaf ∷ leaves) [] plain same = refl
plain_back lanes (leaf ∷ leaves) (word ∷ words) plain same =
    ap (λ casts. inwards casts word ∷ taken_back lanes leaves words) (plain_casts lanes leaf plain)
    ∙ ap (λ l. word ∷ l) (plain_back lanes leaves words plain (omega (arith, same)))

pub plain_out : (lanes : List LaneSeen) (leaves words : List ℕ) → ArePlain lanes → length words ≡ length leaves → taken_out lanes leaves words ≡ words
plain_out lanes [] [] plain same = refl
plain_out lanes [] (word ∷ words) plain same = absurd (omega (arith, same))
plain_out lanes (leaf ∷ leaves) [] plain same = refl
plain_out lanes (leaf ∷ leaves) (word ∷ words) plain same =
    ap (λ casts. outwards casts word ∷ taken_out lanes leaves words) (plain_casts lanes leaf plain)
    ∙ ap (λ l. word ∷ l) (plain_out lanes leaves words plain (omega (arith, same)))
