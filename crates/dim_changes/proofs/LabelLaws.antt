-- Labels that are taken from those of a domain.
use Rattle.std.proofs.Common.{◌≡◌, ◌≢◌, ◌∙◌, zero, suc, ℕ, ◌<◌, ◌==◌, ◌&&◌, ◌||◌, nat_le, nat_lt, nat_eq, Bool, true, false, not, List, [], ◌∷◌, length, get_or, refl, sym, arith}
use Rattle.std.proofs.lemmas.Bool.Decides.{nat_tests, Decides-eqb}
use Rattle.std.proofs.lemmas.Slice.Eq.{slice_eq-Decides}
use Rattle.std.proofs.lemmas.List.Folds.{list_any_at, list_any_none}
use Rattle.std.specs.Bool.{Decides}
use Rattle.std.specs.List.{list_any}
use Rattle.std.specs.Cmp.Lexicographic.{pointwise}
use Rattle.transform_composition.specs.Maps.{are_labels}
use Rattle.cells.proofs.Laws.{both}

same_text : (a b : List ℕ) → Decides (pointwise nat_eq a b) (a ≡ b)
same_text a b = slice_eq-Decides Decides-eqb a b (pointwise nat_eq a b) refl

-- each label is short, and one that isn't empty doesn't come again
pub record AreLabels (labels : List (List ℕ)) : Type 0 where
  pub short : (i : ℕ) → i < length labels → nat_le (length (get_or labels i [])) 64 ≡ true
  pub differ : (i j : ℕ) → i < j → j < length labels → get_or labels i [] ≢ [] → get_or labels j [] ≢ get_or labels i []

none_empty : (x : List ℕ) → x ≢ [] → (length x == 0) ≡ false
none_empty [] h = absurd (h refl)
none_empty (a ∷ x) h = grind (arith, nat_tests)

is_empty : (x : List ℕ) → (length x == 0) ≡ true → x ≡ []
is_empty [] e = refl
is_empty (a ∷ x) e = absurd (grind (arith, nat_tests, e))

pub AreLabels-from : (labels : List (List ℕ)) → are_labels labels ≡ true → AreLabels labels
AreLabels-from [] e = record { short = λ i h. absurd (omega (arith, h)); differ = λ i j h l. absurd (omega (arith, l)) }
AreLabels-from (x ∷ xs) e =
    let p = both (nat_le (length x) 64 && (length x == 0 || not (list_any (λ other. pointwise nat_eq other x) xs))) (are_labels xs) e in
    let q = both (nat_le (length x) 64) (length x == 0 || not (list_any (λ other. pointwise nat_eq other x) xs)) p.0 in
    let rest = AreLabels-from xs p.1 in
    record {
      short = short q.0 rest;
      differ = differ q.1 rest;
    }
  where
    short : nat_le (length x) 64 ≡ true → AreLabels xs → (i : ℕ) → i < length (x ∷ xs) → nat_le (length (get_or (x ∷ xs) i [])) 64 ≡ true
    short h rest zero l = h
    short h rest (suc i) l = rest.short i (omega (arith, l))

    once : (j : ℕ) → j < length xs → (b : Bool) → (length x == 0) ≡ b → b ≡ false → (b || not (list_any (λ other. pointwise nat_eq other x) xs)) ≡ true
        → get_or xs j [] ≢ x
    once j l b f g h same =
        let hit = list_any_at (λ other. pointwise nat_eq other x) xs j [] l ((same_text (get_or xs j []) x).1 same) in
        cc

    differ : (length x == 0 || not (list_any (λ other. pointwise nat_eq other x) xs)) ≡ true → AreLabels xs
        → (i j : ℕ) → i < j → j < length (x ∷ xs) → get_or (x ∷ xs) i [] ≢ [] → get_or (x ∷ xs) j [] ≢ get_or (x ∷ xs) i []
    differ h rest zero zero a l n = absurd (omega (arith, a))
    differ h rest zero (suc j) a l n = once j (omega (arith, l)) (length x == 0) refl (none_empty x n) h
    differ h rest (suc i) zero a l n = absurd (omega (arith, a))
    differ h rest (suc i) (suc j) a l n = rest.differ i j (omega (arith, a)) (omega (arith, l)) n

default : (ys : List (List ℕ)) (k : ℕ) (a b : List ℕ) → k < length ys → get_or ys k a ≡ get_or ys k b
default [] k a b h = absurd (omega (arith, h))
default (y ∷ ys) zero a b h = refl
default (y ∷ ys) (suc k) a b h = default ys k a b (omega (arith, h))

pub are_labels-true : (labels : List (List ℕ)) → AreLabels labels → are_labels labels ≡ true
are_labels-true [] p = refl
are_labels-true (x ∷ xs) p =
    let rest : AreLabels xs = record { short = λ i l. p.short (suc i) (omega (arith, l)); differ = λ i j a l n. p.differ (suc i) (suc j) (omega (arith, a)) (omega (arith, l)) n } in
    let s : nat_le (length x) 64 ≡ true = p.short 0 (omega arith) in
    rw (s, are_labels-true xs rest) (once (length x == 0) refl)
  where
    apart : (length x == 0) ≡ false → (j : ℕ) (d : List ℕ) → j < length xs → pointwise nat_eq (get_or xs j d) x ≡ false
    apart e j d l = told (pointwise nat_eq (get_or xs j d) x) refl
      where
        told : (b : Bool) → pointwise nat_eq (get_or xs j d) x ≡ b → b ≡ false
        told false f = refl
        told true f =
            let same : get_or xs j d ≡ x = (same_text (get_or xs j d) x).0 f in
            let there : get_or xs j d ≡ get_or xs j [] = default xs j d [] l in
            absurd (p.differ 0 (suc j) (omega arith) (omega (arith, l)) (λ n. let z : (length x == 0) ≡ true = rw n refl in cc) (sym there ∙ same))

    once : (b : Bool) → (length x == 0) ≡ b → ((b || not (list_any (λ other. pointwise nat_eq other x) xs)) && true) ≡ true
    once true e = refl
    once false e = let none = list_any_none (λ other. pointwise nat_eq other x) xs (apart e) in rw none refl

-- labels of which each is none, or that of another spot, no spot twice
pub AreLabels-taken : (olds news : List (List ℕ)) (from : ℕ → ℕ) → AreLabels olds
    → ((i : ℕ) → i < length news → get_or news i [] ≢ [] → (from i < length olds) × (get_or news i [] ≡ get_or olds (from i) []))
    → ((i j : ℕ) → i < length news → j < length news → from i ≡ from j → get_or news i [] ≢ [] → get_or news j [] ≢ [] → i ≡ j)
    → AreLabels news
AreLabels-taken olds news from p h once = record { short = short; differ = differ }
  where
    cases : (x : List ℕ) → ((x ≡ []) → nat_le (length x) 64 ≡ true) → ((x ≢ []) → nat_le (length x) 64 ≡ true) → nat_le (length x) 64 ≡ true
    cases [] e n = refl
    cases (a ∷ x) e n = n (λ q. cc)

    short : (i : ℕ) → i < length news → nat_le (length (get_or news i [])) 64 ≡ true
    short i l = cases (get_or news i []) (λ e. rw e refl) (λ n. let t = h i l n in rw t.1 (p.short (from i) t.0))

    apart : (i j a b : ℕ) → i < j → j < length news → get_or news i [] ≢ [] → get_or news j [] ≡ get_or news i []
        → from i ≡ a → from j ≡ b → a < length olds → b < length olds → get_or news i [] ≡ get_or olds a [] → get_or news j [] ≡ get_or olds b [] → ⊥
    apart i j a b less l n same fa fb la lb ea eb = told (nat_lt a b) (nat_lt b a) refl refl
      where
        told : (x y : Bool) → nat_lt a b ≡ x → nat_lt b a ≡ y → ⊥
        told true y e f =
            let h : a < b = grind (arith, nat_tests) in
            p.differ a b h lb (λ z. n (ea ∙ z)) (sym eb ∙ same ∙ ea)
        told false true e f =
            let h : b < a = grind (arith, nat_tests) in
            p.differ b a h la (λ z. n (sym same ∙ eb ∙ z)) (sym ea ∙ sym same ∙ eb)
        told false false e f =
            let h : a ≡ b = grind (arith, nat_tests) in
            let m : get_or news j [] ≢ [] = λ z. n (sym same ∙ z) in
            let one : i ≡ j = once i j (omega (arith, less, l)) l (fa ∙ h ∙ sym fb) n m in
            omega (arith, one, less)

    differ : (i j : ℕ) → i < j → j < length news → get_or news i [] ≢ [] → get_or news j [] ≢ get_or news i []
    differ i j a l n same =
        let m : get_or news j [] ≢ [] = λ e. n (sym same ∙ e) in
        let s = h i (omega (arith, a, l)) n in
        let t = h j l m in
        apart i j (from i) (from j) a l n same refl refl s.0 t.0 s.1 t.1
