-- Texts in byte order, and their beginnings.
use Rattle.std.proofs.Common.{◌≡◌, ℕ, ◌≤◌, ◌<◌, List, [], ◌∷◌, ◌++◌, length, Bool, true, false, cond, ◌⊎◌, inl, inr, refl, sym, ap, ◌∙◌, arith, eqb-true, eq-eqb, nat_lt}
use Rattle.std.specs.Prelude.{◌==◌, ◌&&◌}
use Rattle.std.specs.declared.cmp.Ordering.{Ordering}
use Rattle.std.specs.declared.cmp.Ordering.TheVariants.{Less, Equal, Greater}
use Rattle.std.specs.Ordering.{is_lt, nat_cmp, ordering_then, ordering_reverse}
use Rattle.std.specs.Cmp.Lexicographic.{slice_cmp}
use Rattle.std.proofs.lemmas.Bool.Decides.{nat_tests}
use Rattle.cells.proofs.Laws.{both}
use Rattle.locations.specs.Paths.{begins}

pub true_or_false : (b : Bool) → (b ≡ true) ⊎ (b ≡ false)
true_or_false true = inl refl
true_or_false false = inr refl

pub less_or_not : (a b : ℕ) → (a < b) ⊎ (b ≤ a)
less_or_not a b = elim (true_or_false (nat_lt a b)) [ inl t ↦ inl (grind (arith, nat_tests)) | inr f ↦ inr (grind (arith, nat_tests)) ]

abbrev pub cmp : List ℕ → List ℕ → Ordering
cmp = slice_cmp nat_cmp

pub same_byte : (x : ℕ) → nat_cmp x x ≡ Equal
same_byte x =
    let less : nat_lt x x ≡ false = grind (arith, nat_tests) in
    ap (λ b. cond b Less (cond (x == x) Equal Greater)) less ∙ ap (λ b. cond b Equal Greater) (eq-eqb x x refl)

-- a text isn't less than one that it begins with
pub behind : (us rs : List ℕ) → is_lt (cmp (us ++ rs) us) ≡ false
behind [] [] = refl
behind [] (r ∷ rs) = refl
behind (u ∷ us) rs = ap (λ o. is_lt (ordering_then o (cmp (us ++ rs) us))) (same_byte u) ∙ behind us rs

equal_bytes : (x y : ℕ) → nat_cmp x y ≡ Equal → x ≡ y
equal_bytes x y e =
    elim (true_or_false (nat_lt x y)) [
      | inl t ↦ let clash : Less ≡ Equal = sym (ap (λ b. cond b Less (cond (x == y) Equal Greater)) t) ∙ e in absurd (cc)
      | inr f ↦
          let rest : cond (x == y) Equal Greater ≡ Equal = sym (ap (λ b. cond b Less (cond (x == y) Equal Greater)) f) ∙ e in
          elim (true_or_false (x == y)) [
            | inl t ↦ eqb-true x y t
            | inr g ↦ let clash : Greater ≡ Equal = sym (ap (λ b. cond b Equal Greater) g) ∙ rest in absurd (cc)
          ]
    ]

then_equal : (o p : Ordering) → ordering_then o p ≡ Equal → (o ≡ Equal) × (p ≡ Equal)
then_equal Less p e = absurd (cc)
then_equal Equal p e = (refl, e)
then_equal Greater p e = absurd (cc)

pub equal_texts : (xs ys : List ℕ) → cmp xs ys ≡ Equal → xs ≡ ys
equal_texts [] [] e = refl
equal_texts [] (y ∷ ys) e = absurd (cc)
equal_texts (x ∷ xs) [] e = absurd (cc)
equal_texts (x ∷ xs) (y ∷ ys) e =
    let parts = then_equal (nat_cmp x y) (cmp xs ys) e in
    let head = equal_bytes x y parts.0 in
    let tail = equal_texts xs ys parts.1 in
    λ i. head i ∷ tail i

not_less : (o p : Ordering) → o ≡ ordering_reverse p → is_lt o ≡ false → is_lt p ≡ false → o ≡ Equal
not_less Less p e a b = absurd (cc)
not_less Equal p e a b = refl
not_less Greater Less e a b = absurd (cc)
not_less Greater Equal e a b = absurd (cc)
not_less Greater Greater e a b = absurd (cc)

-- beginnings
pub begins_split : (us vs : List ℕ) → begins us vs ≡ true → (rs : List ℕ) × (vs ≡ us ++ rs)
begins_split [] vs e = (vs, refl)
begins_split (u ∷ us) [] e = absurd (cc)
begins_split (u ∷ us) (v ∷ vs) e =
    let parts = both (u == v) (begins us vs) e in
    let head : u ≡ v = eqb-true u v parts.0 in
    let rest = begins_split us vs parts.1 in
    (rest.0, λ i. sym head i ∷ rest.1 i)

pub begins_whole : (us rs : List ℕ) → begins us (us ++ rs) ≡ true
begins_whole [] rs = refl
begins_whole (u ∷ us) rs = ap (λ b. b && begins us (us ++ rs)) (eq-eqb u u refl) ∙ begins_whole us rs

-- of two parts of one text, the longer begins with the shorter
pub longer : (us vs rs ss : List ℕ) → us ++ rs ≡ vs ++ ss → length us ≤ length vs → (more : List ℕ) × (vs ≡ us ++ more)
longer [] vs rs ss e le = (vs, refl)
longer (u ∷ us) [] rs ss e le = absurd (omega arith)
longer (u ∷ us) (v ∷ vs) rs ss e le =
    let head : u ≡ v = cc in
    let tail : us ++ rs ≡ vs ++ ss = cc in
    let rest = longer us vs rs ss tail (omega arith) in
    (rest.0, λ i. sym head i ∷ rest.1 i)
