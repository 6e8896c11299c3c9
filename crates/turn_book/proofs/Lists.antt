-- Lists, as the rule speaks of them.
use Rattle.std.proofs.Common.{◌≡◌, ◌≢◌, ℕ, zero, suc, ◌+◌, ◌<◌, ◌⊎◌, eqb, ne_eqb, List, [], ◌∷◌, ◌++◌, length, get_or, set, refl, ap, sym, subst, ◌∙◌, ⊎_elim, inl, inr, arith, append_assoc, append-nil}
use Rattle.std.proofs.lemmas.List.Elements.{filter-append}
use Rattle.std.specs.Prelude.{HoldsAt}
use Rattle.std.specs.List.{AllByRecursion}
use mathlib.Core.Option.{some, some-injective, some-ne-none}
use mathlib.Core.List.{IsPrefix}
use lib.ListN.{get_elem?}
use Rattle.atomic_table.proofs.Lists.{at_set}
use Rattle.turn_book.specs.History.{entries_of}
use Rattle.turn_book.specs.Seats.{Among}

-- P holds of each element and its place, the first place being k
abbrev pub EachAt : {A : Type 0} → (ℕ → A → Type 0) → ℕ → List A → Type 0
EachAt P k [] = Unit {0}
EachAt P k (x ∷ xs) = P k x × EachAt P (suc k) xs

module _ {A : Type 0} where
  pub each_map : (P Q : A → Type 0) → ((x : A) → P x → Q x) → (xs : List A) → AllByRecursion P xs → AllByRecursion Q xs
  each_map P Q f [] p = tt
  each_map P Q f (x ∷ xs) p = (f x p.0, each_map P Q f xs p.1)

  pub each_both : (P Q R : A → Type 0) → ((x : A) → P x → Q x → R x) → (xs : List A) → AllByRecursion P xs → AllByRecursion Q xs → AllByRecursion R xs
  each_both P Q R f [] p q = tt
  each_both P Q R f (x ∷ xs) p q = (f x p.0 q.0, each_both P Q R f xs p.1 q.1)

  pub each_append : (P : A → Type 0) (xs ys : List A) → AllByRecursion P xs → AllByRecursion P ys → AllByRecursion P (xs ++ ys)
  each_append P [] ys p q = q
  each_append P (x ∷ xs) ys p q = (p.0, each_append P xs ys p.1 q)

  each_front : (P : A → Type 0) (xs ys : List A) → AllByRecursion P (xs ++ ys) → AllByRecursion P xs
  each_front P [] ys p = tt
  each_front P (x ∷ xs) ys p = (p.0, each_front P xs ys p.1)

  pub each_last : (P : A → Type 0) (xs : List A) (x : A) → AllByRecursion P (xs ++ x ∷ []) → P x
  each_last P [] x p = p.0
  each_last P (y ∷ ys) x p = each_last P ys x p.1

  -- what holds of all elements holds of the last one that was popped
  pub each_popped : (P : A → Type 0) (all xs ys done : List A) (x : A) → AllByRecursion P all → all ≡ xs ++ done → xs ≡ ys ++ x ∷ [] → P x
  each_popped P all xs ys done x p a b = each_last P ys x (subst (AllByRecursion P) b (each_front P xs done (subst (AllByRecursion P) a p)))

  each_at_end : (P : ℕ → A → Type 0) (k : ℕ) (xs : List A) (x : A) → EachAt P k xs → P (k + length xs) x → EachAt P k (xs ++ x ∷ [])
  each_at_end P k [] x p q = (subst (λ n. P n x) (let e : k + 0 ≡ k = omega arith in e) q, tt)
  each_at_end P k (y ∷ ys) x p q = (p.0, each_at_end P (suc k) ys x p.1 (subst (λ n. P n x) (let e : k + suc (length ys) ≡ suc k + length ys = omega arith in e) q))

  pub each_at_push : (P : ℕ → A → Type 0) (xs ys : List A) (x : A) (n : ℕ) → length xs ≡ n → EachAt P 0 xs → P n x → ys ≡ xs ++ x ∷ [] → EachAt P 0 ys
  each_at_push P xs ys x n len p q is = subst (EachAt P 0) (sym is) (each_at_end P 0 xs x p (subst (λ k. P k x) (let e : n ≡ 0 + length xs = omega arith in e) q))

  each_place : (P : ℕ → A → Type 0) (n : ℕ) (xs : List A) → EachAt P n xs → (k : ℕ) (d : A) → k < length xs → P (n + k) (get_or xs k d)
  each_place P n [] p k d l = absurd (omega arith)
  each_place P n (x ∷ xs) p zero d l = subst (λ m. P m x) (let e : n ≡ n + 0 = omega arith in e) p.0
  each_place P n (x ∷ xs) p (suc k) d l = subst (λ m. P m (get_or xs k d)) (let e : suc n + k ≡ n + suc k = omega arith in e) (each_place P (suc n) xs p.1 k d (omega arith))

  pub each_place_first : (P : ℕ → A → Type 0) (xs : List A) → EachAt P 0 xs → (k : ℕ) (d : A) → k < length xs → P k (get_or xs k d)
  each_place_first P xs p k d l = subst (λ m. P m (get_or xs k d)) (let e : 0 + k ≡ k = omega arith in e) (each_place P 0 xs p k d l)

  pub among_at : (P : A → Type 0) (xs : List A) (i : ℕ) → i < length xs → HoldsAt P xs i → Among P xs
  among_at P [] i l h = absurd (omega arith)
  among_at P (x ∷ xs) zero l h = inl (h x)
  among_at P (x ∷ xs) (suc i) l h = inr (among_at P xs i (omega arith) (λ d. h d))

  pub prefix_self : (xs : List A) → IsPrefix xs xs
  prefix_self [] = ([], refl)
  prefix_self (x ∷ xs) = (let r = prefix_self xs in r.0, ap (λ ys. x ∷ ys) (prefix_self xs).1)

  pub prefix_longer : (xs ys zs : List A) → IsPrefix xs ys → IsPrefix xs (ys ++ zs)
  prefix_longer xs ys zs p = (p.0 ++ zs, sym (append_assoc xs p.0 zs) ∙ ap (λ w. w ++ zs) p.1)

  pub set_only : (l : List A) (x : A) → length l ≡ 1 → set l 0 x ≡ x ∷ []
  set_only [] x e = absurd (omega arith)
  set_only (y ∷ []) x e = refl
  set_only (y ∷ z ∷ zs) x e = absurd (omega arith)

  pub set_at : (l : List A) (i : ℕ) (a b : A) → get_elem? l i ≡ some a → get_elem? (set l i b) i ≡ some b
  set_at [] i a b e = absurd (some-ne-none a (sym e))
  set_at (x ∷ xs) zero a b e = refl
  set_at (x ∷ xs) (suc i) a b e = set_at xs i a b e

  pub at_end : (l : List A) (a b : A) (j : ℕ) → get_elem? (l ++ a ∷ []) j ≡ some b → (get_elem? l j ≡ some b) ⊎ ((j ≡ length l) × (a ≡ b))
  at_end [] a b zero e = inr (refl, some-injective a b e)
  at_end [] a b (suc j) e = absurd (some-ne-none b (sym e))
  at_end (x ∷ xs) a b zero e = inl e
  at_end (x ∷ xs) a b (suc j) e = ⊎_elim (λ t. inl t) (λ t. inr (ap suc t.0, t.1)) (at_end xs a b j e)

  -- what is known of each view after one has changed
  pub views_stay : (K : ℕ → A → Type 0) (vs : List A) (me : ℕ) (w : A) → K me w → ((j : ℕ) (d : A) → j ≢ me → get_elem? vs j ≡ some d → K j d)
      → (j : ℕ) (d : A) → get_elem? (set vs me w) j ≡ some d → K j d
  views_stay K vs me w mine others j d e = ⊎_elim (λ (t : (j ≡ me) × (w ≡ d)). subst (λ (x : ℕ × A). K x.0 x.1) (λ i. (sym t.0 i, t.1 i)) mine)
      (λ (t : (j ≢ me) × (get_elem? vs j ≡ some d)). others j d t.0 t.1) (at_set vs me j w d e)

module _ {E : Type 0} (owner : E → ℕ) (p q : ℕ) where
  none_of : p ≢ q → (es : List E) → AllByRecursion (λ e. owner e ≡ q) es → entries_of owner p es ≡ []
  none_of ne [] own = refl
  none_of ne (e ∷ es) own = rw (ne_eqb (owner e) p (λ h. ne (sym h ∙ own.0))) (none_of ne es own.1)

  -- another owner's entries leave this one's as they are
  pub same_entries : p ≢ q → (past es : List E) → AllByRecursion (λ e. owner e ≡ q) es → entries_of owner p (past ++ es) ≡ entries_of owner p past
  same_entries ne past es own = filter-append (λ e. eqb (owner e) p) past es ∙ (ap (λ w. entries_of owner p past ++ w) (none_of ne es own) ∙ append-nil (entries_of owner p past))
