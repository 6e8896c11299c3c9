-- Sessions of a list that are worked one after another.
use Rattle.std.proofs.Common.{◌≡◌, ◌∙◌, ℕ, zero, suc, ◌<◌, List, [], ◌∷◌, ◌++◌, length, map, take, drop, get_or, refl, sym, ap, subst, arith, append-nil}
use Rattle.std.proofs.Math.Seq.{take-length, drop-length}
use Rattle.std.specs.List.{AllByRecursion, AllZip, slice_set}
use Rattle.session_runs.specs.Session.{SessionSeen}

module _ {B : Type 0} (v : B → SessionSeen) where
  -- one that isn't worked yet is as it was
  pub at_drop : (P : SessionSeen → Type 0) (k : ℕ) (old now : List B) (d : B) → length now ≡ length old → k < length now → drop k now ≡ drop k old → AllByRecursion P (map v old) → P (v (get_or now k d))
  at_drop P k [] [] d e low rest all = absurd (omega (arith, low))
  at_drop P k [] (n ∷ ns) d e low rest all = absurd (omega (arith, e))
  at_drop P k (o ∷ os) [] d e low rest all = absurd (omega (arith, e))
  at_drop P zero (o ∷ os) (n ∷ ns) d e low rest all = let same : n ≡ o = cc in subst (λ y. P (v y)) (sym same) all.0
  at_drop P (suc k) (o ∷ os) (n ∷ ns) d e low rest all = at_drop P k os ns d (omega (arith, e)) (omega (arith, low)) rest all.1

  -- one more is worked
  pub zip_more : (R : SessionSeen → SessionSeen → Type 0) (k : ℕ) (old now : List B) (x d : B) → length now ≡ length old → k < length now → AllZip R (map v (take k old)) (map v (take k now)) → drop k now ≡ drop k old → R (v (get_or now k d)) (v x)
      → AllZip R (map v (take (suc k) old)) (map v (take (suc k) (slice_set now k x)))
  zip_more R k [] [] x d e low zip rest is = absurd (omega (arith, low))
  zip_more R k [] (n ∷ ns) x d e low zip rest is = absurd (omega (arith, e))
  zip_more R k (o ∷ os) [] x d e low zip rest is = absurd (omega (arith, e))
  zip_more R zero (o ∷ os) (n ∷ ns) x d e low zip rest is = let same : n ≡ o = cc in (subst (λ y. R (v y) (v x)) same is, tt)
  zip_more R (suc k) (o ∷ os) (n ∷ ns) x d e low zip rest is = (zip.0, zip_more R k os ns x d (omega (arith, e)) (omega (arith, low)) zip.1 rest is)

-- and the others are as they were
pub rest_more : {B : Type 0} (k : ℕ) (old now : List B) (x : B) → length now ≡ length old → drop k now ≡ drop k old → drop (suc k) (slice_set now k x) ≡ drop (suc k) old
rest_more k [] [] x e rest = refl
rest_more k [] (n ∷ ns) x e rest = absurd (omega (arith, e))
rest_more k (o ∷ os) [] x e rest = absurd (omega (arith, e))
rest_more zero (o ∷ os) (n ∷ ns) x e rest = let same : ns ≡ os = cc in same
rest_more (suc k) (o ∷ os) (n ∷ ns) x e rest = rest_more k os ns x (omega (arith, e)) rest

-- the items of a list after they were lent as a slice
pub lent : {A : Type 0} (n : ℕ) (items new : List A) → length items ≡ n → length new ≡ length items → take n (new ++ drop (length new) items) ≡ new
lent n items new a b =
    let none : drop (length new) items ≡ drop (length items) items = ap (λ k. drop k items) b in
    ap (λ l. take n (new ++ l)) (none ∙ drop-length items) ∙ (ap (take n) (append-nil new) ∙ (ap (λ k. take k new) (sym (b ∙ a)) ∙ take-length new))

-- what holds of all rows holds of the row at a place
pub row_at : {A : Type 0} (f : A → List SessionSeen) (P : SessionSeen → Type 0) (xs : List A) (k : ℕ) (d : A) → k < length xs → AllByRecursion (AllByRecursion P) (map f xs) → AllByRecursion P (f (get_or xs k d))
row_at f P [] k d low all = absurd (omega (arith, low))
row_at f P (x ∷ xs) zero d low all = all.0
row_at f P (x ∷ xs) (suc k) d low all = row_at f P xs k d (omega (arith, low)) all.1

pub row_all_at : {A : Type 0} (f : A → List SessionSeen) (P : SessionSeen → Type 0) (xs ys : List A) → ys ≡ xs → AllByRecursion (AllByRecursion P) (map f xs) → (k : ℕ) (d : A) → k < length ys → AllByRecursion P (f (get_or ys k d))
row_all_at f P xs ys same all k d low = row_at f P ys k d low (subst (λ zs. AllByRecursion (AllByRecursion P) (map f zs)) (sym same) all)

-- what holds at each place of two parts holds at each place of both together
pub both_parts : {A : Type 0} (R : A → A → Type 0) (xs ys xs' ys' : List A) → length xs' ≡ length xs → ((i : ℕ) (d : A) → i < length xs → R (get_or xs i d) (get_or xs' i d)) → ((i : ℕ) (d : A) → i < length ys → R (get_or ys i d) (get_or ys' i d))
    → (i : ℕ) (d : A) → i < length (xs ++ ys) → R (get_or (xs ++ ys) i d) (get_or (xs' ++ ys') i d)
both_parts R [] ys [] ys' e first others i d low = others i d low
both_parts R [] ys (x' ∷ xs') ys' e first others i d low = absurd (omega (arith, e))
both_parts R (x ∷ xs) ys [] ys' e first others i d low = absurd (omega (arith, e))
both_parts R (x ∷ xs) ys (x' ∷ xs') ys' e first others zero d low = first 0 d (omega arith)
both_parts R (x ∷ xs) ys (x' ∷ xs') ys' e first others (suc i) d low = both_parts R xs ys xs' ys' (omega (arith, e)) (λ j d small. first (suc j) d (omega (arith, small))) others i d (omega (arith, low))

pub both_at : {A : Type 0} (whole xs ys xs' ys' : List A) (R : A → A → Type 0) → whole ≡ xs ++ ys → length xs' ≡ length xs → ((i : ℕ) (d : A) → i < length xs → R (get_or xs i d) (get_or xs' i d)) → ((i : ℕ) (d : A) → i < length ys → R (get_or ys i d) (get_or ys' i d))
    → (i : ℕ) (d : A) → i < length whole → R (get_or whole i d) (get_or (xs' ++ ys') i d)
both_at {A} whole xs ys xs' ys' R is e first others = subst (λ zs. (i : ℕ) (d : A) → i < length zs → R (get_or zs i d) (get_or (xs' ++ ys') i d)) (sym is) (both_parts R xs ys xs' ys' e first others)
