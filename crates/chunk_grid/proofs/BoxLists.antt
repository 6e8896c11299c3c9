-- Rising lists, keys that grow by a number, and filters.
use Rattle.std.proofs.Common.{◌≡◌, ◌∙◌, ℕ, zero, suc, ◌<◌, ◌≤◌, ◌==◌, Bool, true, false, cond, ◌&&◌, List, [], ◌∷◌, ◌++◌, length, map, get_or, refl, ap, arith, Ordering, Less, Equal, Greater, nat_cmp, is_lt}
use Rattle.std.specs.Prelude.{IsTrue, filter}
use Rattle.std.specs.List.{AllByRecursion, Contains}
use Rattle.std.specs.Str.{bytes_eq}
use Rattle.std.specs.Ordering.{ordering_then}
use Rattle.std.specs.Cmp.Lexicographic.{slice_cmp}
use Rattle.std.proofs.lemmas.Bool.{lt-ltb, le-ltb, eq-eqb}
use Rattle.std.proofs.lemmas.List.Elements.{All-from_recursion}
use Rattle.chunk_grid.specs.BoxSteps.{IsRisingBy}

pub all-append : {X : Type 0} (P : X → Type 0) (xs ys : List X) → AllByRecursion P xs → AllByRecursion P ys → AllByRecursion P (xs ++ ys)
all-append P [] ys p q = q
all-append P (x ∷ xs) ys p q = (p.0, all-append P xs ys p.1 q)

pub all-weaker : {X : Type 0} (P Q : X → Type 0) → ((x : X) → P x → Q x) → (xs : List X) → AllByRecursion P xs → AllByRecursion Q xs
all-weaker P Q h [] p = tt
all-weaker P Q h (x ∷ xs) p = (h x p.0, all-weaker P Q h xs p.1)

pub all-map : {X Y : Type 0} (P : Y → Type 0) (Q : X → Type 0) (f : X → Y) → ((x : X) → Q x → P (f x)) → (xs : List X) → AllByRecursion Q xs → AllByRecursion P (map f xs)
all-map P Q f h [] q = tt
all-map P Q f h (x ∷ xs) q = (h x q.0, all-map P Q f h xs q.1)

pub rising-append : {X : Type 0} (R : X → X → Type 0) (xs ys : List X) → IsRisingBy R xs → IsRisingBy R ys → AllByRecursion (λ x. AllByRecursion (R x) ys) xs → IsRisingBy R (xs ++ ys)
rising-append R [] ys p q h = q
rising-append R (x ∷ xs) ys p q h = (all-append (R x) xs ys p.0 h.0, rising-append R xs ys p.1 q h.1)

pub rising-map : {X Y : Type 0} (R : X → X → Type 0) (S : Y → Y → Type 0) (f : X → Y) → ((x y : X) → R x y → S (f x) (f y)) → (xs : List X) → IsRisingBy R xs → IsRisingBy S (map f xs)
rising-map R S f h [] p = tt
rising-map R S f h (x ∷ xs) p = (all-map (S (f x)) (R x) f (h x) xs p.0, rising-map R S f h xs p.1)

pub rising-at : {X : Type 0} (R : X → X → Type 0) (xs : List X) (i j : ℕ) (d : X) → IsRisingBy R xs → i < j → j < length xs → R (get_or xs i d) (get_or xs j d)
rising-at R [] i j d p l h = absurd (omega arith)
rising-at R (x ∷ xs) i zero d p l h = absurd (omega arith)
rising-at R (x ∷ xs) zero (suc j) d p l h = All-from_recursion (R x) xs p.0 j d (omega arith)
rising-at R (x ∷ xs) (suc i) (suc j) d p l h = rising-at R xs i j d p.1 (omega arith) (omega arith)

-- keys in lexical order, with a number more
pub before-same : (a : List ℕ) (c d : ℕ) → c < d → IsTrue (is_lt (slice_cmp nat_cmp (a ++ c ∷ []) (a ++ d ∷ [])))
before-same [] c d lt = rw (lt-ltb c d lt) refl
before-same (x ∷ a) c d lt = let same : x ≤ x = omega arith in rw (le-ltb x x same, eq-eqb x x refl) (before-same a c d lt)

later : (o p q : Ordering) → (is_lt p ≡ true → is_lt q ≡ true) → is_lt (ordering_then o p) ≡ true → is_lt (ordering_then o q) ≡ true
later Less p q f h = refl
later Equal p q f h = f h
later Greater p q f h = h

pub before-more : (a b : List ℕ) (c d : ℕ) → length a ≡ length b → IsTrue (is_lt (slice_cmp nat_cmp a b)) → IsTrue (is_lt (slice_cmp nat_cmp (a ++ c ∷ []) (b ++ d ∷ [])))
before-more [] [] c d e h = absurd (cc)
before-more [] (y ∷ b) c d e h = absurd (omega arith)
before-more (x ∷ a) [] c d e h = absurd (omega arith)
before-more (x ∷ a) (y ∷ b) c d e h =
    later (nat_cmp x y) (slice_cmp nat_cmp a b) (slice_cmp nat_cmp (a ++ c ∷ []) (b ++ d ∷ [])) (λ g. before-more a b c d (omega arith) g) h

last_test : (b : Bool) → (b && true) ≡ (true && b)
last_test true = refl
last_test false = refl

and-assoc : (a b c : Bool) → (a && (b && c)) ≡ ((a && b) && c)
and-assoc true b c = refl
and-assoc false b c = refl

pub same-more : (a b : List ℕ) (c d : ℕ) → length a ≡ length b → bytes_eq (a ++ c ∷ []) (b ++ d ∷ []) ≡ (bytes_eq a b && (c == d))
same-more [] [] c d e = last_test (c == d)
same-more [] (y ∷ b) c d e = absurd (omega arith)
same-more (x ∷ a) [] c d e = absurd (omega arith)
same-more (x ∷ a) (y ∷ b) c d e = ap (λ t. (x == y) && t) (same-more a b c d (omega arith)) ∙ and-assoc (x == y) (bytes_eq a b) (c == d)

-- filters
pub filter-both : {X : Type 0} (p q : X → Bool) (xs : List X) → filter q (filter p xs) ≡ filter (λ x. p x && q x) xs
filter-both p q [] = refl
filter-both {X} p q (x ∷ xs) = told (p x) (filter-both p q xs) where
  told : (b : Bool) → filter q (filter p xs) ≡ filter (λ x. p x && q x) xs
      → filter q (cond b (x ∷ filter p xs) (filter p xs)) ≡ cond (b && q x) (x ∷ filter (λ x. p x && q x) xs) (filter (λ x. p x && q x) xs)
  told true e = ap (λ (ys : List X). cond (q x) (x ∷ ys) ys) e
  told false e = e

kept : {X : Type 0} (b : Bool) (y : X) (zs : List X) (x : X) → Contains zs x → Contains (cond b (y ∷ zs) zs) x
kept true y zs x h = let lt = h.1 in (suc h.0, omega (arith, lt), h.2)
kept false y zs x h = h

in-filter : {X : Type 0} (p : X → Bool) (xs : List X) (x : X) (k : ℕ) → k < length xs → get_or xs k x ≡ x → p x ≡ true → Contains (filter p xs) x
in-filter p [] x k l is e = absurd (omega arith)
in-filter p (y ∷ ys) x zero l is e = rw (ap p is ∙ e) (0, omega arith, is)
in-filter p (y ∷ ys) x (suc k) l is e = kept (p y) y (filter p ys) x (in-filter p ys x k (omega arith) is e)

pub contains-filter : {X : Type 0} (p : X → Bool) (xs : List X) (x : X) → Contains xs x → p x ≡ true → Contains (filter p xs) x
contains-filter p xs x h e = in-filter p xs x h.0 h.1 h.2 e
