-- Names of mounts are such that a session may ask for arrays below them.
use Rattle.std.proofs.Common.{◌≡◌, ◌≢◌, ℕ, Bool, true, false, List, [], ◌∷◌, ◌++◌, Some, refl, subst, arith, append_assoc}
use Rattle.std.specs.Prelude.{◌||◌, ◌&&◌, nat_eq}
use Rattle.std.proofs.lemmas.Bool.Decides.{nat_tests}
use Rattle.std.specs.List.{AllByRecursion, list_all, list_any, starts_with}
use Rattle.std.proofs.lemmas.List.Elements.{recursion_from_All}
use Rattle.cells.proofs.Laws.{both}
use Rattle.history.specs.Legal.{IsMount}
use Rattle.kv_mounts.specs.Parts.{Part, AreMounts, IsMountName, is_plain, names_of}
use Rattle.state_laws.specs.Agreement.{TakesMount}

no_slash : (b : ℕ) → is_plain b ≡ true → b ≢ 47
no_slash b plain is = let same : is_plain 47 ≡ true = subst (λ c. is_plain c ≡ true) is plain in absurd (let no_such : ⊥ = cc in no_such)

all_plain : (name : List ℕ) → list_all is_plain name ≡ true → AllByRecursion (λ b. b ≢ 47) name
all_plain [] plain = tt
all_plain (b ∷ name) plain = let parts = both (is_plain b) (list_all is_plain name) plain in (no_slash b parts.0, all_plain name parts.1)

valid : (names : List (List ℕ)) → AllByRecursion IsMountName names → AllByRecursion IsMount names
valid [] named = tt
valid (name ∷ names) named = let first = named.0 in (record { one_part = all_plain name first.plain; not_local = first.free }, valid names named.1)

-- they are valid
pub valid_names : (parts : List Part) → AreMounts parts → AllByRecursion IsMount (names_of parts)
valid_names parts are = valid (names_of parts) (recursion_from_All IsMountName (names_of parts) are.named)

itself : (n : ℕ) → nat_eq n n ≡ true
itself n = grind (arith, nat_tests)

both_true : (a b : Bool) → a ≡ true → b ≡ true → (a && b) ≡ true
both_true true b is so = so
both_true false b is so = absurd (let no_such : ⊥ = cc in no_such)

-- a key below a name begins with the name and a slash
begins-below : (name rest : List ℕ) → starts_with nat_eq (name ++ 47 ∷ rest) (name ++ 47 ∷ []) ≡ true
begins-below [] rest = both_true (nat_eq 47 47) true (itself 47) refl
begins-below (n ∷ name) rest = both_true (nat_eq n n) (starts_with nat_eq (name ++ 47 ∷ rest) (name ++ 47 ∷ [])) (itself n) (begins-below name rest)

-- a test that an item passes is passed by one of a longer list
later_any : {A : Type 0} (test : A → Bool) (x : A) (front rest : List A) → test x ≡ true → list_any test (front ++ x ∷ rest) ≡ true
later_any test x [] rest is = by (test x) is
  where
    by : (b : Bool) → b ≡ true → (b || list_any test rest) ≡ true
    by true so = refl
    by false so = absurd (let no_such : ⊥ = cc in no_such)
later_any test x (y ∷ front) rest is = by (test y) (later_any test x front rest is)
  where
    by : (b : Bool) → list_any test (front ++ x ∷ rest) ≡ true → (b || list_any test (front ++ x ∷ rest)) ≡ true
    by true so = refl
    by false so = so

taken_from : (front names : List (List ℕ)) → AllByRecursion (TakesMount (Some (front ++ names))) names
taken_from front [] = tt
taken_from front (name ∷ names) = (
  (λ rest. later_any (λ n. starts_with nat_eq (name ++ 47 ∷ rest) (n ++ 47 ∷ [])) name front names (begins-below name rest)),
  subst (λ all. AllByRecursion (TakesMount (Some all)) names) (append_assoc front (name ∷ []) names) (taken_from (front ++ name ∷ []) names),
)

-- the mounts as one store take every key below each
pub taken_names : (parts : List Part) → AllByRecursion (TakesMount (Some (names_of parts))) (names_of parts)
taken_names parts = taken_from [] (names_of parts)
