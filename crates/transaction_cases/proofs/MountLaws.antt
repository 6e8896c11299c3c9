-- The stores of a line, and their names.
use Rattle.std.proofs.Common.{◌≡◌, ◌≢◌, ◌⊎◌, inl, inr, ◌<◌, ◌≤◌, ◌∙◌, ℕ, zero, suc, List, [], ◌∷◌, ◌++◌, length, codes, true, false, Option, None, Some, refl, sym, ap, subst, arith, eq-eqb}
use Rattle.std.specs.Prelude.{All, ◌==◌}
use Rattle.std.specs.List.{IsDistinct}
use Rattle.std.specs.Str.{bytes_eq}
use Rattle.history.specs.Legal.{IsMount}
use Rattle.kv_face.specs.Store.{takes}
use Rattle.kv_mounts.specs.Parts.{Part, names_of, IsMountName, AreMounts}
use Rattle.state_laws.specs.Agreement.{TakesMount}
use Rattle.transaction_cases.specs.Mounted.{IsName, two_names}
use Rattle.transaction_cases.specs.Seats.{TakesBoth}

all_two : {X : Type 0} (P : X → Type 0) (a b : X) → P a → P b → All P (a ∷ b ∷ [])
all_two P a b p q zero d h = p
all_two P a b p q (suc zero) d h = q
all_two P a b p q (suc (suc k)) d h = absurd (omega (arith, h))

name_a : IsMountName (codes "a")
name_a = record { some = omega arith; few = omega arith; plain = refl; free = λ e. absurd (let no_such : ⊥ = cc in no_such) }

name_b : IsMountName (codes "b")
name_b = record { some = omega arith; few = omega arith; plain = refl; free = λ e. absurd (let no_such : ⊥ = cc in no_such) }

distinct_two : IsDistinct bytes_eq two_names
unfolding IsDistinct
distinct_two = ((refl, tt), (tt, tt))

pub names_two : (parts : List Part) (a b : Part) → parts ≡ a ∷ b ∷ [] → a.name ≡ codes "a" → b.name ≡ codes "b" → names_of parts ≡ two_names
names_two parts a b is p q = ap names_of is ∙ (λ i. p i ∷ q i ∷ [])

pub mounts_two : (parts : List Part) (a b : Part) → parts ≡ a ∷ b ∷ [] → a.name ≡ codes "a" → b.name ≡ codes "b" → a.names ≡ None → b.names ≡ None → AreMounts parts
mounts_two parts a b is p q u v =
    let names = names_two parts a b is p q in
    record {
      some = subst (λ ps. 0 < length ps) (sym is) (omega arith);
      few = subst (λ ps. length ps ≤ 16) (sym is) (omega arith);
      named = subst (λ ns. All IsMountName ns) (sym names) (all_two IsMountName (codes "a") (codes "b") name_a name_b);
      distinct = subst (λ ns. IsDistinct bytes_eq ns) (sym names) distinct_two;
      every = subst (λ ps. All (λ (m : Part). m.names ≡ None) ps) (sym is) (all_two (λ (m : Part). m.names ≡ None) a b u v);
    }

-- one store takes all keys, and two those of both
pub one_takes : (names : Option (List (List ℕ))) → names ≡ None → TakesBoth names
one_takes names none = subst TakesBoth (sym none) ((λ rest. refl), (λ rest. refl))

pub two_take : (names : Option (List (List ℕ))) → names ≡ Some two_names → TakesBoth names
two_take names is = subst TakesBoth (sym is) ((λ rest. refl), (λ rest. refl))

clear : (b : ℕ) → (b == 47) ≡ false → b ≢ 47
clear b e is = let clash : true ≡ false = sym (eq-eqb b 47 is) ∙ e in absurd (cc)

mount_a : IsMount (codes "a")
mount_a = record { one_part = (clear 97 refl, tt); not_local = λ e. absurd (let no_such : ⊥ = cc in no_such) }

mount_b : IsMount (codes "b")
mount_b = record { one_part = (clear 98 refl, tt); not_local = λ e. absurd (let no_such : ⊥ = cc in no_such) }

-- each of the two names is one that a store may have, and its keys are taken
pub named_mount : (name : List ℕ) → IsName name → IsMount name
named_mount name (inl a) = subst IsMount (sym a) mount_a
named_mount name (inr b) = subst IsMount (sym b) mount_b

pub named_taken : (names : Option (List (List ℕ))) (name : List ℕ) → TakesBoth names → IsName name → TakesMount names name
named_taken names name both (inl a) = subst (TakesMount names) (sym a) both.0
named_taken names name both (inr b) = subst (TakesMount names) (sym b) both.1
