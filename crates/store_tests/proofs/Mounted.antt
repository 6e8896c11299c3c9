-- Mounts of a test keep the rules on mounts.
use Rattle.std.proofs.Common.{◌≡◌, ◌<◌, ◌≤◌, ◌∙◌, ℕ, zero, suc, List, [], ◌∷◌, length, codes, None, refl, sym, ap, subst, arith}
use Rattle.std.specs.Prelude.{All}
use Rattle.std.specs.List.{IsDistinct}
use Rattle.std.specs.Str.{bytes_eq, IsCharBoundary}
use Rattle.kv_face.specs.Store.{keys_of}
use Rattle.kv_face.specs.declared.change.Change.{Change}
use Rattle.kv_mounts.specs.Parts.{Part, names_of, IsMountName, AreMounts}
use Rattle.store_tests.specs.Three.{three_names}

-- one change has one key
pub one_distinct : (cs : List Change) (c : Change) → cs ≡ c ∷ [] → IsDistinct bytes_eq (keys_of cs)
unfolding IsDistinct
one_distinct cs c is = subst (λ l. IsDistinct bytes_eq (keys_of l)) (sym is) (tt, tt)

all_two : {X : Type 0} (P : X → Type 0) (a b : X) → P a → P b → All P (a ∷ b ∷ [])
all_two P a b p q zero d h = p
all_two P a b p q (suc zero) d h = q
all_two P a b p q (suc (suc k)) d h = absurd (omega (arith, h))

all_three : {X : Type 0} (P : X → Type 0) (a b c : X) → P a → P b → P c → All P (a ∷ b ∷ c ∷ [])
all_three P a b c p q r zero d h = p
all_three P a b c p q r (suc zero) d h = q
all_three P a b c p q r (suc (suc zero)) d h = r
all_three P a b c p q r (suc (suc (suc k))) d h = absurd (omega (arith, h))

name_a : IsMountName (codes "a")
name_a = record { some = omega arith; few = omega arith; plain = refl; free = λ e. absurd (let no_such : ⊥ = cc in no_such) }

name_b : IsMountName (codes "b")
name_b = record { some = omega arith; few = omega arith; plain = refl; free = λ e. absurd (let no_such : ⊥ = cc in no_such) }

name_c : IsMountName (codes "c")
name_c = record { some = omega arith; few = omega arith; plain = refl; free = λ e. absurd (let no_such : ⊥ = cc in no_such) }

distinct_three : IsDistinct bytes_eq three_names
unfolding IsDistinct
distinct_three = ((refl, (refl, tt)), ((refl, tt), (tt, tt)))

distinct_two : IsDistinct bytes_eq (codes "a" ∷ codes "b" ∷ [])
unfolding IsDistinct
distinct_two = ((refl, tt), (tt, tt))

-- the names of three mounts
pub names_three : (parts : List Part) (a b c : Part) → parts ≡ a ∷ b ∷ c ∷ [] → a.name ≡ codes "a" → b.name ≡ codes "b" → c.name ≡ codes "c" → names_of parts ≡ three_names
names_three parts a b c is p q r = ap names_of is ∙ (λ i. p i ∷ q i ∷ r i ∷ [])

pub mounts_three : (parts : List Part) (a b c : Part) → parts ≡ a ∷ b ∷ c ∷ [] → a.name ≡ codes "a" → b.name ≡ codes "b" → c.name ≡ codes "c" → a.names ≡ None → b.names ≡ None → c.names ≡ None → AreMounts parts
mounts_three parts a b c is p q r u v w =
    let names = names_three parts a b c is p q r in
    record {
      some = subst (λ ps. 0 < length ps) (sym is) (omega arith);
      few = subst (λ ps. length ps ≤ 16) (sym is) (omega arith);
      named = subst (λ ns. All IsMountName ns) (sym names) (all_three IsMountName (codes "a") (codes "b") (codes "c") name_a name_b name_c);
      distinct = subst (λ ns. IsDistinct bytes_eq ns) (sym names) distinct_three;
      every = subst (λ ps. All (λ (m : Part). m.names ≡ None) ps) (sym is) (all_three (λ (m : Part). m.names ≡ None) a b c u v w);
    }

pub mounts_two : (parts : List Part) (a b : Part) → parts ≡ a ∷ b ∷ [] → a.name ≡ codes "a" → b.name ≡ codes "b" → a.names ≡ None → b.names ≡ None → AreMounts parts
mounts_two parts a b is p q u v =
    let names : names_of parts ≡ codes "a" ∷ codes "b" ∷ [] = ap names_of is ∙ (λ i. p i ∷ q i ∷ []) in
    record {
      some = subst (λ ps. 0 < length ps) (sym is) (omega arith);
      few = subst (λ ps. length ps ≤ 16) (sym is) (omega arith);
      named = subst (λ ns. All IsMountName ns) (sym names) (all_two IsMountName (codes "a") (codes "b") name_a name_b);
      distinct = subst (λ ns. IsDistinct bytes_eq ns) (sym names) distinct_two;
      every = subst (λ ps. All (λ (m : Part). m.names ≡ None) ps) (sym is) (all_two (λ (m : Part). m.names ≡ None) a b u v);
    }

-- the keys of two changes begin at a boundary
pub boundaries : (cs : List Change) (a b : Change) (one other : List ℕ) → cs ≡ a ∷ b ∷ [] → a.key ≡ one → b.key ≡ other → IsCharBoundary one 0 → IsCharBoundary other 0 → All (λ (c : Change). IsCharBoundary c.key 0) cs
boundaries cs a b one other is p q u v =
    subst (λ l. All (λ (c : Change). IsCharBoundary c.key 0) l) (sym is)
    (all_two (λ (c : Change). IsCharBoundary c.key 0) a b (subst (λ k. IsCharBoundary k 0) (sym p) u) (subst (λ k. IsCharBoundary k 0) (sym q) v))
