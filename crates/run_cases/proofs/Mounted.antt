-- The mounts of a line keep the rules on mounts.
use Rattle.std.proofs.Common.{◌≡◌, ◌<◌, ◌≤◌, ◌∙◌, ℕ, zero, suc, List, [], ◌∷◌, length, codes, None, refl, sym, ap, subst, arith}
use Rattle.std.specs.Prelude.{All}
use Rattle.std.specs.List.{IsDistinct}
use Rattle.std.specs.Str.{bytes_eq}
use Rattle.kv_mounts.specs.Parts.{Part, names_of, IsMountName, AreMounts}

all_one : {X : Type 0} (P : X → Type 0) (a : X) → P a → All P (a ∷ [])
all_one P a p zero d h = p
all_one P a p (suc k) d h = absurd (omega (arith, h))

all_two : {X : Type 0} (P : X → Type 0) (a b : X) → P a → P b → All P (a ∷ b ∷ [])
all_two P a b p q zero d h = p
all_two P a b p q (suc zero) d h = q
all_two P a b p q (suc (suc k)) d h = absurd (omega (arith, h))

all_three : {X : Type 0} (P : X → Type 0) (a b c : X) → P a → P b → P c → All P (a ∷ b ∷ c ∷ [])
all_three P a b c p q r zero d h = p
all_three P a b c p q r (suc zero) d h = q
all_three P a b c p q r (suc (suc zero)) d h = r
all_three P a b c p q r (suc (suc (suc k))) d h = absurd (omega (arith, h))

name_memory : IsMountName (codes "memory")
name_memory = record { some = omega arith; few = omega arith; plain = refl; free = λ e. absurd (let no_such : ⊥ = cc in no_such) }

name_second : IsMountName (codes "second")
name_second = record { some = omega arith; few = omega arith; plain = refl; free = λ e. absurd (let no_such : ⊥ = cc in no_such) }

name_last : IsMountName (codes "last")
name_last = record { some = omega arith; few = omega arith; plain = refl; free = λ e. absurd (let no_such : ⊥ = cc in no_such) }

distinct_one : IsDistinct bytes_eq (codes "memory" ∷ [])
unfolding IsDistinct
distinct_one = (tt, tt)

distinct_two : IsDistinct bytes_eq (codes "memory" ∷ codes "second" ∷ [])
unfolding IsDistinct
distinct_two = ((refl, tt), (tt, tt))

distinct_three : IsDistinct bytes_eq (codes "memory" ∷ codes "second" ∷ codes "last" ∷ [])
unfolding IsDistinct
distinct_three = ((refl, (refl, tt)), ((refl, tt), (tt, tt)))

-- one mount
pub mounts_one : (parts : List Part) (a : Part) → parts ≡ a ∷ [] → a.name ≡ codes "memory" → a.names ≡ None → AreMounts parts
mounts_one parts a is p u =
    let names : names_of parts ≡ codes "memory" ∷ [] = ap names_of is ∙ (λ i. p i ∷ []) in
    record {
      some = subst (λ ps. 0 < length ps) (sym is) (omega arith);
      few = subst (λ ps. length ps ≤ 16) (sym is) (omega arith);
      named = subst (λ ns. All IsMountName ns) (sym names) (all_one IsMountName (codes "memory") name_memory);
      distinct = subst (λ ns. IsDistinct bytes_eq ns) (sym names) distinct_one;
      every = subst (λ ps. All (λ (m : Part). m.names ≡ None) ps) (sym is) (all_one (λ (m : Part). m.names ≡ None) a u);
    }

-- two
pub mounts_two : (parts : List Part) (a b : Part) → parts ≡ a ∷ b ∷ [] → a.name ≡ codes "memory" → b.name ≡ codes "second" → a.names ≡ None → b.names ≡ None → AreMounts parts
mounts_two parts a b is p q u v =
    let names : names_of parts ≡ codes "memory" ∷ codes "second" ∷ [] = ap names_of is ∙ (λ i. p i ∷ q i ∷ []) in
    record {
      some = subst (λ ps. 0 < length ps) (sym is) (omega arith);
      few = subst (λ ps. length ps ≤ 16) (sym is) (omega arith);
      named = subst (λ ns. All IsMountName ns) (sym names) (all_two IsMountName (codes "memory") (codes "second") name_memory name_second);
      distinct = subst (λ ns. IsDistinct bytes_eq ns) (sym names) distinct_two;
      every = subst (λ ps. All (λ (m : Part). m.names ≡ None) ps) (sym is) (all_two (λ (m : Part). m.names ≡ None) a b u v);
    }

-- three
pub mounts_three : (parts : List Part) (a b c : Part) → parts ≡ a ∷ b ∷ c ∷ [] → a.name ≡ codes "memory" → b.name ≡ codes "second" → c.name ≡ codes "last" → a.names ≡ None → b.names ≡ None → c.names ≡ None → AreMounts parts
mounts_three parts a b c is p q r u v w =
    let names : names_of parts ≡ codes "memory" ∷ codes "second" ∷ codes "last" ∷ [] = ap names_of is ∙ (λ i. p i ∷ q i ∷ r i ∷ []) in
    record {
      some = subst (λ ps. 0 < length ps) (sym is) (omega arith);
      few = subst (λ ps. length ps ≤ 16) (sym is) (omega arith);
      named = subst (λ ns. All IsMountName ns) (sym names) (all_three IsMountName (codes "memory") (codes "second") (codes "last") name_memory name_second name_last);
      distinct = subst (λ ns. IsDistinct bytes_eq ns) (sym names) distinct_three;
      every = subst (λ ps. All (λ (m : Part). m.names ≡ None) ps) (sym is) (all_three (λ (m : Part). m.names ≡ None) a b c u v w);
    }
