-- The mount of a test keeps the rules on mounts.
use Rattle.std.proofs.Common.{◌≡◌, ◌<◌, ◌≤◌, ◌∙◌, ℕ, zero, suc, List, [], ◌∷◌, length, codes, None, refl, sym, ap, subst, arith}
use Rattle.std.specs.Prelude.{All}
use Rattle.std.specs.List.{IsDistinct}
use Rattle.std.specs.Str.{bytes_eq}
use Rattle.kv_mounts.specs.Parts.{Part, names_of, IsMountName, AreMounts}

all_one : {X : Type 0} (P : X → Type 0) (a : X) → P a → All P (a ∷ [])
all_one P a p zero d h = p
all_one P a p (suc k) d h = absurd (omega (arith, h))

name_memory : IsMountName (codes "memory")
name_memory = record { some = omega arith; few = omega arith; plain = refl; free = λ e. absurd (let no_such : ⊥ = cc in no_such) }

distinct_one : IsDistinct bytes_eq (codes "memory" ∷ [])
unfolding IsDistinct
distinct_one = (tt, tt)

pub mounts_one : (parts : List Part) (a : Part) → parts ≡ a ∷ [] → a.name ≡ codes "memory" → a.names ≡ None → AreMounts parts
mounts_one parts a is p u =
    let names : names_of parts ≡ codes "memory" ∷ [] = ap names_of is ∙ (λ i. p i ∷ []) in
    record {
      some = subst (λ ps. 0 < length ps) (sym is) (omega arith);
      few = subst (λ ps. length ps ≤ 16) (sym is) (omega arith);
      named = subst (λ ns. All IsMountName ns) (sym names) (all_one IsMountName (codes "memory") name_memory);
      distinct = subst (λ ns. IsDistinct bytes_eq ns) (sym names) distinct_one;
      every = subst (λ ps. All (λ (m : Part). m.names ≡ None) ps) (sym is) (all_one (λ (m : Part). m.names ≡ None) a u);
    }
