-- The mounts of a program are mounts.
use Rattle.std.proofs.Common.{◌≡◌, zero, suc, [], ◌∷◌, codes, Bool, true, false, None, refl, arith}
use Rattle.std.specs.Prelude.{All}
use Rattle.std.specs.List.{IsDistinct}
use Rattle.std.specs.Str.{bytes_eq}
use Rattle.kv_mounts.specs.Parts.{Part, IsMountName, AreMounts}
use Rattle.script_runner.specs.Parts.{memory_part, file_part, parts_of}

all_one : {X : Type 0} (P : X → Type 0) (a : X) → P a → All P (a ∷ [])
all_one P a p zero d h = p
all_one P a p (suc k) d h = absurd (omega (arith, h))

all_two : {X : Type 0} (P : X → Type 0) (a b : X) → P a → P b → All P (a ∷ b ∷ [])
all_two P a b p q zero d h = p
all_two P a b p q (suc zero) d h = q
all_two P a b p q (suc (suc k)) d h = absurd (omega (arith, h))

name_memory : IsMountName (codes "memory")
name_memory = record { some = omega arith; few = omega arith; plain = refl; free = λ e. absurd (let no_such : ⊥ = cc in no_such) }

name_file : IsMountName (codes "file")
name_file = record { some = omega arith; few = omega arith; plain = refl; free = λ e. absurd (let no_such : ⊥ = cc in no_such) }

distinct_two : IsDistinct bytes_eq (codes "memory" ∷ codes "file" ∷ [])
unfolding IsDistinct
distinct_two = ((refl, tt), (tt, tt))

distinct_one : IsDistinct bytes_eq (codes "memory" ∷ [])
unfolding IsDistinct
distinct_one = (tt, tt)

-- with or without files
pub parts_are_mounts : (has_files : Bool) → AreMounts (parts_of has_files)
parts_are_mounts true = record {
  some = omega arith;
  few = omega arith;
  named = all_two IsMountName (codes "memory") (codes "file") name_memory name_file;
  distinct = distinct_two;
  every = all_two (λ (m : Part). m.names ≡ None) memory_part file_part refl refl;
}
parts_are_mounts false = record {
  some = omega arith;
  few = omega arith;
  named = all_one IsMountName (codes "memory") name_memory;
  distinct = distinct_one;
  every = all_one (λ (m : Part). m.names ≡ None) memory_part refl;
}
