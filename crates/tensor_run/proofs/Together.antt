-- A store with the empty prefix makes all changes together.
use Rattle.std.proofs.Common.{◌≡◌, List, [], ◌∷◌, length, drop, Bool, true, false, refl, ap, ◌∙◌}
use Rattle.std.specs.Prelude.{◌||◌, nat_eq, nat_le}
use Rattle.std.specs.List.{list_all, starts_with}
use Rattle.kv_face.specs.Store.{are_together}
use Rattle.kv_face.specs.declared.change.Change.{Change}

all_begin : (changes : List Change) → list_all (λ (c : Change). starts_with nat_eq (drop 0 c.key) []) changes ≡ true
all_begin [] = refl
all_begin (c ∷ changes) = all_begin changes

or_true : (b : Bool) → (b || (true || false)) ≡ true
or_true true = refl
or_true false = refl

pub all_together : (changes : List Change) → are_together ([] ∷ []) changes 0 ≡ true
all_together changes = ap (λ b. nat_le (length changes) 1 || (b || false)) (all_begin changes) ∙ or_true (nat_le (length changes) 1)
