-- What a map has after changes, and which changes go together.
use Rattle.std.proofs.Common.{◌≡◌, ℕ, ◌<◌, List, [], ◌∷◌, length, drop, Bool, true, false, ◌||◌, cond, Option, Some, None, refl, sym, ap, ◌∙◌, arith, bytes_eq}
use Rattle.std.specs.List.{list_all, starts_with}
use Rattle.std.specs.Prelude.{nat_eq, if◌then◌else◌}
use Rattle.std.proofs.lemmas.Bool.Decides.{nat_tests}
use Rattle.std.specs.FinMap as finmap
use Rattle.std.specs.FinMap.{get-insert, get-remove}
use Rattle.std.proofs.lemmas.Cmp.{nat_list_cmp_total}
use Rattle.std.proofs.lemmas.Map.Text.{is_eq-slice_cmp}
use Rattle.kv_face.specs.Store.{Contents, put_bytes, are_together}
use Rattle.kv_face.specs.declared.change.Change.{Change}

-- what a map has at a key after one change
pub get-put_bytes : (m : Contents) (k : List ℕ) (b : Option (List ℕ)) (q : List ℕ) → finmap.get (put_bytes m k b) q ≡ cond (bytes_eq q k) b (finmap.get m q)
get-put_bytes m k None q = get-remove nat_list_cmp_total m k q ∙ ap (λ t. cond t None (finmap.get m q)) (is_eq-slice_cmp q k)
get-put_bytes m k (Some b) q = get-insert nat_list_cmp_total m k b q ∙ ap (λ t. cond t (Some b) (finmap.get m q)) (is_eq-slice_cmp q k)

all_pass : (cs : List Change) (n : ℕ) → list_all (λ (c : Change). starts_with nat_eq (drop n c.key) []) cs ≡ true
all_pass [] n = refl
all_pass (c ∷ cs) n = all_pass cs n

or_true : (a b : Bool) → b ≡ true → (a || (b || false)) ≡ true
or_true true b e = refl
or_true false true e = refl
or_true false false e = e

-- where the empty prefix is one, all changes go together
pub together_of_empty : (cs : List Change) (n : ℕ) → are_together ([] ∷ []) cs n ≡ true
together_of_empty cs n = or_true _ _ (all_pass cs n)

-- more than one change go together exactly where the store is atomic
pub together_of_flag : (atomic : Bool) (cs : List Change) (n : ℕ) → 1 < length cs → atomic ≡ are_together (if atomic then [] ∷ [] else []) cs n
together_of_flag true cs n h = sym (together_of_empty cs n)
together_of_flag false cs n h = grind (arith, nat_tests)
