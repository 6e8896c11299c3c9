-- What a table holds, key by key.
use Rattle.std.proofs.Common.{◌≡◌, ℕ, List, [], ◌∷◌, Bool, true, false, cond, Option, Some, refl, sym, ap, ◌∙◌, bytes_eq, nat_cmp, String, string_bytes}
use Rattle.std.specs.Cmp.Lexicographic.{slice_cmp}
use Rattle.std.specs.FinMap as finmap
use Rattle.std.specs.FinMap.{get-empty, same_map, nat_cmp-IsAntisymmetric, slice_cmp-IsAntisymmetric}
use Rattle.std.specs.declared.alloc.Global.{Global}
use Rattle.std.specs.Map.{lookup}
use Rattle.std.specs.String.{string_eq}
use Rattle.std.specs.HashMap.{HashMap, UpdatesBy, get_by_text}
use Rattle.std.proofs.lemmas.Cmp.{nat_list_cmp_total}
use Rattle.std.proofs.lemmas.Map.Text.{hash_map_updates_text}
use Rattle.std.proofs.lemmas.Slice.Eq.{bytes_eq-Decides}
use Rattle.kv_face.specs.Store.{Contents, put_bytes}
use Rattle.kv_face.specs.Table.{Entries, held_by}
use Rattle.kv_face.proofs.Changes.{get-put_bytes}

at_key : (es : Entries) (q : List ℕ) → finmap.get (held_by es) q ≡ lookup (λ (k : String Global). bytes_eq q (string_bytes k)) es
at_key [] q = get-empty (slice_cmp nat_cmp) q
at_key (e ∷ es) q = get-put_bytes (held_by es) (string_bytes e.0) (Some e.1) q ∙ ap (cond (bytes_eq q (string_bytes e.0)) (Some e.1)) (at_key es q)

-- what is held at a key is what a look-up finds
pub get-held_by : {S : Type 0} (m : HashMap (String Global) (List ℕ) S) (q : List ℕ) → finmap.get (held_by m.entries) q ≡ get_by_text m q
get-held_by m q = at_key m.entries q

-- two maps that answer alike are the same
same_contents : (m n : Contents) → ((q : List ℕ) → finmap.get m q ≡ finmap.get n q) → m ≡ n
same_contents m n is = same_map nat_list_cmp_total (slice_cmp-IsAntisymmetric nat_cmp-IsAntisymmetric) m n is

bytes_eq_comm : (xs ys : List ℕ) (a b : Bool) → bytes_eq xs ys ≡ a → bytes_eq ys xs ≡ b → a ≡ b
bytes_eq_comm xs ys true true p q = refl
bytes_eq_comm xs ys true false p q = sym ((bytes_eq-Decides ys xs).1 (sym ((bytes_eq-Decides xs ys).0 p))) ∙ q
bytes_eq_comm xs ys false true p q = sym p ∙ (bytes_eq-Decides xs ys).1 (sym ((bytes_eq-Decides ys xs).0 q))
bytes_eq_comm xs ys false false p q = refl

-- a test may be turned round
turned : (xs ys : List ℕ) → bytes_eq xs ys ≡ bytes_eq ys xs
turned xs ys = bytes_eq_comm xs ys _ _ refl refl

-- a table in which one key was put or removed holds what the map does after the same
pub updated : {S : Type 0} (m n : HashMap (String Global) (List ℕ) S) (key : List ℕ) (w : Option (List ℕ)) → UpdatesBy string_eq (λ (k : String Global). bytes_eq key (string_bytes k)) m n w
    → held_by n.entries ≡ put_bytes (held_by m.entries) key w
updated m n key w u = same_contents _ _ (λ q.
    get-held_by n q ∙ hash_map_updates_text key m n w u q
    ∙ ap (λ t. cond t w (get_by_text m q)) (turned key q) ∙ ap (cond (bytes_eq q key) w) (sym (get-held_by m q)) ∙ sym (get-put_bytes (held_by m.entries) key w q))
