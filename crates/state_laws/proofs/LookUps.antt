-- Look-ups of numbers by keys.
use Rattle.std.proofs.Common.{◌≡◌, ℕ, ◌<◌, arith, List, [], ◌∷◌, Bool, true, false, cond, Option, Some, None, inl, inr, refl, sym, ap, subst, ◌∙◌, eqb-true, String, string_bytes}
use Rattle.std.specs.Prelude.{◌==◌, IsSome, is_some}
use Rattle.std.specs.Str.{bytes_eq}
use Rattle.std.specs.String.{string_eq}
use Rattle.std.specs.Map.{lookup}
use Rattle.std.specs.HashMap.{HashMap, UpdatesBy, get_by_text}
use Rattle.std.specs.declared.alloc.Global.{Global}
use Rattle.std.specs.Ordering.{is_eq, nat_cmp}
use Rattle.std.specs.Cmp.Lexicographic.{slice_cmp, nat_list_cmp_total}
use Rattle.std.specs.FinMap as finmap
use Rattle.std.specs.FinMap.{get-empty, get-insert, get-remove, same_map, nat_cmp-IsAntisymmetric, slice_cmp-IsAntisymmetric}
use Rattle.std.proofs.lemmas.Slice.Eq.{bytes_eq-Decides}
use Rattle.std.proofs.lemmas.Map.Text.{is_eq-slice_cmp, hash_map_updates_text}
use Rattle.cells.proofs.Laws.{true_or_false}
use Rattle.history.specs.Generations.{Generations}
use Rattle.state_laws.specs.Numbers.{numbers_of, prepared_of, KeepsPrepared, IsPrepared}

abbrev pub Entries : Type 0
Entries = List (String Global × ℕ)

-- what an entry has under the bytes of a key
abbrev pub entry_at : List ℕ → Entries → Option ℕ
entry_at here es = lookup (λ (k : String Global). is_eq (slice_cmp nat_cmp here (string_bytes k))) es

-- it is what a look-up by the text finds
pub text_at : {S : Type 0} (m : HashMap (String Global) ℕ S) (q : List ℕ) → get_by_text m q ≡ entry_at q m.entries
text_at m q = sym (λ i. lookup (λ (k : String Global). is_eq-slice_cmp q (string_bytes k) i) m.entries)

-- an entry with 0 has no number yet
abbrev pub number_in : Option ℕ → Option ℕ
number_in None = None
number_in (Some n) = cond (n == 0) None (Some n)

number_either : (b : Bool) (o p : Option ℕ) → number_in (cond b o p) ≡ cond b (number_in o) (number_in p)
number_either true o p = refl
number_either false o p = refl

get_by_test : (q : List ℕ) (e : String Global × ℕ) (m : Generations) (zero : Bool)
    → finmap.get (cond zero (finmap.remove m (string_bytes e.0)) (finmap.insert m (string_bytes e.0) e.1)) q ≡ cond (is_eq (slice_cmp nat_cmp q (string_bytes e.0))) (cond zero None (Some e.1)) (finmap.get m q)
get_by_test q e m true = get-remove nat_list_cmp_total m (string_bytes e.0) q
get_by_test q e m false = get-insert nat_list_cmp_total m (string_bytes e.0) e.1 q

-- the number at a key is that of its entry
pub number_at : (q : List ℕ) (es : Entries) → finmap.get (numbers_of es) q ≡ number_in (entry_at q es)
number_at q [] = get-empty (slice_cmp nat_cmp) q
number_at q (e ∷ es) =
    get_by_test q e (numbers_of es) (e.1 == 0) ∙ ap (cond (is_eq (slice_cmp nat_cmp q (string_bytes e.0))) (number_in (Some e.1))) (number_at q es)
    ∙ sym (number_either (is_eq (slice_cmp nat_cmp q (string_bytes e.0))) (Some e.1) (entry_at q es))

-- and a key is prepared where it has an entry
pub prepared_at : (q : List ℕ) (es : Entries) → finmap.get (prepared_of es) q ≡ entry_at q es
prepared_at q [] = get-empty (slice_cmp nat_cmp) q
prepared_at q (e ∷ es) = get-insert nat_list_cmp_total (prepared_of es) (string_bytes e.0) e.1 q ∙ ap (cond (is_eq (slice_cmp nat_cmp q (string_bytes e.0))) (Some e.1)) (prepared_at q es)

-- a key that is prepared has an entry
pub none_is_none_at : (es : Entries) (q : List ℕ) → IsPrepared (prepared_of es) q → entry_at q es ≡ None → ⊥
none_is_none_at es q has none = no_some (entry_at q es) none (subst IsSome (prepared_at q es) has)
  where
    no_some : (o : Option ℕ) → o ≡ None → IsSome o → ⊥
    no_some None none some = absurd (cc)
    no_some (Some n) none some = absurd (cc)

-- a key of an entry is prepared
some_of : (o : Option ℕ) → is_some o ≡ true → IsSome o
some_of None is = absurd (cc)
some_of (Some n) is = refl

none_of : (o : Option ℕ) → is_some o ≡ false → o ≡ None
none_of None is = refl
none_of (Some n) is = absurd (cc)

pub is_prepared : (es : Entries) (q : List ℕ) → is_some (entry_at q es) ≡ true → IsPrepared (prepared_of es) q
is_prepared es q is = subst IsSome (sym (prepared_at q es)) (some_of (entry_at q es) is)

pub none_at : (es : Entries) (q : List ℕ) → is_some (entry_at q es) ≡ false → entry_at q es ≡ None
none_at es q is = none_of (entry_at q es) is

not_zero : (n : ℕ) → (n ≡ 0 → ⊥) → (n == 0) ≡ false
not_zero n other = elim (true_or_false (n == 0)) [ inl t ↦ absurd (other (eqb-true n 0 t)) | inr f ↦ f ]

pub number_here : (n : ℕ) → (n ≡ 0 → ⊥) → number_in (Some n) ≡ Some n
number_here n other = ap (λ b. cond b None (Some n)) (not_zero n other)

pub positive : (n : ℕ) → 0 < n → (n == 0) ≡ false
positive n lt = elim (true_or_false (n == 0)) [ inl t ↦ let zero = eqb-true n 0 t in absurd (omega (arith, zero)) | inr f ↦ f ]

-- a test may be turned round
bytes_eq_comm : (xs ys : List ℕ) (a b : Bool) → bytes_eq xs ys ≡ a → bytes_eq ys xs ≡ b → a ≡ b
bytes_eq_comm xs ys true true p q = refl
bytes_eq_comm xs ys true false p q = sym ((bytes_eq-Decides ys xs).1 (sym ((bytes_eq-Decides xs ys).0 p))) ∙ q
bytes_eq_comm xs ys false true p q = sym p ∙ (bytes_eq-Decides xs ys).1 (sym ((bytes_eq-Decides ys xs).0 q))
bytes_eq_comm xs ys false false p q = refl

same_numbers : (m n : Generations) → ((q : List ℕ) → finmap.get m q ≡ finmap.get n q) → m ≡ n
same_numbers m n is = same_map nat_list_cmp_total (slice_cmp-IsAntisymmetric nat_cmp-IsAntisymmetric) m n is

-- a number put at a key
module _ {S : Type 0} (was now : HashMap (String Global) ℕ S) (key : List ℕ) (n : ℕ) (updates : UpdatesBy string_eq (λ (k : String Global). bytes_eq key (string_bytes k)) was now (Some n)) where
  abbrev pub old : Entries
  old = was.entries

  abbrev pub new : Entries
  new = now.entries

  pub put_in : (other : List ℕ) → entry_at other new ≡ cond (bytes_eq other key) (Some n) (entry_at other old)
  put_in other =
      sym (text_at now other) ∙ hash_map_updates_text key was now (Some n) updates other
      ∙ ap (λ b. cond b (Some n) (get_by_text was other)) (bytes_eq_comm key other _ _ refl refl) ∙ ap (cond (bytes_eq other key) (Some n)) (text_at was other)

  some_either : (b : Bool) (o : Option ℕ) → IsSome o → IsSome (cond b (Some n) o)
  some_either true o some = refl
  some_either false o some = some

  -- leaves what is prepared, and prepares it
  pub put_prepared : KeepsPrepared (prepared_of old) (prepared_of new)
  put_prepared other has = subst IsSome (sym (prepared_at other new ∙ put_in other)) (some_either (bytes_eq other key) (entry_at other old) (subst IsSome (prepared_at other old) has))

  pub put_key : IsPrepared (prepared_of new) key
  put_key = subst IsSome (sym (prepared_at key new ∙ put_in key ∙ ap (λ b. cond b (Some n) (entry_at key old)) ((bytes_eq-Decides key key).1 refl))) refl

  -- and is the number of that key, where it is one
  pub put_number : (n == 0) ≡ false → numbers_of new ≡ finmap.insert (numbers_of old) key n
  put_number some =
      same_numbers (numbers_of new) (finmap.insert (numbers_of old) key n) (λ q.
      number_at q new ∙ ap number_in (put_in q) ∙ number_either (bytes_eq q key) (Some n) (entry_at q old)
      ∙ ap (λ b. cond b (number_in (Some n)) (number_in (entry_at q old))) (sym (is_eq-slice_cmp q key))
      ∙ ap (λ b. cond (is_eq (slice_cmp nat_cmp q key)) (cond b None (Some n)) (number_in (entry_at q old))) some
      ∙ ap (cond (is_eq (slice_cmp nat_cmp q key)) (Some n)) (sym (number_at q old))
      ∙ sym (get-insert nat_list_cmp_total (numbers_of old) key n q))

  -- an entry without a number changes no number
  none_either : (b : Bool) (o : Option ℕ) → (b ≡ true → o ≡ None) → cond b None (number_in o) ≡ number_in o
  none_either true o none = sym (ap number_in (none refl))
  none_either false o none = refl

  pub put_nothing : n ≡ 0 → entry_at key old ≡ None → numbers_of new ≡ numbers_of old
  put_nothing zero none =
      same_numbers (numbers_of new) (numbers_of old) (λ q.
      number_at q new ∙ ap number_in (put_in q) ∙ number_either (bytes_eq q key) (Some n) (entry_at q old)
      ∙ ap (λ m. cond (bytes_eq q key) (number_in (Some m)) (number_in (entry_at q old))) zero
      ∙ none_either (bytes_eq q key) (entry_at q old) (λ t. ap (λ p. entry_at p old) ((bytes_eq-Decides q key).0 t) ∙ none)
      ∙ sym (number_at q old))
