-- What members of objects hold, and what judgements tell.
use Rattle.std.specs.Str.{bytes_eq}
use Rattle.std.proofs.lemmas.Slice.Eq.{bytes_eq-Decides}
use Rattle.std.proofs.Common.{◌≡◌, ◌⊎◌, inl, inr, ℕ, List, [], ◌∷◌, map, length, true, Option, Some, None, Result, Ok, Err, option_map, refl, sym, ap, ◌∙◌, eq-eqb, eqb-true}
use Rattle.std.specs.Prelude.{option_and_then, is_some, ◌==◌, if◌then◌else◌}
use Rattle.serde_json.specs.Data.{Data, Items, null, boolean, number, string, array, object, unsigned, negative, float, no_items, item}
use Rattle.serde_json.specs.Find.{get, as_str, as_number, as_null, as_object, as_u64}
use Rattle.serde_json.specs.View.{items_of}
use Rattle.cells.specs.Shapes.{IsShape, IsChunkShape, is_shape, is_chunk_shape}
use Rattle.cells.proofs.Laws.{both, both_true, then_from, else_from, ok_from_then, true_or_false, IsShape-from_test, test-IsShape, IsChunkShape-from_test, test-IsChunkShape}
use Rattle.json_forms.specs.Numbers.{natural}
use Rattle.json_forms.specs.Lists.{list_of, data_list, all_of, u64_list}
use Rattle.json_forms.proofs.Laws.{data_list-items_of}
use Rattle.meta_forms.specs.Faults.{named, ◌>>=◌}
use Rattle.meta_forms.specs.Judged.{list_len, judged_shape, judged_chunks, judged_len}
use Rattle.meta_forms.specs.declared.error.MetaError.{MetaError}
use Rattle.meta_forms.specs.declared.error.Fault.{Fault}
use Rattle.meta_forms.specs.declared.error.Fault.TheVariants.{Bad}

abbrev u64_in : Data → Option ℕ
u64_in x = option_and_then as_u64 (as_number x)

front_from_map : (n : ℕ) (o : Option (List ℕ)) (ns : List ℕ) → option_map (λ ys. n ∷ ys) o ≡ Some ns → (ys : List ℕ) × (o ≡ Some ys) × (ns ≡ n ∷ ys)
front_from_map n None ns is = absurd (let no_such : ⊥ = cc in no_such)
front_from_map n (Some ys) ns is = (ys, refl, cc)

-- items that give numbers are those numbers
items_only : (ds : Items) (ns : List ℕ) → all_of u64_in (data_list ds) ≡ Some ns → ds ≡ items_of (map natural ns)
items_only no_items [] is = refl
items_only no_items (n ∷ ns) is = absurd (let no_such : ⊥ = cc in no_such)
items_only (item null ds) ns is = absurd (let no_such : ⊥ = cc in no_such)
items_only (item (boolean b) ds) ns is = absurd (let no_such : ⊥ = cc in no_such)
items_only (item (number (negative z)) ds) ns is = absurd (let no_such : ⊥ = cc in no_such)
items_only (item (number (float x)) ds) ns is = absurd (let no_such : ⊥ = cc in no_such)
items_only (item (string s) ds) ns is = absurd (let no_such : ⊥ = cc in no_such)
items_only (item (array es) ds) ns is = absurd (let no_such : ⊥ = cc in no_such)
items_only (item (object ms) ds) ns is = absurd (let no_such : ⊥ = cc in no_such)
items_only (item (number (unsigned n)) ds) ns is =
    let front = front_from_map n (all_of u64_in (data_list ds)) ns is in
    ap (λ es. item (natural n) es) (items_only ds front.0 front.1) ∙ ap (λ l. items_of (map natural l)) (sym front.2)

-- a list of numbers is the list of those numbers
pub u64_list-only : (d : Data) (ns : List ℕ) → u64_list d ≡ Some ns → d ≡ list_of (map natural ns)
u64_list-only null ns is = absurd (let no_such : ⊥ = cc in no_such)
u64_list-only (boolean b) ns is = absurd (let no_such : ⊥ = cc in no_such)
u64_list-only (number n) ns is = absurd (let no_such : ⊥ = cc in no_such)
u64_list-only (string s) ns is = absurd (let no_such : ⊥ = cc in no_such)
u64_list-only (array ds) ns is = ap array (items_only ds ns is)
u64_list-only (object ms) ns is = absurd (let no_such : ⊥ = cc in no_such)

all_of-naturals : (ns : List ℕ) → all_of u64_in (map natural ns) ≡ Some ns
all_of-naturals [] = refl
all_of-naturals (n ∷ ns) = rw (all_of-naturals ns) refl

-- and the other way
pub u64_list-naturals : (ns : List ℕ) → u64_list (list_of (map natural ns)) ≡ Some ns
u64_list-naturals ns = ap (all_of u64_in) (data_list-items_of (map natural ns)) ∙ all_of-naturals ns

-- what is found and is a list of numbers is the list of those numbers
pub sizes_found : (o : Option Data) (ns : List ℕ) → option_and_then u64_list o ≡ Some ns → o ≡ Some (list_of (map natural ns))
sizes_found None ns is = absurd (let no_such : ⊥ = cc in no_such)
sizes_found (Some d) ns is = ap Some (u64_list-only d ns is)

as_str-only : (d : Data) (text : List ℕ) → as_str d ≡ Some text → d ≡ string text
as_str-only null text is = absurd (let no_such : ⊥ = cc in no_such)
as_str-only (boolean b) text is = absurd (let no_such : ⊥ = cc in no_such)
as_str-only (number n) text is = absurd (let no_such : ⊥ = cc in no_such)
as_str-only (string s) text is = ap string (let same : s ≡ text = cc in same)
as_str-only (array ds) text is = absurd (let no_such : ⊥ = cc in no_such)
as_str-only (object ms) text is = absurd (let no_such : ⊥ = cc in no_such)

-- what is found and is a text is that text
pub text_found : (o : Option Data) (text : List ℕ) → option_and_then as_str o ≡ Some text → o ≡ Some (string text)
text_found None text is = absurd (let no_such : ⊥ = cc in no_such)
text_found (Some d) text is = ap Some (as_str-only d text is)

-- what is found and is null is null
pub null_found : (o : Option Data) → is_some (option_and_then as_null o) ≡ true → o ≡ Some null
null_found None is = absurd (let no_such : ⊥ = cc in no_such)
null_found (Some null) is = refl
null_found (Some (boolean b)) is = absurd (let no_such : ⊥ = cc in no_such)
null_found (Some (number n)) is = absurd (let no_such : ⊥ = cc in no_such)
null_found (Some (string s)) is = absurd (let no_such : ⊥ = cc in no_such)
null_found (Some (array ds)) is = absurd (let no_such : ⊥ = cc in no_such)
null_found (Some (object ms)) is = absurd (let no_such : ⊥ = cc in no_such)

-- what is found and is a list without items is the empty list
pub empty_found : (o : Option Data) → option_and_then list_len o ≡ Some 0 → o ≡ Some (list_of [])
empty_found None is = absurd (let no_such : ⊥ = cc in no_such)
empty_found (Some null) is = absurd (let no_such : ⊥ = cc in no_such)
empty_found (Some (boolean b)) is = absurd (let no_such : ⊥ = cc in no_such)
empty_found (Some (number n)) is = absurd (let no_such : ⊥ = cc in no_such)
empty_found (Some (string s)) is = absurd (let no_such : ⊥ = cc in no_such)
empty_found (Some (array no_items)) is = refl
empty_found (Some (array (item d ds))) is = absurd (let no_such : ⊥ = cc in no_such)
empty_found (Some (object ms)) is = absurd (let no_such : ⊥ = cc in no_such)

-- a value with a member is an object
pub object_from_member : (k : List ℕ) (d e : Data) → get k d ≡ Some e → is_some (as_object d) ≡ true
object_from_member k null e found = absurd (let no_such : ⊥ = cc in no_such)
object_from_member k (boolean b) e found = absurd (let no_such : ⊥ = cc in no_such)
object_from_member k (number n) e found = absurd (let no_such : ⊥ = cc in no_such)
object_from_member k (string s) e found = absurd (let no_such : ⊥ = cc in no_such)
object_from_member k (array ds) e found = absurd (let no_such : ⊥ = cc in no_such)
object_from_member k (object ms) e found = refl

-- a chain that ends well went well
pub parts_of : {A B : Type 0} (r : Result A MetaError) (f : A → Result B MetaError) (b : B) → (r >>= f) ≡ Ok b → (a : A) × (r ≡ Ok a) × (f a ≡ Ok b)
parts_of (Ok a) f b is = (a, refl, is)
parts_of (Err e) f b is = absurd (let no_such : ⊥ = cc in no_such)

-- a judgement with a name that is good was good
pub judged_from_named : {A : Type 0} (name : List ℕ) (r : Result A Fault) (a : A) → named name r ≡ Ok a → r ≡ Ok a
judged_from_named name (Ok x) a is = ap Ok (let same : x ≡ a = cc in same)
judged_from_named name (Err fault) a is = absurd (let no_such : ⊥ = cc in no_such)

pub ok_only : {A E : Type 0} (a b : A) → (let r : Result A E = Ok a in r) ≡ Ok b → a ≡ b
ok_only a b is = cc

-- a member with a list of numbers has these numbers
pub sizes_read : (o : Option Data) (ns : List ℕ) → o ≡ Some (list_of (map natural ns)) → option_and_then u64_list o ≡ Some ns
sizes_read o ns is = ap (option_and_then u64_list) is ∙ u64_list-naturals ns

-- a good shape is the shape, and keeps the rules
pub shape_judged : (o : Option (List ℕ)) (ns : List ℕ) → judged_shape o ≡ Ok ns → (o ≡ Some ns) × IsShape ns
shape_judged None ns is = absurd (let no_such : ⊥ = cc in no_such)
shape_judged (Some sizes) ns is =
    let good = ok_from_then (is_shape sizes) (Ok sizes) ns _ is in
    let same : sizes ≡ ns = ok_only sizes ns good.1 in
    (ap Some same, IsShape-from_test ns (ap is_shape (sym same) ∙ good.0))

pub shape_passes : (ns : List ℕ) → IsShape ns → judged_shape (Some ns) ≡ Ok ns
shape_passes ns rules = then_from (is_shape ns) _ _ (test-IsShape ns rules)

-- good sizes of chunks are these sizes, and keep the rules
pub chunks_judged : (rank : ℕ) (o : Option (List ℕ)) (ns : List ℕ) → judged_chunks rank o ≡ Ok ns → (o ≡ Some ns) × (length ns ≡ rank) × IsChunkShape ns
chunks_judged rank None ns is = absurd (let no_such : ⊥ = cc in no_such)
chunks_judged rank (Some sizes) ns is =
    let good = ok_from_then _ (Ok sizes) ns _ is in
    let same : sizes ≡ ns = ok_only sizes ns good.1 in
    let tests = both (length sizes == rank) (is_chunk_shape sizes) good.0 in
    (ap Some same, ap length (sym same) ∙ eqb-true (length sizes) rank tests.0, IsChunkShape-from_test ns (ap is_chunk_shape (sym same) ∙ tests.1))

pub chunks_pass : (rank : ℕ) (ns : List ℕ) → length ns ≡ rank → IsChunkShape ns → judged_chunks rank (Some ns) ≡ Ok ns
chunks_pass rank ns ranks rules = then_from _ _ _ (both_true (length ns == rank) (is_chunk_shape ns) (eq-eqb (length ns) rank ranks) (test-IsChunkShape ns rules))

-- a good length of a list that has to be empty is 0
pub len_judged : (o : Option ℕ) (u : Unit {0}) → judged_len o ≡ Ok u → o ≡ Some 0
len_judged None u is = absurd (let no_such : ⊥ = cc in no_such)
len_judged (Some len) u is = ap Some (eqb-true len 0 (ok_from_then (len == 0) (Ok tt) u _ is).0)

-- a text that is judged by two words is one of them
pub one_of_two : {A : Type 0} (text one other : List ℕ) (x y z : A)
    → (if bytes_eq text one then Ok x else if bytes_eq text other then Ok y else Err Bad) ≡ Ok z → ((text ≡ one) × (x ≡ z)) ⊎ ((text ≡ other) × (y ≡ z))
one_of_two text one other x y z is =
    elim (true_or_false (bytes_eq text one)) [
      | inl h ↦ inl ((bytes_eq-Decides text one).0 h, ok_only x z (sym (then_from (bytes_eq text one) (Ok x) _ h) ∙ is))
      | inr h ↦
          let rest = ok_from_then (bytes_eq text other) (Ok y) z Bad (sym (else_from (bytes_eq text one) (Ok x) _ h) ∙ is) in
          inr ((bytes_eq-Decides text other).0 rest.0, ok_only y z rest.1)
    ]
