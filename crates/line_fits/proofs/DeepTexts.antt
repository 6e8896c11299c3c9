-- The text of values that parses at all parses to those values, however deep they nest.
use Rattle.std.proofs.Common.{◌≡◌, ◌⊎◌, inl, inr, ℕ, zero, suc, ◌<◌, ◌^◌, pos, negsuc, List, [], ◌∷◌, ◌++◌, length, Option, Some, None, refl, sym, ap, ◌∙◌, subst, append_assoc, append-nil}
use Rattle.std.specs.Prelude.{codes, option_and_then, option_map}
use Rattle.json.specs.Token.{Token}
use Rattle.json.specs.Lex.{tokens}
use Rattle.json.specs.Print.{IsNumber}
use Rattle.json.specs.Json as json
use Rattle.json.specs.Tree.{json_tokens, items_tokens, members_tokens, HasNumbers, ItemsHaveNumbers}
use Rattle.json.proofs.Printed.Tokens.{tokens-print}
use Rattle.json.proofs.Printed.Decimals.{IsNumber-decimal, IsNumber-signed_decimal}
use Rattle.json.proofs.Printed.Trees.{ArePrintable-json_tokens}
use Rattle.serde_json.specs.Data.{Num, unsigned, negative, float, Data, null, boolean, number, string, array, object, Items, no_items, item, no_members, put}
use Rattle.serde_json.specs.Read.{number_of, of_json, of_items, of_members, read, max_depth}
use Rattle.serde_json.specs.Written.{number_text, outline, items_outline, compact_text}
use Rattle.serde_json.proofs.Numbers.{number_of-decimal, number_of-negative}
use Rattle.serde_json.proofs.Texts.{print-outline}
use Rattle.json_forms.specs.Members.{object_of}
use Rattle.json_forms.specs.Numbers.{natural}
use Rattle.transcript_cut.specs.Printable.{IsInteger}

-- nothing, or this
abbrev pub IsAtMost : {A : Type 0} → Option A → A → Type 0
IsAtMost found a = (found ≡ None) ⊎ (found ≡ Some a)

mapped : {A B : Type 0} (f : A → B) (o : Option A) (a : A) → IsAtMost o a → IsAtMost (option_map f o) (f a)
mapped f o a (inl e) = inl (ap (option_map f) e)
mapped f o a (inr e) = inr (ap (option_map f) e)

chained : {A B : Type 0} (f : A → Option B) (o : Option A) (a : A) (b : B) → IsAtMost o a → IsAtMost (f a) b → IsAtMost (option_and_then f o) b
chained f o a b (inl e) then = inl (ap (option_and_then f) e)
chained f o a b (inr e) then = subst (λ x. IsAtMost x b) (sym (ap (option_and_then f) e)) then

not_end : (j : json.Json) (rest : List Token) → json.after_end_array (json_tokens j ++ rest) ≡ None
not_end json.null rest = refl
not_end (json.boolean b) rest = refl
not_end (json.number s) rest = refl
not_end (json.string s) rest = refl
not_end (json.array js) rest = refl
not_end (json.object ms) rest = refl

mutual
  unfolding json.value json.items json.members

  -- the grammar reads the tokens of a value as that value, or not at all
  value_at_most : (j : json.Json) (d : ℕ) (rest : List Token) → IsAtMost (json.value d (json_tokens j ++ rest)) (j, rest)
  value_at_most json.null zero rest = inr refl
  value_at_most json.null (suc d) rest = inr refl
  value_at_most (json.boolean b) zero rest = inr refl
  value_at_most (json.boolean b) (suc d) rest = inr refl
  value_at_most (json.number s) zero rest = inr refl
  value_at_most (json.number s) (suc d) rest = inr refl
  value_at_most (json.string s) zero rest = inr refl
  value_at_most (json.string s) (suc d) rest = inr refl
  value_at_most (json.array js) zero rest = inl refl
  value_at_most (json.array js) (suc d) rest =
      mapped (λ p. (json.array p.0, p.1)) (json.items (json.value d) (length (items_tokens js ++ rest)) (items_tokens js ++ rest)) (js, rest)
      (items_at_most js d (length (items_tokens js ++ rest)) rest)
  value_at_most (json.object ms) zero rest = inl refl
  value_at_most (json.object ms) (suc d) rest =
      mapped (λ p. (json.object p.0, p.1)) (json.members (json.value d) (length (members_tokens ms ++ rest)) (members_tokens ms ++ rest)) (ms, rest)
      (members_at_most ms d (length (members_tokens ms ++ rest)) rest)

  items_at_most : (js : json.Items) (d n : ℕ) (rest : List Token) → IsAtMost (json.items (json.value d) n (items_tokens js ++ rest)) (js, rest)
  items_at_most js d zero rest = inl refl
  items_at_most json.no_items d (suc n) rest = inr refl
  items_at_most (json.item j js) d (suc n) rest =
      let after = items_tokens js ++ rest in
      let first = ap (json.items (json.value d) (suc n)) (append_assoc (json_tokens j) (items_tokens js) rest)
      ∙ ap (json.items_step (json.value d) (json.items (json.value d) n) (json_tokens j ++ after)) (not_end j after) in
      subst (λ o. IsAtMost o (json.item j js, rest)) (sym first)
      (chained (λ p. json.parse_map (json.item p.0) (json.items (json.value d) n p.1)) (json.value d (json_tokens j ++ after)) (j, after) (json.item j js, rest)
      (value_at_most j d after)
      (mapped (λ p. (json.item j p.0, p.1)) (json.items (json.value d) n after) (js, rest) (items_at_most js d n rest)))

  members_at_most : (ms : json.Members) (d n : ℕ) (rest : List Token) → IsAtMost (json.members (json.value d) n (members_tokens ms ++ rest)) (ms, rest)
  members_at_most ms d zero rest = inl refl
  members_at_most json.no_members d (suc n) rest = inr refl
  members_at_most (json.member k j ms) d (suc n) rest =
      let after = members_tokens ms ++ rest in
      let first = ap (λ l. json.members (json.value d) (suc n) (Token.key k ∷ l)) (append_assoc (json_tokens j) (members_tokens ms) rest) in
      subst (λ o. IsAtMost o (json.member k j ms, rest)) (sym first)
      (chained (λ p. json.parse_map (json.member k p.0) (json.members (json.value d) n p.1)) (json.value d (json_tokens j ++ after)) (j, after) (json.member k j ms, rest)
      (value_at_most j d after)
      (mapped (λ p. (json.member k j p.0, p.1)) (json.members (json.value d) n after) (ms, rest) (members_at_most ms d n rest)))

-- numbers of 64 bits, in lists of lists
abbrev mutual
  pub IsNested : Data → Type 0
  IsNested null = ⊥
  IsNested (boolean b) = ⊥
  IsNested (number n) = IsInteger n
  IsNested (string s) = ⊥
  IsNested (array ds) = AreNested ds
  IsNested (object ms) = ⊥

  pub AreNested : Items → Type 0
  AreNested no_items = Unit {0}
  AreNested (item d ds) = IsNested d × AreNested ds

number_back : (n : Num) → IsInteger n → number_of (number_text n) ≡ Some n
number_back (unsigned n) fits = number_of-decimal n fits
number_back (negative (pos n)) fits = absurd fits
number_back (negative (negsuc n)) fits = number_of-negative n fits
number_back (float x) fits = absurd fits

number_spelled : (n : Num) → IsInteger n → IsNumber (number_text n)
number_spelled (unsigned n) fits = IsNumber-decimal n fits
number_spelled (negative (pos n)) fits = absurd fits
number_spelled (negative (negsuc n)) fits = IsNumber-signed_decimal (negsuc n) fits
number_spelled (float x) fits = absurd fits

mutual
  numbers_spelled : (d : Data) → IsNested d → HasNumbers (outline d)
  numbers_spelled null is = absurd is
  numbers_spelled (boolean b) is = absurd is
  numbers_spelled (number n) is = number_spelled n is
  numbers_spelled (string s) is = absurd is
  numbers_spelled (array ds) is = items_spelled ds is
  numbers_spelled (object ms) is = absurd is

  items_spelled : (ds : Items) → AreNested ds → ItemsHaveNumbers (items_outline ds)
  items_spelled no_items are = tt
  items_spelled (item d ds) are = (numbers_spelled d are.0, items_spelled ds are.1)

mutual
  of_json-outline : (d : Data) → IsNested d → of_json (outline d) ≡ Some d
  of_json-outline null is = absurd is
  of_json-outline (boolean b) is = absurd is
  of_json-outline (number n) is = ap (option_map number) (number_back n is)
  of_json-outline (string s) is = absurd is
  of_json-outline (array ds) is = ap (option_map array) (of_items-outline ds is)
  of_json-outline (object ms) is = absurd is

  of_items-outline : (ds : Items) → AreNested ds → of_items (items_outline ds) ≡ Some ds
  of_items-outline no_items are = refl
  of_items-outline (item d ds) are = rw (of_json-outline d are.0) (ap (option_map (item d)) (of_items-outline ds are.1))

-- an object of a line's number, and an index vector and values
abbrev pub values_object : ℕ → Data → Data → Data
values_object line origin values = object_of ((codes "line", natural line) ∷ (codes "origin", origin) ∷ (codes "values", values) ∷ [])

object_back : (line : ℕ) (origin values : Data) → line < 2 ^ 64 → IsNested origin → IsNested values → of_json (outline (values_object line origin values)) ≡ Some (values_object line origin values)
object_back line origin values small one other =
    ap (option_map object)
    (ap (option_and_then (λ d. of_members (members_behind) (put (codes "line") d no_members))) (of_json-outline (natural line) small)
    ∙ ap (option_and_then (λ d. of_members last (put (codes "origin") d (put (codes "line") (natural line) no_members)))) (of_json-outline origin one)
    ∙ ap (option_and_then (λ d. of_members json.no_members (put (codes "values") d (put (codes "origin") origin (put (codes "line") (natural line) no_members))))) (of_json-outline values other))
  where
    last : json.Members
    last = json.member (codes "values") (outline values) json.no_members

    members_behind : json.Members
    members_behind = json.member (codes "origin") (outline origin) last

-- its text reads as this object, or not at all
pub read_at_most : (line : ℕ) (origin values : Data) → line < 2 ^ 64 → IsNested origin → IsNested values
    → IsAtMost (read (compact_text (values_object line origin values))) (values_object line origin values)
read_at_most line origin values small one other =
    let d = values_object line origin values in
    let ts = json_tokens (outline d) in
    let spelled : HasNumbers (outline d) = (number_spelled (unsigned line) small, (numbers_spelled origin one, (numbers_spelled values other, tt))) in
    let found : tokens (compact_text d) ≡ ts = ap tokens (sym (print-outline d)) ∙ tokens-print ts (ArePrintable-json_tokens (outline d) spelled) in
    let parsed = subst (λ us. IsAtMost (json.value max_depth us) (outline d, [])) (append-nil ts ∙ sym found) (value_at_most (outline d) max_depth []) in
    chained of_json (option_and_then (λ p. json.if_last p.0 p.1) (json.value max_depth (tokens (compact_text d)))) (outline d) d
    (chained (λ p. json.if_last p.0 p.1) (json.value max_depth (tokens (compact_text d))) (outline d, []) (outline d) parsed (inr refl))
    (inr (object_back line origin values small one other))
