-- What bytes hold as JSON.
use Rattle.std.proofs.Common.{◌≡◌, ℕ, zero, suc, ◌+◌, ◌*◌, ◌<◌, ◌≤◌, ◌^◌, pos, negsuc, ◌≤ℤ◌, Bool, true, false, cond, ◌&&◌, ◌==◌, nat_lt, nat_le, List, [], ◌∷◌, ◌++◌, length, drop, Option, Some, None, option_map, option_and_then, IsUtf8, refl, sym, ap, subst, arith, append_assoc, ltb-true, leb-true, eqb-true, Ordering, Less, Equal, Greater, nat_cmp}
use Rattle.std.specs.Ordering.{match_ordering}
use Rattle.std.specs.Cmp.Lexicographic.{slice_cmp}
use Rattle.std.specs.Str.{is_utf8}
use Rattle.std.specs.List.{starts_with}
use Rattle.std.specs.Prelude.{nat_eq, neg_ℤ}
use Rattle.std.specs.Float.{binary64, float_is_finite}
use Rattle.std.proofs.lemmas.Bool.{and_parts}
use Rattle.std.proofs.lemmas.Int.{ints}
use Rattle.std.proofs.lemmas.Str.{IsUtf8-from_is_utf8}
use Rattle.std.specs.Float.Numeral.{Parts, scan_numeral as scan, numeral_digits as digits_of, nearest_float as nearest}
use Rattle.json.specs.Token.{Token}
use Rattle.json.specs.Token as token
use Rattle.json.specs.Ascii as ascii
use Rattle.json.specs.Text.{content, plain}
use Rattle.json.specs.Word.{word, literal, number_before, ends_word, head, is_operator, is_space, after_number}
use Rattle.json.specs.Lex.{Lexeme, comma, colon, Class, Mode, between, in_word, in_string, in_escape, quote, backslash, operator, space, other, class, operator_lexeme, string_token, lex_byte, lex, Place, fresh, after_value, after_comma, after_key, begins_colon, may_begin, may_close, if_allowed, place_token, punctuate, tokens}
use Rattle.json.specs.Lex as lexed
use Rattle.json.specs.Json as json
use Rattle.json.specs.Json.{Parse, parse_map, after_end_array, read_key, items_step, members_step, items, members, value_with, value, if_last}
use Rattle.serde_json.specs.Data.{Num, unsigned, negative, float, Data, number, array, object, Items, item, Members, no_members, member, put}
use Rattle.serde_json.specs.Read.{is_integer, float_of, number_from, number_of, of_json, of_items, of_members, read, max_depth}
use Rattle.json_forms.specs.Bytes.{data_of}
use Rattle.output_laws.specs.Held.{count_of, IsNumber, IsHeld, AreHeld, HaveHeld}
use Rattle.output_laws.proofs.JsonTexts.{IsText, tail_utf8, content_utf8}

-- ---- tokens

-- the text of a token is UTF-8
abbrev IsTextToken : Token → Type 0
IsTextToken token.begin_object = Unit {0}
IsTextToken token.end_object = Unit {0}
IsTextToken token.begin_array = Unit {0}
IsTextToken token.end_array = Unit {0}
IsTextToken (token.key s) = IsUtf8 s
IsTextToken (token.string s) = IsUtf8 s
IsTextToken (token.number s) = Unit {0}
IsTextToken (token.boolean b) = Unit {0}
IsTextToken token.null = Unit {0}
IsTextToken token.bad = Unit {0}

abbrev AreTexts : List Token → Type 0
AreTexts [] = Unit {0}
AreTexts (t ∷ ts) = IsTextToken t × AreTexts ts

abbrev IsTextLexeme : Lexeme → Type 0
IsTextLexeme (lexed.token t) = IsTextToken t
IsTextLexeme comma = Unit {0}
IsTextLexeme colon = Unit {0}

abbrev AreLexed : List Lexeme → Type 0
AreLexed [] = Unit {0}
AreLexed (l ∷ ls) = IsTextLexeme l × AreLexed ls

pick : {A : Type 0} (P : A → Type 0) (t : Bool) (x y : A) → P x → P y → P (cond t x y)
pick P true x y one two = one
pick P false x y one two = two

operator_text : (x : ℕ) → IsTextLexeme (operator_lexeme x)
operator_text x =
    pick IsTextLexeme (x == 123) _ _ tt (pick IsTextLexeme (x == 125) _ _ tt (pick IsTextLexeme (x == 91) _ _ tt (pick IsTextLexeme (x == 93) _ _ tt (pick IsTextLexeme (x == 44) _ _ tt tt))))

number_text : (t : List ℕ) (o : Option (List ℕ)) → IsTextToken (number_before t o)
number_text t None = tt
number_text t (Some rest) = pick IsTextToken (ends_word rest) _ _ tt tt

literal_text : (name : List ℕ) (made : Token) (t : List ℕ) → IsTextToken made → IsTextToken (literal name made t)
literal_text name made t is = pick IsTextToken (starts_with nat_eq t name && ends_word (drop (length name) t)) _ _ is tt

word_text : (t : List ℕ) → IsTextToken (word t)
unfolding word
word_text t =
    pick IsTextToken (head t == 116) _ _ (literal_text ascii.true_text (token.boolean true) t tt)
    (pick IsTextToken (head t == 102) _ _ (literal_text ascii.false_text (token.boolean false) t tt)
    (pick IsTextToken (head t == 110) _ _ (literal_text ascii.null_text token.null t tt) (number_text t (after_number t))))

string_text : (o : Option (List ℕ)) → IsText o → IsTextToken (string_token o)
string_text None is = tt
string_text (Some s) is = is

-- what stands behind a front with which it is UTF-8
record IsTail (xs : List ℕ) : Type 0 where
  front : List ℕ
  whole : IsUtf8 (front ++ xs)

tail_more : (x : ℕ) (xs : List ℕ) → IsTail (x ∷ xs) → IsTail xs
tail_more x xs is = record { front = is.front ++ x ∷ []; whole = subst IsUtf8 (sym (append_assoc is.front (x ∷ []) xs)) is.whole }

abbrev rank_of : Class → Bool
rank_of quote = true
rank_of backslash = false
rank_of operator = false
rank_of space = false
rank_of other = false

is_quote : (x : ℕ) → class x ≡ quote → x ≡ 34
is_quote x is = by (x == 34) refl is
  where
    last : (a b c : Bool) → cond a backslash (cond b operator (cond c space other)) ≡ quote → ⊥
    last true b c e = let no_such : false ≡ true = ap rank_of e in absurd (cc)
    last false true c e = let no_such : false ≡ true = ap rank_of e in absurd (cc)
    last false false true e = let no_such : false ≡ true = ap rank_of e in absurd (cc)
    last false false false e = let no_such : false ≡ true = ap rank_of e in absurd (cc)

    by : (t : Bool) → (x == 34) ≡ t → cond t quote (cond (x == 92) backslash (cond (is_operator x) operator (cond (is_space x) space other))) ≡ quote → x ≡ 34
    by true e given = eqb-true x 34 e
    by false e given = absurd (last (x == 92) (is_operator x) (is_space x) given)

lexed_byte : (m : Mode) (c : Class) (x : ℕ) (xs : List ℕ) → class x ≡ c → IsTail (x ∷ xs) → ((next : Mode) → AreLexed (lex next xs)) → AreLexed (lex_byte m c x xs (λ next. lex next xs))
lexed_byte between quote x xs is tail more =
    let same = is_quote x is in
    (string_text (content plain xs) (content_utf8 xs (tail_utf8 tail.front x xs tail.whole (omega (arith, same)))), more in_string)
lexed_byte between backslash x xs is tail more = (tt, more in_word)
lexed_byte between operator x xs is tail more = (operator_text x, more between)
lexed_byte between space x xs is tail more = more between
lexed_byte between other x xs is tail more = (word_text (x ∷ xs), more in_word)
lexed_byte in_word quote x xs is tail more = more in_word
lexed_byte in_word backslash x xs is tail more = more in_word
lexed_byte in_word operator x xs is tail more = (operator_text x, more between)
lexed_byte in_word space x xs is tail more = more between
lexed_byte in_word other x xs is tail more = more in_word
lexed_byte in_string quote x xs is tail more = more between
lexed_byte in_string backslash x xs is tail more = more in_escape
lexed_byte in_string operator x xs is tail more = more in_string
lexed_byte in_string space x xs is tail more = more in_string
lexed_byte in_string other x xs is tail more = more in_string
lexed_byte in_escape c x xs is tail more = more in_string

lexed_all : (m : Mode) (xs : List ℕ) → IsTail xs → AreLexed (lex m xs)
unfolding lex
lexed_all m [] tail = tt
lexed_all m (x ∷ xs) tail = lexed_byte m (class x) x xs refl tail (λ next. lexed_all next xs (tail_more x xs tail))

-- there are no more lexemes than bytes
few_byte : (m : Mode) (c : Class) (x : ℕ) (xs : List ℕ) → ((next : Mode) → length (lex next xs) ≤ length xs) → length (lex_byte m c x xs (λ next. lex next xs)) ≤ suc (length xs)
few_byte between quote x xs more = let rest = more in_string in omega (arith, rest)
few_byte between backslash x xs more = let rest = more in_word in omega (arith, rest)
few_byte between operator x xs more = let rest = more between in omega (arith, rest)
few_byte between space x xs more = let rest = more between in omega (arith, rest)
few_byte between other x xs more = let rest = more in_word in omega (arith, rest)
few_byte in_word quote x xs more = let rest = more in_word in omega (arith, rest)
few_byte in_word backslash x xs more = let rest = more in_word in omega (arith, rest)
few_byte in_word operator x xs more = let rest = more between in omega (arith, rest)
few_byte in_word space x xs more = let rest = more between in omega (arith, rest)
few_byte in_word other x xs more = let rest = more in_word in omega (arith, rest)
few_byte in_string quote x xs more = let rest = more between in omega (arith, rest)
few_byte in_string backslash x xs more = let rest = more in_escape in omega (arith, rest)
few_byte in_string operator x xs more = let rest = more in_string in omega (arith, rest)
few_byte in_string space x xs more = let rest = more in_string in omega (arith, rest)
few_byte in_string other x xs more = let rest = more in_string in omega (arith, rest)
few_byte in_escape c x xs more = let rest = more in_string in omega (arith, rest)

few_lexed : (m : Mode) (xs : List ℕ) → length (lex m xs) ≤ length xs
unfolding lex
few_lexed m [] = omega arith
few_lexed m (x ∷ xs) = few_byte m (class x) x xs (λ next. few_lexed next xs)

-- a value ends with the token
abbrev ends : Token → Bool
ends token.begin_object = false
ends token.end_object = true
ends token.begin_array = false
ends token.end_array = true
ends (token.key s) = false
ends (token.string s) = true
ends (token.number s) = true
ends (token.boolean b) = true
ends token.null = true
ends token.bad = false

-- how many lexemes a token stands for where a value has ended: one more, a comma, where a value or a key begins
abbrev cost : Bool → Token → ℕ
cost false t = 1
cost true token.begin_object = 2
cost true token.end_object = 1
cost true token.begin_array = 2
cost true token.end_array = 1
cost true (token.key s) = 2
cost true (token.string s) = 2
cost true (token.number s) = 2
cost true (token.boolean b) = 2
cost true token.null = 2
cost true token.bad = 1

-- how many lexemes tokens stand for, where a value has ended or not
abbrev weight : Bool → List Token → ℕ
weight ended [] = 0
weight ended (t ∷ ts) = cost ended t + weight (ends t) ts

near : (ts : List Token) → weight true ts ≤ weight false ts + 1
near [] = omega arith
near (token.begin_object ∷ ts) = omega arith
near (token.end_object ∷ ts) = omega arith
near (token.begin_array ∷ ts) = omega arith
near (token.end_array ∷ ts) = omega arith
near (token.key s ∷ ts) = omega arith
near (token.string s ∷ ts) = omega arith
near (token.number s ∷ ts) = omega arith
near (token.boolean b ∷ ts) = omega arith
near (token.null ∷ ts) = omega arith
near (token.bad ∷ ts) = omega arith

abbrev is_ended : Place → Bool
is_ended fresh = false
is_ended after_value = true
is_ended after_comma = false
is_ended after_key = false

-- tokens with texts that stand for at most one lexeme more than this
record ArePlaced (n : ℕ) (ended : Bool) (ts : List Token) : Type 0 where
  texts : AreTexts ts
  few : weight ended ts ≤ n + 1

only_bad : (n : ℕ) (ended : Bool) → ArePlaced n ended (token.bad ∷ [])
only_bad n true = record { texts = (tt, tt); few = omega arith }
only_bad n false = record { texts = (tt, tt); few = omega arith }

-- where a value may begin no value has ended
begins_here : (n : ℕ) (p : Place) (t : Token) (k : Place → List Token) (next : Place) → IsTextToken t → is_ended next ≡ ends t → ArePlaced n (is_ended next) (k next) → ArePlaced (suc n) (is_ended p) (if_allowed (may_begin p) t k next)
begins_here n fresh t k next text same more = record { texts = (text, more.texts); few = let few = subst (λ b. weight b (k next) ≤ n + 1) same more.few in omega (arith, few) }
begins_here n after_value t k next text same more = only_bad (suc n) true
begins_here n after_comma t k next text same more = record { texts = (text, more.texts); few = let few = subst (λ b. weight b (k next) ≤ n + 1) same more.few in omega (arith, few) }
begins_here n after_key t k next text same more = only_bad (suc n) false

closes_here : (n : ℕ) (p : Place) (t : Token) (k : Place → List Token) → IsTextToken t → ends t ≡ true → cost true t ≡ 1 → ArePlaced n true (k after_value) → ArePlaced (suc n) (is_ended p) (if_allowed (may_close p) t k after_value)
closes_here n fresh t k text same one more = record { texts = (text, more.texts); few = let few = subst (λ b. weight b (k after_value) ≤ n + 1) (sym same) more.few in omega (arith, few) }
closes_here n after_value t k text same one more = record { texts = (text, more.texts); few = let few = subst (λ b. weight b (k after_value) ≤ n + 1) (sym same) more.few in omega (arith, few, one) }
closes_here n after_comma t k text same one more = only_bad (suc n) false
closes_here n after_key t k text same one more = only_bad (suc n) false

placed : (n : ℕ) (p : Place) (t : Token) (b : Bool) (k : Place → List Token) → IsTextToken t → ((next : Place) → ArePlaced n (is_ended next) (k next)) → ArePlaced (suc n) (is_ended p) (place_token p t b k)
placed n p token.begin_object b k text more = begins_here n p token.begin_object k fresh tt refl (more fresh)
placed n p token.end_object b k text more = closes_here n p token.end_object k tt refl refl (more after_value)
placed n p token.begin_array b k text more = begins_here n p token.begin_array k fresh tt refl (more fresh)
placed n p token.end_array b k text more = closes_here n p token.end_array k tt refl refl (more after_value)
placed n p (token.key s) b k text more = only_bad (suc n) (is_ended p)
placed n p (token.string s) true k text more = begins_here n p (token.key s) k after_key text refl (more after_key)
placed n p (token.string s) false k text more = begins_here n p (token.string s) k after_value text refl (more after_value)
placed n p (token.number s) b k text more = begins_here n p (token.number s) k after_value tt refl (more after_value)
placed n p (token.boolean x) b k text more = begins_here n p (token.boolean x) k after_value tt refl (more after_value)
placed n p token.null b k text more = begins_here n p token.null k after_value tt refl (more after_value)
placed n p token.bad b k text more = only_bad (suc n) (is_ended p)

longer : (n : ℕ) (ts : List Token) → ArePlaced n false ts → ArePlaced (suc n) true ts
longer n ts are = let close = near ts in record { texts = are.texts; few = omega (arith, are.few, close) }

later : (n : ℕ) (ts : List Token) → ArePlaced n false ts → ArePlaced (suc n) false ts
later n ts are = record { texts = are.texts; few = omega (arith, are.few) }

none_placed : (ended : Bool) → ArePlaced 0 ended []
none_placed ended = record { texts = tt; few = omega arith }

punctuated : (p : Place) (ls : List Lexeme) → AreLexed ls → ArePlaced (length ls) (is_ended p) (punctuate p ls)
unfolding punctuate
punctuated fresh [] are = none_placed false
punctuated after_value [] are = none_placed true
punctuated after_comma [] are = only_bad 0 false
punctuated after_key [] are = only_bad 0 false
punctuated fresh (lexed.token t ∷ ls) are = placed (length ls) fresh t (begins_colon ls) (λ next. punctuate next ls) are.0 (λ next. punctuated next ls are.1)
punctuated after_value (lexed.token t ∷ ls) are = placed (length ls) after_value t (begins_colon ls) (λ next. punctuate next ls) are.0 (λ next. punctuated next ls are.1)
punctuated after_comma (lexed.token t ∷ ls) are = placed (length ls) after_comma t (begins_colon ls) (λ next. punctuate next ls) are.0 (λ next. punctuated next ls are.1)
punctuated after_key (lexed.token t ∷ ls) are = placed (length ls) after_key t (begins_colon ls) (λ next. punctuate next ls) are.0 (λ next. punctuated next ls are.1)
punctuated fresh (comma ∷ ls) are = only_bad (suc (length ls)) false
punctuated after_value (comma ∷ ls) are = longer (length ls) _ (punctuated after_comma ls are.1)
punctuated after_comma (comma ∷ ls) are = only_bad (suc (length ls)) false
punctuated after_key (comma ∷ ls) are = only_bad (suc (length ls)) false
punctuated fresh (colon ∷ ls) are = only_bad (suc (length ls)) false
punctuated after_value (colon ∷ ls) are = only_bad (suc (length ls)) true
punctuated after_comma (colon ∷ ls) are = only_bad (suc (length ls)) false
punctuated after_key (colon ∷ ls) are = later (length ls) _ (punctuated fresh ls are.1)

text_tokens : (text : List ℕ) → IsUtf8 text → ArePlaced (length text) false (tokens text)
text_tokens text is =
    let are = punctuated fresh (lex between text) (lexed_all between text (record { front = []; whole = is })) in
    let few = few_lexed between text in
    record { texts = are.texts; few = omega (arith, are.few, few) }

-- ---- the grammar

abbrev count_json : json.Items → ℕ
count_json json.no_items = 0
count_json (json.item j js) = suc (count_json js)

-- the texts of a value are UTF-8, and its lists have at most half so many items
abbrev mutual
  IsJson : ℕ → json.Json → Type 0
  IsJson n json.null = Unit {0}
  IsJson n (json.boolean b) = Unit {0}
  IsJson n (json.number s) = Unit {0}
  IsJson n (json.string s) = IsUtf8 s
  IsJson n (json.array js) = (2 * count_json js ≤ n) × AreJson n js
  IsJson n (json.object ms) = HaveJson n ms

  AreJson : ℕ → json.Items → Type 0
  AreJson n json.no_items = Unit {0}
  AreJson n (json.item j js) = IsJson n j × AreJson n js

  HaveJson : ℕ → json.Members → Type 0
  HaveJson n json.no_members = Unit {0}
  HaveJson n (json.member k j ms) = IsUtf8 k × IsJson n j × HaveJson n ms

-- what was read, and the tokens behind it, of tokens of this weight
abbrev Reads : {A : Type 0} → (A → Type 0) → (A → ℕ) → ℕ → Option (A × List Token) → Type 0
Reads P size m None = Unit {0}
Reads P size m (Some p) = P p.0 × AreTexts p.1 × (size p.0 + weight true p.1 < m)

-- it reads so of each list of tokens of at most this weight
record IsReader {A : Type 0} (P : A → Type 0) (size : A → ℕ) (n : ℕ) (p : Parse A) : Type 0 where
  of : (ts : List Token) → AreTexts ts → weight true ts ≤ n + 2 → Reads P size (weight true ts) (p ts)

mapped : {A B : Type 0} (P : A → Type 0) (size : A → ℕ) (Q : B → Type 0) (measure : B → ℕ) (m k : ℕ) (f : A → B) (o : Option (A × List Token)) → ((a : A) (r : ℕ) → P a → size a + r < m → Q (f a) × (measure (f a) + r < k)) → Reads P size m o → Reads Q measure k (parse_map f o)
mapped P size Q measure m k f None each reads = tt
mapped P size Q measure m k f (Some p) each reads = let both = each p.0 (weight true p.1) reads.0 reads.2 in (both.0, reads.1, both.1)

abbrev nothing : {A : Type 0} → A → ℕ
nothing a = 0

abbrev single : {A : Type 0} → A → ℕ
single a = 1

abbrev twice : json.Items → ℕ
twice js = 2 * count_json js

abbrev Behind : ℕ → Option (List Token) → Type 0
Behind m None = Unit {0}
Behind m (Some rest) = AreTexts rest × (weight true rest < m)

after_end : (ts : List Token) → AreTexts ts → Behind (weight true ts) (after_end_array ts)
after_end [] texts = tt
after_end (token.begin_object ∷ ts) texts = tt
after_end (token.end_object ∷ ts) texts = tt
after_end (token.begin_array ∷ ts) texts = tt
after_end (token.end_array ∷ ts) texts = (texts.1, omega arith)
after_end (token.key s ∷ ts) texts = tt
after_end (token.string s ∷ ts) texts = tt
after_end (token.number s ∷ ts) texts = tt
after_end (token.boolean b ∷ ts) texts = tt
after_end (token.null ∷ ts) texts = tt
after_end (token.bad ∷ ts) texts = tt

module _ (n : ℕ) (p : Parse json.Json) (value_reads : IsReader (IsJson n) single n p) where
  item_more : (more : Parse json.Items) → IsReader (AreJson n) twice n more → (m : ℕ) → m ≤ n + 2 → (o : Option (json.Json × List Token)) → Reads (IsJson n) single m o
      → Reads (AreJson n) twice m (option_and_then (λ q. parse_map (json.item q.0) (more q.1)) o)
  item_more more reads m low None one = tt
  item_more more reads m low (Some q) one =
      let short : 1 + weight true q.1 < m = one.2 in
      mapped (AreJson n) twice (AreJson n) twice (weight true q.1) m (json.item q.0) (more q.1) (λ js r are below. ((one.0, are), omega (arith, below, short))) (reads.of q.1 one.1 (omega (arith, short, low)))

  items_read : (k : ℕ) → IsReader (AreJson n) twice n (items p k)
  unfolding items
  items_read zero = record { of = λ ts texts few. tt }
  items_read (suc k) = record { of = λ ts texts few. by ts (after_end_array ts) texts few (after_end ts texts) (items_read k) }
    where
      by : (ts : List Token) (o : Option (List Token)) → AreTexts ts → weight true ts ≤ n + 2 → Behind (weight true ts) o → IsReader (AreJson n) twice n (items p k) → Reads (AreJson n) twice (weight true ts) (items_step p (items p k) ts o)
      by ts None texts few behind more = item_more (items p k) more (weight true ts) few (p ts) (value_reads.of ts texts few)
      by ts (Some rest) texts few behind more = (tt, behind.0, omega (arith, behind.1))

  member_more : (key : List ℕ) → IsUtf8 key → (more : Parse json.Members) → IsReader (HaveJson n) nothing n more → (m l : ℕ) → m ≤ n + 2 → m ≤ l → (o : Option (json.Json × List Token)) → Reads (IsJson n) single m o
      → Reads (HaveJson n) nothing l (option_and_then (λ q. parse_map (json.member key q.0) (more q.1)) o)
  member_more key text more reads m l low most None one = tt
  member_more key text more reads m l low most (Some q) one =
      let short : 1 + weight true q.1 < m = one.2 in
      mapped (HaveJson n) nothing (HaveJson n) nothing (weight true q.1) l (json.member key q.0) (more q.1) (λ ms r have below. ((text, one.0, have), omega (arith, below, short, most))) (reads.of q.1 one.1 (omega (arith, short, low)))

  members_read : (k : ℕ) → IsReader (HaveJson n) nothing n (members p k)
  unfolding members
  members_read zero = record { of = λ ts texts few. tt }
  members_read (suc k) = record { of = λ ts texts few. by ts texts few (members_read k) }
    where
      by : (ts : List Token) → AreTexts ts → weight true ts ≤ n + 2 → IsReader (HaveJson n) nothing n (members p k) → Reads (HaveJson n) nothing (weight true ts) (option_and_then (λ q. members_step p (members p k) q.0 q.1) (read_key ts))
      by [] texts few more = tt
      by (token.begin_object ∷ ts) texts few more = tt
      by (token.end_object ∷ ts) texts few more = (tt, texts.1, omega arith)
      by (token.begin_array ∷ ts) texts few more = tt
      by (token.end_array ∷ ts) texts few more = tt
      by (token.key s ∷ ts) texts few more =
          let close = near ts in
          member_more s texts.0 (members p k) more (weight true ts) (2 + weight false ts) (omega (arith, few, close)) (omega (arith, close)) (p ts) (value_reads.of ts texts.1 (omega (arith, few, close)))
      by (token.string s ∷ ts) texts few more = tt
      by (token.number s ∷ ts) texts few more = tt
      by (token.boolean b ∷ ts) texts few more = tt
      by (token.null ∷ ts) texts few more = tt
      by (token.bad ∷ ts) texts few more = tt

-- one level
level : (n : ℕ) (a : Parse json.Items) (o : Parse json.Members) → IsReader (AreJson n) twice n a → IsReader (HaveJson n) nothing n o → IsReader (IsJson n) single n (value_with a o)
level n a o lists objects = record { of = by }
  where
    by : (ts : List Token) → AreTexts ts → weight true ts ≤ n + 2 → Reads (IsJson n) single (weight true ts) (value_with a o ts)
    by [] texts few = tt
    by (token.begin_object ∷ ts) texts few =
        let close = near ts in
        mapped (HaveJson n) nothing (IsJson n) single (weight true ts) (2 + weight false ts) json.object (o ts) (λ ms r have below. (have, omega (arith, below, close))) (objects.of ts texts.1 (omega (arith, few, close)))
    by (token.end_object ∷ ts) texts few = tt
    by (token.begin_array ∷ ts) texts few =
        let close = near ts in
        mapped (AreJson n) twice (IsJson n) single (weight true ts) (2 + weight false ts) json.array (a ts) (λ js r are below. ((omega (arith, below, few, close), are), omega (arith, below, close))) (lists.of ts texts.1 (omega (arith, few, close)))
    by (token.end_array ∷ ts) texts few = tt
    by (token.key s ∷ ts) texts few = tt
    by (token.string s ∷ ts) texts few = (texts.0, texts.1, omega arith)
    by (token.number s ∷ ts) texts few = (tt, texts.1, omega arith)
    by (token.boolean b ∷ ts) texts few = (tt, texts.1, omega arith)
    by (token.null ∷ ts) texts few = (tt, texts.1, omega arith)
    by (token.bad ∷ ts) texts few = tt

value_read : (n depth : ℕ) → IsReader (IsJson n) single n (value depth)
unfolding value
value_read n zero = level n (λ more. None) (λ more. None) (record { of = λ more are few. tt }) (record { of = λ more are few. tt })
value_read n (suc depth) =
    let inner = value_read n depth in
    level n (λ more. items (value depth) (length more) more) (λ more. members (value depth) (length more) more)
    (record { of = λ more are few. (items_read n (value depth) inner (length more)).of more are few })
    (record { of = λ more are few. (members_read n (value depth) inner (length more)).of more are few })

-- ---- data

number_held : (s : List ℕ) (x : Num) → number_of s ≡ Some x → IsNumber x
unfolding number_of
number_held s x is = by _ is
  where
    floats : (sign : Bool) (p : Parts) → float_of sign p ≡ Some x → IsNumber x
    floats sign p e = go (float_is_finite (nearest binary64 sign p)) e
      where
        go : (t : Bool) → cond t (Some (float (nearest binary64 sign p))) None ≡ Some x → IsNumber x
        go true given = let same : float (nearest binary64 sign p) ≡ x = cc in subst IsNumber same tt
        go false given = absurd (cc)

    naturals : (p : Parts) → number_from false p ≡ Some x → IsNumber x
    naturals p e = go (is_integer p && nat_lt (digits_of p) (2 ^ 64)) refl e
      where
        go : (t : Bool) → (is_integer p && nat_lt (digits_of p) (2 ^ 64)) ≡ t → cond t (Some (unsigned (digits_of p))) (float_of false p) ≡ Some x → IsNumber x
        go true so given = let same : unsigned (digits_of p) ≡ x = cc in subst IsNumber same (ltb-true (digits_of p) (2 ^ 64) (and_parts (is_integer p) _ so).1)
        go false so given = floats false p given

    least : (n : ℕ) → 0 < n → n ≤ 2 ^ 63 → (negsuc 9223372036854775807 ≤ℤ neg_ℤ (pos n)) × (neg_ℤ (pos n) ≤ℤ pos 0)
    least n some most = (omega (arith, ints, some, most), omega (arith, ints, some, most))

    negatives : (p : Parts) → number_from true p ≡ Some x → IsNumber x
    negatives p e = go (is_integer p && nat_lt 0 (digits_of p) && nat_le (digits_of p) (2 ^ 63)) refl e
      where
        go : (t : Bool) → (is_integer p && nat_lt 0 (digits_of p) && nat_le (digits_of p) (2 ^ 63)) ≡ t → cond t (Some (negative (neg_ℤ (pos (digits_of p))))) (float_of true p) ≡ Some x → IsNumber x
        go true so given =
            let parts = and_parts (is_integer p && nat_lt 0 (digits_of p)) _ so in
            let some = ltb-true 0 (digits_of p) (and_parts (is_integer p) _ parts.0).1 in
            let same : negative (neg_ℤ (pos (digits_of p))) ≡ x = cc in
            subst IsNumber same (least (digits_of p) some (leb-true (digits_of p) (2 ^ 63) parts.1))
        go false so given = floats true p given

    by : (t : Bool) → cond t (number_from true (scan (drop 1 s))) (number_from false (scan s)) ≡ Some x → IsNumber x
    by true given = negatives (scan (drop 1 s)) given
    by false given = naturals (scan s) given

chosen : (o : Ordering) (n : ℕ) (a b c : Members) → HaveHeld n a → HaveHeld n b → HaveHeld n c → HaveHeld n (match_ordering o a b c)
chosen Less n a b c x y z = x
chosen Equal n a b c x y z = y
chosen Greater n a b c x y z = z

put_held : (n : ℕ) (k : List ℕ) (d : Data) (ms : Members) → IsUtf8 k → IsHeld n d → HaveHeld n ms → HaveHeld n (put k d ms)
put_held n k d no_members name value rest = (name, value, tt)
put_held n k d (member l e ms) name value rest =
    chosen (slice_cmp nat_cmp k l) n (member k d (member l e ms)) (member l d ms) (member l e (put k d ms)) (name, value, rest) (rest.0, value, rest.2) (rest.0, rest.1, put_held n k d ms name value rest.2)

-- what there is of data is held
abbrev MayHold : ℕ → Option Data → Type 0
MayHold n None = Unit {0}
MayHold n (Some d) = IsHeld n d

abbrev MayList : ℕ → ℕ → Option Items → Type 0
MayList n count None = Unit {0}
MayList n count (Some ds) = AreHeld n ds × (count_of ds ≡ count)

abbrev MayHave : ℕ → Option Members → Type 0
MayHave n None = Unit {0}
MayHave n (Some ms) = HaveHeld n ms

as_number : (n : ℕ) (o : Option Num) → ((x : Num) → o ≡ Some x → IsNumber x) → MayHold n (option_map number o)
as_number n None each = tt
as_number n (Some x) each = each x refl

as_array : (n count : ℕ) (o : Option Items) → 2 * count ≤ n → MayList n count o → MayHold n (option_map array o)
as_array n count None few may = tt
as_array n count (Some ds) few may = (omega (arith, few, may.1), may.0)

as_object : (n : ℕ) (o : Option Members) → MayHave n o → MayHold n (option_map object o)
as_object n None may = tt
as_object n (Some ms) may = may

one_item : (n count : ℕ) (d : Data) (o : Option Items) → IsHeld n d → MayList n count o → MayList n (suc count) (option_map (item d) o)
one_item n count d None is may = tt
one_item n count d (Some ds) is may = ((is, may.0), omega (arith, may.1))

more_items : (n count : ℕ) (o : Option Data) (p : Option Items) → MayHold n o → MayList n count p → MayList n (suc count) (option_and_then (λ d. option_map (item d) p) o)
more_items n count None p one may = tt
more_items n count (Some d) p one may = one_item n count d p one may

more_members : (n : ℕ) (f : Data → Option Members) (o : Option Data) → MayHold n o → ((d : Data) → IsHeld n d → MayHave n (f d)) → MayHave n (option_and_then f o)
more_members n f None one each = tt
more_members n f (Some d) one each = each d one

mutual
  of_json_held : (n : ℕ) (j : json.Json) → IsJson n j → MayHold n (of_json j)
  of_json_held n json.null is = tt
  of_json_held n (json.boolean b) is = tt
  of_json_held n (json.number s) is = as_number n (number_of s) (number_held s)
  of_json_held n (json.string s) is = is
  of_json_held n (json.array js) is = as_array n (count_json js) (of_items js) is.0 (of_items_held n js is.1)
  of_json_held n (json.object ms) is = as_object n (of_members ms no_members) (of_members_held n ms no_members is tt)

  of_items_held : (n : ℕ) (js : json.Items) → AreJson n js → MayList n (count_json js) (of_items js)
  of_items_held n json.no_items are = (tt, refl)
  of_items_held n (json.item j js) are = more_items n (count_json js) (of_json j) (of_items js) (of_json_held n j are.0) (of_items_held n js are.1)

  of_members_held : (n : ℕ) (ms : json.Members) (found : Members) → HaveJson n ms → HaveHeld n found → MayHave n (of_members ms found)
  of_members_held n json.no_members found have held = held
  of_members_held n (json.member k j ms) found have held =
      more_members n (λ d. of_members ms (put k d found)) (of_json j) (of_json_held n j have.1) (λ d is. of_members_held n ms (put k d found) have.2 (put_held n k d found have.0 is held))

-- the value, where nothing follows it
last_held : (n m : ℕ) (o : Option (json.Json × List Token)) → Reads (IsJson n) single m o → MayHold n (option_and_then of_json (option_and_then (λ p. if_last p.0 p.1) o))
last_held n m None reads = tt
last_held n m (Some (j, [])) reads = of_json_held n j reads.0
last_held n m (Some (j, t ∷ ts)) reads = tt

read_held : (text : List ℕ) → IsUtf8 text → MayHold (length text) (read text)
read_held text is =
    let are = text_tokens text is in
    let close = near (tokens text) in
    last_held (length text) (weight true (tokens text)) (value max_depth (tokens text)) ((value_read (length text) max_depth).of (tokens text) are.texts (omega (arith, are.few, close)))

-- what bytes are as JSON
pub data_held : (bytes : List ℕ) (d : Data) → data_of bytes ≡ Some d → IsHeld (length bytes) d
unfolding data_of
data_held bytes d is = by (is_utf8 bytes) refl is
  where
    found : (o : Option Data) → MayHold (length bytes) o → o ≡ Some d → IsHeld (length bytes) d
    found None may given = absurd (cc)
    found (Some e) may given = let same : e ≡ d = cc in subst (IsHeld (length bytes)) same may

    by : (t : Bool) → is_utf8 bytes ≡ t → cond t (read bytes) None ≡ Some d → IsHeld (length bytes) d
    by true text given = found (read bytes) (read_held bytes (IsUtf8-from_is_utf8 bytes text)) given
    by false text given = absurd (cc)
