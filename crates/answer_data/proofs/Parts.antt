-- The text of data is UTF-8, on one line, and without white space outside of texts.
use Rattle.std.proofs.Common.{◌≡◌, ◌≤◌, ◌<◌, ◌^◌, ◌==◌, ℕ, zero, suc, pos, negsuc, Bool, true, false, cond, List, [], ◌∷◌, ◌++◌, inl, inr, refl, sym, ap, ◌∙◌, subst, arith, append_assoc, decimal, IsUtf8}
use Rattle.std.specs.Char.{digit_value}
use Rattle.std.specs.Str.Parse.{AllDigits}
use Rattle.std.proofs.lemmas.Bool.{cases_eq, cases_lt, ne_eqb, or_parts}
use Rattle.std.proofs.lemmas.Fmt.{decimal_is_IsNumeral}
use Rattle.std.proofs.lemmas.Str.{IsUtf8-append}
use Rattle.json.specs.Print.{escape_byte, escape, quoted}
use Rattle.json.proofs.Printed.Strings.{escape_byte_plain}
use Rattle.json.proofs.Printed.Utf8.{IsUtf8-quoted, IsUtf8-are_ascii, are_ascii}
use Rattle.serde_json.specs.Data.{Num, unsigned, negative, float, Data, null, boolean, number, string, array, object, Items, no_items, item, Members, no_members, member}
use Rattle.serde_json.specs.Written.{number_text, compact_text, items_text, members_text}
use Rattle.answer_data.specs.Lines.{outside, inside, escaped, is_compact, has_lf}
use Rattle.answer_data.specs.Printable.{IsInteger, IsSpelled, AreSpelled, HasSpelled}

-- bytes that may stand between texts: UTF-8, no LF among them, and what follows is outside of texts again
pub record IsPart (bytes : List ℕ) : Type 0 where
  pub utf8 : IsUtf8 bytes
  pub one_line : has_lf bytes ≡ false
  pub compact : (rest : List ℕ) → is_compact outside (bytes ++ rest) ≡ is_compact outside rest

has_lf-append : (xs ys : List ℕ) → has_lf xs ≡ false → has_lf ys ≡ false → has_lf (xs ++ ys) ≡ false
has_lf-append [] ys none more = more
has_lf-append (x ∷ xs) ys none more = let p = or_parts (x == 10) (has_lf xs) none in rw (p.0) (has_lf-append xs ys p.1 more)

IsPart-append : (xs ys : List ℕ) → IsPart xs → IsPart ys → IsPart (xs ++ ys)
IsPart-append xs ys one two = record {
  utf8 = IsUtf8-append xs ys one.utf8 two.utf8;
  one_line = has_lf-append xs ys one.one_line two.one_line;
  compact = λ rest. ap (is_compact outside) (append_assoc xs ys rest) ∙ one.compact (ys ++ rest) ∙ two.compact rest;
}

-- punctuation and words
IsPart-closed : (xs : List ℕ) → are_ascii xs ≡ true → has_lf xs ≡ false → ((rest : List ℕ) → is_compact outside (xs ++ rest) ≡ is_compact outside rest) → IsPart xs
IsPart-closed xs ascii none compact = record { utf8 = IsUtf8-are_ascii xs ascii; one_line = none; compact = compact }

comma : IsPart (44 ∷ [])
comma = IsPart-closed (44 ∷ []) refl refl (λ rest. refl)

colon : IsPart (58 ∷ [])
colon = IsPart-closed (58 ∷ []) refl refl (λ rest. refl)

-- ---- texts

-- what stands in a string for a byte stays inside of the text, and is no LF
record IsInner (bytes : List ℕ) : Type 0 where
  pub one_line : has_lf bytes ≡ false
  pub compact : (rest : List ℕ) → is_compact inside (bytes ++ rest) ≡ is_compact inside rest

abbrev Below : (ℕ → Type 0) → ℕ → Type 0
Below P zero = Unit {0}
Below P (suc n) = P n × Below P n

below_at : (P : ℕ → Type 0) (n : ℕ) → Below P n → (x : ℕ) → x < n → P x
below_at P zero all x less = absurd (omega arith)
below_at P (suc n) all x less =
    elim (cases_eq x n) [ inl same ↦ subst P (sym same) all.0 | inr other ↦ below_at P n all.1 x (omega arith) ]

abbrev is_inner : ℕ → Type 0
is_inner x = IsInner (escape_byte x)

inner : (x : ℕ) → has_lf (escape_byte x) ≡ false → ((rest : List ℕ) → is_compact inside (escape_byte x ++ rest) ≡ is_compact inside rest) → is_inner x
inner x none compact = record { one_line = none; compact = compact }

controls : Below is_inner 32
unfolding escape_byte
controls = (
  inner 31 refl (λ r. refl),
  (
    inner 30 refl (λ r. refl),
    (
      inner 29 refl (λ r. refl),
      (
        inner 28 refl (λ r. refl),
        (
          inner 27 refl (λ r. refl),
          (
            inner 26 refl (λ r. refl),
            (
              inner 25 refl (λ r. refl),
              (
                inner 24 refl (λ r. refl),
                (
                  inner 23 refl (λ r. refl),
                  (
                    inner 22 refl (λ r. refl),
                    (
                      inner 21 refl (λ r. refl),
                      (
                        inner 20 refl (λ r. refl),
                        (
                          inner 19 refl (λ r. refl),
                          (
                            inner 18 refl (λ r. refl),
                            (
                              inner 17 refl (λ r. refl),
                              (
                                inner 16 refl (λ r. refl),
                                (
                                  inner 15 refl (λ r. refl),
                                  (
                                    inner 14 refl (λ r. refl),
                                    (
                                      inner 13 refl (λ r. refl),
                                      (
                                        inner 12 refl (λ r. refl),
                                        (
                                          inner 11 refl (λ r. refl),
                                          (
                                            inner 10 refl (λ r. refl),
                                            (
                                              inner 9 refl (λ r. refl),
                                              (
                                                inner 8 refl (λ r. refl),
                                                (
                                                  inner 7 refl (λ r. refl),
                                                  (
                                                    inner 6 refl (λ r. refl),
                                                    (
                                                      inner 5 refl (λ r. refl),
                                                      (
                                                        inner 4 refl (λ r. refl),
                                                        (
                                                          inner 3 refl (λ r. refl),
                                                          (inner 2 refl (λ r. refl), (inner 1 refl (λ r. refl), (inner 0 refl (λ r. refl), tt))),
                                                        ),
                                                      ),
                                                    ),
                                                  ),
                                                ),
                                              ),
                                            ),
                                          ),
                                        ),
                                      ),
                                    ),
                                  ),
                                ),
                              ),
                            ),
                          ),
                        ),
                      ),
                    ),
                  ),
                ),
              ),
            ),
          ),
        ),
      ),
    ),
  ),
)

quote_inner : is_inner 34
unfolding escape_byte
quote_inner = inner 34 refl (λ r. refl)

backslash_inner : is_inner 92
unfolding escape_byte
backslash_inner = inner 92 refl (λ r. refl)

plain_inner : (x : ℕ) → (x ≡ 34 → ⊥) → (x ≡ 92 → ⊥) → 32 ≤ x → is_inner x
plain_inner x quote backslash high =
    let one = escape_byte_plain x quote backslash high in
    subst IsInner (sym one) (record {
      one_line = rw (ne_eqb x 10 (λ e. omega arith)) refl;
      compact = λ rest. ap (λ b. is_compact (cond b escaped (cond (x == 34) outside inside)) rest) (ne_eqb x 92 backslash)
          ∙ ap (λ b. is_compact (cond b outside inside) rest) (ne_eqb x 34 quote);
    })

escape_inner : (x : ℕ) → is_inner x
escape_inner x = elim (cases_lt x 32) [
  | inl low ↦ below_at is_inner 32 controls x low
  | inr high ↦ elim (cases_eq x 34) [
    | inl is ↦ subst is_inner (sym is) quote_inner
    | inr no_quote ↦ elim (cases_eq x 92) [ inl is ↦ subst is_inner (sym is) backslash_inner | inr no_backslash ↦ plain_inner x no_quote no_backslash high ]
  ]
]

inner-escape : (s : List ℕ) → IsInner (escape s)
inner-escape [] = record { one_line = refl; compact = λ rest. refl }
inner-escape (x ∷ s) =
    let first = escape_inner x in
    let more = inner-escape s in
    record {
      one_line = has_lf-append (escape_byte x) (escape s) first.one_line more.one_line;
      compact = λ rest. ap (is_compact inside) (append_assoc (escape_byte x) (escape s) rest) ∙ first.compact (escape s ++ rest) ∙ more.compact rest;
    }

IsPart-quoted : (s : List ℕ) → IsUtf8 s → IsPart (quoted s)
IsPart-quoted s text =
    let within = inner-escape s in
    record {
      utf8 = IsUtf8-quoted s text;
      one_line = has_lf-append (escape s) (34 ∷ []) within.one_line refl;
      compact = λ rest. ap (is_compact inside) (append_assoc (escape s) (34 ∷ []) rest) ∙ within.compact (34 ∷ rest);
    }

-- ---- numbers

digit_range : (d : ℕ) → digit_value d < 10 → (48 ≤ d) × (d ≤ 57)
digit_range d h = grind arith

digit_part : (d : ℕ) → 48 ≤ d → d ≤ 57 → IsPart (d ∷ [])
digit_part d low high = record {
  utf8 = IsUtf8-are_ascii (d ∷ []) (grind arith);
  one_line = rw (ne_eqb d 10 (λ e. omega arith)) refl;
  compact = λ rest. rw (ne_eqb d 32 (λ e. omega arith), ne_eqb d 9 (λ e. omega arith), ne_eqb d 10 (λ e. omega arith), ne_eqb d 13 (λ e. omega arith), ne_eqb d 34 (λ e. omega arith)) refl;
}

digits_part : (ds : List ℕ) → AllDigits 10 ds → IsPart ds
digits_part [] all = IsPart-closed [] refl refl (λ rest. refl)
digits_part (d ∷ ds) all = let range = digit_range d all.0 in IsPart-append (d ∷ []) ds (digit_part d range.0 range.1) (digits_part ds all.1)

decimal_part : (n : ℕ) → n < 2 ^ 64 → IsPart (decimal n)
decimal_part n fits = digits_part (decimal n) (decimal_is_IsNumeral n fits).0.1

number_part : (n : Num) → IsInteger n → IsPart (number_text n)
number_part (unsigned n) fits = decimal_part n fits
number_part (negative (pos n)) fits = absurd fits
number_part (negative (negsuc n)) fits = IsPart-append (45 ∷ []) (decimal (suc n)) (IsPart-closed (45 ∷ []) refl refl (λ rest. refl)) (decimal_part (suc n) (omega arith))
number_part (float x) fits = absurd fits

-- ---- data

comma_part : (later : Bool) → IsPart (cond later (44 ∷ []) [])
comma_part true = comma
comma_part false = IsPart-closed [] refl refl (λ rest. refl)

boolean_part : (b : Bool) → IsPart (compact_text (boolean b))
boolean_part true = IsPart-closed _ refl refl (λ rest. refl)
boolean_part false = IsPart-closed _ refl refl (λ rest. refl)

mutual
  pub IsPart-compact_text : (d : Data) → IsSpelled d → IsPart (compact_text d)
  IsPart-compact_text null spelled = IsPart-closed _ refl refl (λ rest. refl)
  IsPart-compact_text (boolean b) spelled = boolean_part b
  IsPart-compact_text (number n) spelled = number_part n spelled
  IsPart-compact_text (string s) spelled = IsPart-quoted s spelled
  IsPart-compact_text (array ds) spelled = IsPart-append (91 ∷ []) (items_text false ds) (IsPart-closed (91 ∷ []) refl refl (λ rest. refl)) (IsPart-items_text false ds spelled)
  IsPart-compact_text (object ms) spelled = IsPart-append (123 ∷ []) (members_text false ms) (IsPart-closed (123 ∷ []) refl refl (λ rest. refl)) (IsPart-members_text false ms spelled)

  IsPart-items_text : (later : Bool) (ds : Items) → AreSpelled ds → IsPart (items_text later ds)
  IsPart-items_text later no_items spelled = IsPart-closed (93 ∷ []) refl refl (λ rest. refl)
  IsPart-items_text later (item d ds) spelled =
      IsPart-append _ (compact_text d ++ items_text true ds) (comma_part later)
      (IsPart-append (compact_text d) (items_text true ds) (IsPart-compact_text d spelled.0) (IsPart-items_text true ds spelled.1))

  IsPart-members_text : (later : Bool) (ms : Members) → HasSpelled ms → IsPart (members_text later ms)
  IsPart-members_text later no_members spelled = IsPart-closed (125 ∷ []) refl refl (λ rest. refl)
  IsPart-members_text later (member k d ms) spelled =
      IsPart-append _ _ (comma_part later)
      (IsPart-append (quoted k) _ (IsPart-quoted k spelled.0)
      (IsPart-append (58 ∷ []) (compact_text d ++ members_text true ms) colon
      (IsPart-append (compact_text d) (members_text true ms) (IsPart-compact_text d spelled.1) (IsPart-members_text true ms spelled.2))))
