-- The texts of JSON are UTF-8, where its bytes are.
use Rattle.std.proofs.Common.{◌≡◌, ℕ, zero, suc, ◌+◌, ◌*◌, ◌<◌, ◌≤◌, Bool, true, false, cond, ◌&&◌, ◌||◌, ◌==◌, nat_lt, nat_le, List, [], ◌∷◌, ◌++◌, length, drop, get_or, Option, Some, None, option_and_then, IsUtf8, inl, inr, refl, sym, ap, ◌∙◌, subst, arith, append_assoc, append-nil, ltb-true, leb-true, eqb-true}
use Rattle.std.proofs.lemmas.Bool.{and_parts, cases_lt}
use Rattle.std.proofs.lemmas.Bool.Decides.{nat_tests}
use Rattle.std.proofs.lemmas.List.{length-append}
use Rattle.std.proofs.lemmas.Str.{IsUtf8-append, IsUtf8-nil, IsUtf8-encode, IsUtf8-drop, IsCharBoundary-after_ascii, encode_ascii, inside_one, length-encode, len_utf8_bounds}
use Rattle.std.specs.Char.{digit_value, is_digit, encode_utf8}
use lib.Utf8.{scalar, scalars, encode, encodes, low_scalar}
use lib.Seq.{drop_at}
use Rattle.json.specs.Text.{code_unit, short_escape, is_high_surrogate, is_low_surrogate, surrogate_pair, plain, after_backslash, after_u, after_high, prepend, content}

-- what there is of a text is UTF-8
abbrev pub IsText : Option (List ℕ) → Type 0
IsText None = Unit {0}
IsText (Some s) = IsUtf8 s

ascii_one : (x : ℕ) → x < 128 → IsUtf8 (x ∷ [])
ascii_one x small = subst IsUtf8 (encode_ascii x small) (IsUtf8-encode x (low_scalar x (omega arith)))

-- what follows an ASCII byte
pub tail_utf8 : (before : List ℕ) (x : ℕ) (xs : List ℕ) → IsUtf8 (before ++ x ∷ xs) → x < 128 → IsUtf8 xs
tail_utf8 before x xs whole small =
    let at : (before ++ x ∷ []) ++ xs ≡ before ++ x ∷ xs = append_assoc before (x ∷ []) xs in
    let long : length (before ++ x ∷ []) ≡ length before + 1 = length-append before (x ∷ []) in
    let size : length (before ++ x ∷ xs) ≡ length before + length (x ∷ xs) = length-append before (x ∷ xs) in
    let low : get_or (before ++ x ∷ xs) (length before) 0 < 128 = subst (λ b. b < 128) (sym (here before)) small in
    subst IsUtf8 (ap (drop (length before + 1)) (sym at) ∙ drop_at (before ++ x ∷ []) xs (length before + 1) long)
    (IsUtf8-drop (before ++ x ∷ xs) (length before + 1) whole (IsCharBoundary-after_ascii (before ++ x ∷ xs) (length before) whole (omega (arith, size)) low))
  where
    here : (bs : List ℕ) → get_or (bs ++ x ∷ xs) (length bs) 0 ≡ x
    here [] = refl
    here (b ∷ bs) = here bs

tail_of : (x : ℕ) (xs : List ℕ) → IsUtf8 (x ∷ xs) → x < 128 → IsUtf8 xs
tail_of x xs whole small = tail_utf8 [] x xs whole small

prepend_text : (ys : List ℕ) (o : Option (List ℕ)) → IsUtf8 ys → IsText o → IsText (prepend ys o)
prepend_text ys None one other = tt
prepend_text ys (Some s) one other = IsUtf8-append ys s one other

digit_ascii : (a : ℕ) → is_digit a 16 ≡ true → a < 128
digit_ascii a is = elim (cases_lt a 123) [ inl low ↦ omega arith | inr high ↦ absurd (none high (ltb-true (digit_value a) 16 is)) ]
  where
    none : 123 ≤ a → digit_value a < 16 → ⊥
    none high low = grind (arith, nat_tests)

digit_small : (a : ℕ) → is_digit a 16 ≡ true → digit_value a < 16
digit_small a is = ltb-true (digit_value a) 16 is

-- four hex digits and their number
record AreDigits (a b c d u : ℕ) : Type 0 where
  ascii : (a < 128) × (b < 128) × (c < 128) × (d < 128)
  small : u < 65536

four_digits : (a b c d u : ℕ) → code_unit a b c d ≡ Some u → AreDigits a b c d u
unfolding code_unit
four_digits a b c d u is = by (is_digit a 16 && is_digit b 16 && is_digit c 16 && is_digit d 16) refl is
  where
    by : (t : Bool) → (is_digit a 16 && is_digit b 16 && is_digit c 16 && is_digit d 16) ≡ t → cond t (Some (digit_value a * 4096 + digit_value b * 256 + digit_value c * 16 + digit_value d)) None ≡ Some u → AreDigits a b c d u
    by true e given =
        let p = and_parts (is_digit a 16 && is_digit b 16 && is_digit c 16) (is_digit d 16) e in
        let q = and_parts (is_digit a 16 && is_digit b 16) (is_digit c 16) p.0 in
        let r = and_parts (is_digit a 16) (is_digit b 16) q.0 in
        let same : digit_value a * 4096 + digit_value b * 256 + digit_value c * 16 + digit_value d ≡ u = cc in
        let one = digit_small a r.0 in
        let two = digit_small b r.1 in
        let three = digit_small c q.1 in
        let four = digit_small d p.1 in
        record {
          ascii = (digit_ascii a r.0, digit_ascii b r.1, digit_ascii c q.1, digit_ascii d p.1);
          small = omega (arith, same, one, two, three, four);
        }
    by false e given = absurd (cc)

short_ascii : (x c : ℕ) → short_escape x ≡ Some c → (x < 128) × (c < 128)
unfolding short_escape
short_ascii x c is = by ((x == 34) || (x == 92) || (x == 47)) refl is
  where
    at : (y n m : ℕ) (more : Option ℕ) → n < 128 → m < 128 → (x == n) ≡ (x == n) → (more ≡ Some c → (x < 128) × (c < 128)) → cond (x == n) (Some m) more ≡ Some c → (x < 128) × (c < 128)
    at y n m more one other same rest given = go (x == n) refl given
      where
        go : (t : Bool) → (x == n) ≡ t → cond t (Some m) more ≡ Some c → (x < 128) × (c < 128)
        go true e is_c = let here : x ≡ n = eqb-true x n e in let there : m ≡ c = cc in (omega (arith, here), omega (arith, there))
        go false e is_c = rest is_c

    by : (t : Bool) → ((x == 34) || (x == 92) || (x == 47)) ≡ t
        → cond t (Some x) (cond (x == 98) (Some 8) (cond (x == 102) (Some 12) (cond (x == 110) (Some 10) (cond (x == 114) (Some 13) (cond (x == 116) (Some 9) None))))) ≡ Some c → (x < 128) × (c < 128)
    by true e given =
        let low : x < 128 = grind (arith, nat_tests, e) in
        let same : x ≡ c = cc in
        (low, omega (arith, low, same))
    by false e given =
        at x 98 8 _ (omega arith) (omega arith) refl
        (at x 102 12 _ (omega arith) (omega arith) refl
        (at x 110 10 _ (omega arith) (omega arith) refl
        (at x 114 13 _ (omega arith) (omega arith) refl
        (at x 116 9 _ (omega arith) (omega arith) refl (λ none. absurd (cc)))))) given

unit_scalar : (u : ℕ) → u < 65536 → is_high_surrogate u ≡ false → is_low_surrogate u ≡ false → scalar u ≡ true
unit_scalar u small high low = elim (cases_lt u 55296) [ inl less ↦ low_scalar u less | inr more ↦ elim (cases_lt u 57344) [ inl less ↦ absurd (surrogate less more) | inr above ↦ grind (arith, nat_tests) ] ]
  where
    surrogate : u < 57344 → 55296 ≤ u → ⊥
    surrogate less more = grind (arith, nat_tests)

pair_scalar : (h l : ℕ) → is_high_surrogate h ≡ true → is_low_surrogate l ≡ true → scalar (surrogate_pair h l) ≡ true
pair_scalar h l high low =
    let p = and_parts (nat_le 0xd800 h) (nat_lt h 0xdc00) high in
    let q = and_parts (nat_le 0xdc00 l) (nat_lt l 0xe000) low in
    let a = leb-true 0xd800 h p.0 in
    let b = ltb-true h 0xdc00 p.1 in
    let c = leb-true 0xdc00 l q.0 in
    let d = ltb-true l 0xe000 q.1 in
    let above : 57344 ≤ surrogate_pair h l = omega (arith, a, b, c, d) in
    let below : surrogate_pair h l < 1114112 = omega (arith, a, b, c, d) in
    far (surrogate_pair h l) above below
  where
    far : (n : ℕ) → 57344 ≤ n → n < 1114112 → scalar n ≡ true
    far n above below = grind (arith, nat_tests)

high_run : (ys rest : List ℕ) → ((k : ℕ) → k < length ys → 128 ≤ get_or ys k 0) → content plain (ys ++ rest) ≡ prepend ys (content plain rest)
unfolding content
high_run [] rest high = by (content plain rest)
  where
    by : (o : Option (List ℕ)) → o ≡ prepend [] o
    by None = refl
    by (Some s) = refl
high_run (y ∷ ys) rest high =
    let here : 128 ≤ y = high 0 (omega arith) in
    let one : (y == 34) ≡ false = grind (arith, nat_tests) in
    let two : (y == 92) ≡ false = grind (arith, nat_tests) in
    let three : nat_lt y 32 ≡ false = grind (arith, nat_tests) in
    let more = high_run ys rest (λ k below. high (suc k) (omega arith)) in
    (λ i. cond (one i) (Some []) (cond (two i) (content after_backslash (ys ++ rest)) (cond (three i) None (prepend (y ∷ []) (more i)))))
    ∙ by (content plain rest)
  where
    by : (o : Option (List ℕ)) → prepend (y ∷ []) (prepend ys o) ≡ prepend (y ∷ ys) o
    by None = refl
    by (Some s) = refl

-- what this may go on with
record Goes (n : ℕ) : Type 0 where
  on : (xs : List ℕ) → length xs ≤ n → IsUtf8 xs → IsText (content plain xs)

choose : (t : Bool) (x y : Option (List ℕ)) → (t ≡ true → IsText x) → (t ≡ false → IsText y) → IsText (cond t x y)
choose true x y one other = one refl
choose false x y one other = other refl

bind_text : (f : ℕ → Option (List ℕ)) (o : Option ℕ) → ((u : ℕ) → o ≡ Some u → IsText (f u)) → IsText (option_and_then f o)
bind_text f None each = tt
bind_text f (Some u) each = each u refl

high_text : (n : ℕ) → Goes n → (h : ℕ) → is_high_surrogate h ≡ true → (xs : List ℕ) → length xs ≤ n → IsUtf8 xs → IsText (content (after_high h) xs)
unfolding content
high_text n goes h high [] few text = tt
high_text n goes h high (s ∷ []) few text = tt
high_text n goes h high (s ∷ u ∷ []) few text = tt
high_text n goes h high (s ∷ u ∷ a ∷ []) few text = tt
high_text n goes h high (s ∷ u ∷ a ∷ b ∷ []) few text = tt
high_text n goes h high (s ∷ u ∷ a ∷ b ∷ c ∷ []) few text = tt
high_text n goes h high (s ∷ u ∷ a ∷ b ∷ c ∷ d ∷ xs) few text =
    choose ((s == 92) && (u == 117)) _ None
    (λ is.
    let p = and_parts (s == 92) (u == 117) is in
    let first : s ≡ 92 = eqb-true s 92 p.0 in
    let second : u ≡ 117 = eqb-true u 117 p.1 in
    let after = tail_of u (a ∷ b ∷ c ∷ d ∷ xs) (tail_of s (u ∷ a ∷ b ∷ c ∷ d ∷ xs) text (omega (arith, first))) (omega (arith, second)) in
    bind_text _ (code_unit a b c d)
    (λ l unit.
    let digits = four_digits a b c d l unit in
    let rest = tail_of d xs (tail_of c (d ∷ xs) (tail_of b (c ∷ d ∷ xs) (tail_of a (b ∷ c ∷ d ∷ xs) after digits.ascii.0) digits.ascii.1) digits.ascii.2) digits.ascii.3 in
    choose (is_low_surrogate l) _ None
    (λ low. prepend_text (encode_utf8 (surrogate_pair h l)) (content plain xs) (IsUtf8-encode (surrogate_pair h l) (pair_scalar h l high low)) (goes.on xs (omega (arith, few)) rest))
    (λ low. tt)))
    (λ is. tt)

unit_text : (n : ℕ) → Goes n → (xs : List ℕ) → length xs ≤ n → IsUtf8 xs → IsText (content after_u xs)
unfolding content
unit_text n goes [] few text = tt
unit_text n goes (a ∷ []) few text = tt
unit_text n goes (a ∷ b ∷ []) few text = tt
unit_text n goes (a ∷ b ∷ c ∷ []) few text = tt
unit_text n goes (a ∷ b ∷ c ∷ d ∷ xs) few text =
    bind_text _ (code_unit a b c d)
    (λ u unit.
    let digits = four_digits a b c d u unit in
    let rest = tail_of d xs (tail_of c (d ∷ xs) (tail_of b (c ∷ d ∷ xs) (tail_of a (b ∷ c ∷ d ∷ xs) text digits.ascii.0) digits.ascii.1) digits.ascii.2) digits.ascii.3 in
    choose (is_high_surrogate u) _ _
    (λ high. high_text n goes u high xs (omega (arith, few)) rest)
    (λ high. choose (is_low_surrogate u) None _ (λ low. tt)
    (λ low. prepend_text (encode_utf8 u) (content plain xs) (IsUtf8-encode u (unit_scalar u digits.small high low)) (goes.on xs (omega (arith, few)) rest))))

escape_text : (n : ℕ) → Goes n → (xs : List ℕ) → length xs ≤ n → IsUtf8 xs → IsText (content after_backslash xs)
unfolding content
escape_text n goes [] few text = tt
escape_text n goes (x ∷ xs) few text =
    choose (x == 117) _ _
    (λ is. let same : x ≡ 117 = eqb-true x 117 is in unit_text n goes xs (omega (arith, few)) (tail_of x xs text (omega (arith, same))))
    (λ is. bind_text _ (short_escape x)
    (λ c short.
    let small = short_ascii x c short in
    prepend_text (c ∷ []) (content plain xs) (ascii_one c small.1) (goes.on xs (omega (arith, few)) (tail_of x xs text small.0))))

ascii_text : (n x : ℕ) (xs : List ℕ) → Goes n → length xs ≤ n → IsUtf8 xs → x < 128 → IsText (content plain (x ∷ xs))
unfolding content
ascii_text n x xs goes few text small =
    choose (x == 34) (Some []) _ (λ is. IsUtf8-nil)
    (λ no_quote. choose (x == 92) _ _ (λ is. escape_text n goes xs few text)
    (λ no_slash. choose (nat_lt x 32) None _ (λ is. tt)
    (λ is. prepend_text (x ∷ []) (content plain xs) (ascii_one x small) (goes.on xs few text))))

encode_some : (c : ℕ) → 1 ≤ length (encode c)
encode_some c = let size = length-encode c in let bounds = len_utf8_bounds c in omega (arith, size, bounds.0)

all_text : (n : ℕ) → Goes n
unfolding content
all_text zero = record { on = none }
  where
    none : (xs : List ℕ) → length xs ≤ 0 → IsUtf8 xs → IsText (content plain xs)
    none [] few text = tt
    none (x ∷ xs) few text = absurd (omega arith)
all_text (suc n) = record { on = λ xs few text. by xs few text.0 text.1.0 text.1.1 (all_text n) }
  where
    begun : (c : ℕ) (rest : List ℕ) → length (encode c ++ rest) ≤ suc n → scalar c ≡ true → IsUtf8 rest → Goes n → IsText (content plain (encode c ++ rest))
    begun c rest few is text goes = elim (cases_lt c 128) [
      | inl small ↦ subst (λ ys. IsText (content plain (ys ++ rest))) (sym (encode_ascii c small))
          (let size : length (encode c ++ rest) ≡ length (c ∷ rest) = ap (λ ys. length (ys ++ rest)) (encode_ascii c small) in
          ascii_text n c rest goes (omega (arith, size, few)) text small)
      | inr big ↦
          let high : (k : ℕ) → k < length (encode c) → 128 ≤ get_or (encode c) k 0 = λ k below. elim (cases_lt (get_or (encode c) k 0) 128) [
            | inl low ↦ absurd (omega (arith, inside_one c [] (encode c) k (sym (append-nil _)) below low))
            | inr h ↦ h
          ] in
          let size : length (encode c ++ rest) ≡ length (encode c) + length rest = length-append (encode c) rest in
          let some = encode_some c in
          subst IsText (sym (high_run (encode c) rest high)) (prepend_text (encode c) (content plain rest) (IsUtf8-encode c is) (goes.on rest (omega (arith, size, few, some)) text))
    ]

    by : (xs : List ℕ) → length xs ≤ suc n → (cs : List ℕ) → scalars cs ≡ true → encodes cs ≡ xs → Goes n → IsText (content plain xs)
    by xs few [] ok spells goes = subst (λ ys. IsText (content plain ys)) spells tt
    by xs few (c ∷ cs) ok spells goes =
        let p = and_parts (scalar c) (scalars cs) ok in
        let size : length (encode c ++ encodes cs) ≡ length xs = ap length spells in
        subst (λ ys. IsText (content plain ys)) spells (begun c (encodes cs) (omega (arith, size, few)) p.0 (cs, (p.1, refl)) goes)

-- the content of a string
pub content_utf8 : (xs : List ℕ) → IsUtf8 xs → IsText (content plain xs)
content_utf8 xs text = (all_text (length xs)).on xs (omega arith) text
