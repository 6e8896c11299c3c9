-- The text of every answer reads back as the answer, where it reads at all.
use Rattle.std.proofs.Common.{◌≡◌, ◌↔◌, IsTrue, inl, inr, ◌<◌, ◌^◌, ◌++◌, ℕ, ℤ, zero, suc, pos, negsuc, List, [], ◌∷◌, Bool, true, false, cond, get_or, take, drop, map, decimal, Option, Some, None, refl, sym, ap, ◌∙◌, subst, arith, append_assoc}
use Rattle.std.specs.Prelude.{codes}
use Rattle.std.specs.Fmt.{signed_decimal}
use Rattle.std.specs.Int.{cast_signed, w64}
use Rattle.std.specs.List.{AllByRecursion}
use Rattle.std.specs.Str.{is_utf8, IsUtf8}
use Rattle.std.proofs.lemmas.Int.{ints}
use Rattle.json.specs.Print.{escape_byte}
use Rattle.serde_json.specs.Data.{Data}
use Rattle.serde_json.specs.Read.{read}
use Rattle.serde_json.specs.View.{items_of}
use Rattle.serde_json.specs.Written.{compact_text}
use Rattle.serde_json.specs.Written as json
use Rattle.json_forms.specs.Bytes.{data_of}
use Rattle.json_forms.specs.Numbers.{natural, integer}
use Rattle.cells.specs.Numbers.{number_of}
use Rattle.cells.specs.Places.{cell_count}
use Rattle.cells.specs.declared.dtype.Dtype.{Dtype}
use Rattle.cells.specs.declared.dtype.Dtype.TheVariants.{I8, U8, I16, U16, I32, U32, I64, U64}
use Rattle.transcript_cut.specs.Nested.{rows, word_text, values_text}
use Rattle.transcript_cut.specs.Pieces.{items_text, indices_text, comma_if}
use Rattle.transcript_cut.specs.Text.{answer_text}
use Rattle.transcript_cut.specs.declared.Answer.{Answer}
use Rattle.transcript_cut.specs.declared.Body.{Body}
use Rattle.transcript_cut.specs.declared.Body.TheVariants.{BadSpec, StoreFailed, Values}
use Rattle.transcript_cut.proofs.Laws.{told_data}
use Rattle.transcript_cut.specs.Answers.{body_members, events_members, answer_data}
use Rattle.transcript_cut.specs.AnswerLines.{IsAnswerText}
use Rattle.transcript_cut.specs.Members.{numbers_data, indices_data, word_data, values_data}
use Rattle.line_fits.specs.Plain.{AreSmall, IsWhole}
use Rattle.line_fits.specs.ReadBack.{IsReadBack, ReadsBack}
use Rattle.line_fits.proofs.DeepTexts.{IsNested, AreNested, IsAtMost, values_object, read_at_most}
use Rattle.line_fits.proofs.Plain.{IsOuter, outer, inner, object_outer, natural_plain, numbers_plain, text_plain, integer_plain, object_of_outer}

-- a body whose members nest little
pub body_back : (body : Body) → AllByRecursion IsOuter (body_members body) → ReadsBack body
body_back body each = record { at_line = λ line small. record { back = λ number d told. of_line line small number d told } }
  where
    of_line : (line : ℕ) → line < 2 ^ 64 → (number : ℕ) (d : Data) → IsAnswerText number (answer_text (record { line = line; body = body })) d → d ≡ answer_data (record { line = line; body = body })
    of_line line small number d told =
        let plain = object_of_outer ((codes "line", natural line) ∷ body_members body) (outer 0 refl (omega arith) (natural_plain 0 line small), each) in
        told_data (record { line = line; body = body }) (record { spelled = plain.spelled; shallow = omega (arith, plain.shallow) }) number
        (answer_text (record { line = line; body = body })) d told refl

-- numbers of events, where they are told
events_outer : (events : Option (List ℕ)) → AreSmall events → AllByRecursion IsOuter (events_members events)
events_outer None small = tt
events_outer (Some ns) small = (outer 1 refl (omega arith) (numbers_plain ns small), tt)

pub bad_spec_back : (path : List ℕ) (events : Option (List ℕ)) → IsUtf8 path → AreSmall events → ReadsBack (BadSpec path events)
bad_spec_back path events text small = body_back (BadSpec path events) (outer 0 refl (omega arith) (text_plain 0 path text), events_outer events small)

pub store_failed_back : (event : ℕ) (done : List ℕ) (events : Option (List ℕ)) → event < 2 ^ 64 → AllByRecursion (λ n. n < 2 ^ 64) done → AreSmall events
    → ReadsBack (StoreFailed event done events)
store_failed_back event done events small all added =
    body_back (StoreFailed event done events) (
      object_outer ((codes "done", numbers_data done) ∷ (codes "event", natural event) ∷ []) refl
          (inner 1 refl (omega arith) (numbers_plain done all), (inner 0 refl (omega arith) (natural_plain 0 event small), tt)),
      events_outer events added,
    )

-- ---- values, however deep they nest

comma_same : (later : Bool) → comma_if later ≡ json.comma_if later
comma_same true = refl
comma_same false = refl

items_same : {A : Type 0} (text : A → List ℕ) (f : A → Data) → ((x : A) → text x ≡ compact_text (f x)) → (later : Bool) (xs : List A)
    → items_text text later xs ≡ json.items_text later (items_of (map f xs))
items_same text f each later [] = refl
items_same text f each later (x ∷ xs) =
    ap (λ t. t ++ text x ++ items_text text true xs) (comma_same later)
    ∙ ap (λ t. json.comma_if later ++ t ++ items_text text true xs) (each x)
    ∙ ap (λ t. json.comma_if later ++ compact_text (f x) ++ t) (items_same text f each true xs)
    ∙ append_assoc (json.comma_if later) (compact_text (f x)) (json.items_text true (items_of (map f xs)))

integer_same : (z : ℤ) → signed_decimal z ≡ compact_text (integer z)
integer_same (pos n) = refl
integer_same (negsuc n) = refl

indices_same : (zs : List ℤ) → indices_text zs ≡ compact_text (indices_data zs)
unfolding indices_text
indices_same zs = ap (λ t. 91 ∷ t) (items_same signed_decimal integer integer_same false zs)

word_same : (dtype : Dtype) (word : ℕ) → word_text dtype word ≡ compact_text (word_data dtype word)
unfolding word_text
word_same dtype word = integer_same (number_of dtype word)

values_same : (dtype : Dtype) (shape words : List ℕ) → values_text dtype shape words ≡ compact_text (values_data dtype shape words)
values_same dtype [] words = word_same dtype _
values_same dtype (size ∷ []) words = ap (λ t. 91 ∷ t) (items_same (word_text dtype) (word_data dtype) (word_same dtype) false words)
values_same dtype (size ∷ s ∷ shape) words =
    ap (λ t. 91 ∷ t) (items_same (values_text dtype (s ∷ shape)) (values_data dtype (s ∷ shape)) (values_same dtype (s ∷ shape)) false _)

-- the text of values is the compact text of their object, with an LF
flat : (p a o b v c e l : List ℕ) → ((p ++ a) ++ (((o ++ b) ++ v) ++ c)) ++ (e ++ l) ≡ (p ++ (a ++ (o ++ (b ++ (v ++ (c ++ e)))))) ++ l
flat p a o b v c e l = simp append_assoc

values_text_is : (line : ℕ) (origin : List ℤ) (shape : List ℕ) (dtype : Dtype) (words : List ℕ)
    → answer_text (record { line = line; body = Values origin shape dtype words })
    ≡ compact_text (values_object line (indices_data origin) (values_data dtype shape words)) ++ 10 ∷ []
unfolding escape_byte
values_text_is line origin shape dtype words =
    rw (indices_same origin, values_same dtype shape words)
    (flat (codes "{\"line\":") (decimal line) (codes ",\"origin\":") (compact_text (indices_data origin)) (codes ",\"values\":") (compact_text (values_data dtype shape words)) (codes "}") (10 ∷ []))

without_last : (x : ℕ) (bytes other : List ℕ) → bytes ++ x ∷ [] ≡ other ++ x ∷ [] → bytes ≡ other
without_last x [] [] e = refl
without_last x [] (c ∷ []) e = absurd (cc)
without_last x [] (c ∷ d ∷ other) e = absurd (cc)
without_last x (b ∷ []) [] e = absurd (cc)
without_last x (b ∷ c ∷ bytes) [] e = absurd (cc)
without_last x (b ∷ bytes) (c ∷ other) e =
    let same : b ≡ c = cc in
    let rest : bytes ++ x ∷ [] ≡ other ++ x ∷ [] = cc in
    ap (λ y. y ∷ bytes) same ∙ ap (λ ys. c ∷ ys) (without_last x bytes other rest)

-- bytes that read as this or not at all are JSON of nothing else
only : (bytes : List ℕ) (d e : Data) → IsAtMost (read bytes) e → data_of bytes ≡ Some d → d ≡ e
unfolding data_of
only bytes d e most is = go (is_utf8 bytes) most is
  where
    go : (b : Bool) → IsAtMost (read bytes) e → cond b (read bytes) None ≡ Some d → d ≡ e
    go true (inl none) found = absurd (cc)
    go true (inr some) found = cc
    go false most found = absurd (cc)

list_nested : {A : Type 0} (f : A → Data) (xs : List A) → AllByRecursion (λ x. IsNested (f x)) xs → AreNested (items_of (map f xs))
list_nested f [] each = tt
list_nested f (x ∷ xs) each = (each.0, list_nested f xs each.1)

indices_nested : (zs : List ℤ) → AllByRecursion IsWhole zs → IsNested (indices_data zs)
indices_nested zs each = list_nested integer zs (go zs each)
  where
    go : (xs : List ℤ) → AllByRecursion IsWhole xs → AllByRecursion (λ z. IsNested (integer z)) xs
    go [] all = tt
    go (pos n ∷ xs) all = ((integer_plain 0 (pos n) all.0).spelled, go xs all.1)
    go (negsuc n ∷ xs) all = ((integer_plain 0 (negsuc n) all.0).spelled, go xs all.1)

signed_nested : (w : ℕ) → w < 2 ^ 64 → IsNested (integer (cast_signed w64 w))
signed_nested w small = go (cast_signed w64 w) (record { from_least = omega (arith, ints); to_greatest = omega (arith, ints) })
  where
    go : (z : ℤ) → IsWhole z → IsNested (integer z)
    go (pos n) is = (integer_plain 0 (pos n) is).spelled
    go (negsuc n) is = (integer_plain 0 (negsuc n) is).spelled

word_nested : (dtype : Dtype) (w : ℕ) → w < 2 ^ 64 → IsNested (word_data dtype w)
word_nested I8 w small = signed_nested w small
word_nested U8 w small = small
word_nested I16 w small = signed_nested w small
word_nested U16 w small = small
word_nested I32 w small = signed_nested w small
word_nested U32 w small = small
word_nested I64 w small = signed_nested w small
word_nested U64 w small = small

take_small : (n : ℕ) (ws : List ℕ) → AllByRecursion (λ w. w < 2 ^ 64) ws → AllByRecursion (λ w. w < 2 ^ 64) (take n ws)
take_small zero ws each = tt
take_small (suc n) [] each = tt
take_small (suc n) (w ∷ ws) each = (each.0, take_small n ws each.1)

drop_small : (n : ℕ) (ws : List ℕ) → AllByRecursion (λ w. w < 2 ^ 64) ws → AllByRecursion (λ w. w < 2 ^ 64) (drop n ws)
drop_small zero ws each = each
drop_small (suc n) [] each = tt
drop_small (suc n) (w ∷ ws) each = drop_small n ws each.1

first_small : (ws : List ℕ) → AllByRecursion (λ w. w < 2 ^ 64) ws → get_or ws 0 0 < 2 ^ 64
first_small [] each = omega arith
first_small (w ∷ ws) each = each.0

each_word : (dtype : Dtype) (ws : List ℕ) → AllByRecursion (λ w. w < 2 ^ 64) ws → AllByRecursion (λ w. IsNested (word_data dtype w)) ws
each_word dtype [] all = tt
each_word dtype (w ∷ ws) all = (word_nested dtype w all.0, each_word dtype ws all.1)

each_row : (dtype : Dtype) (shape : List ℕ) (size : ℕ) → ((ws : List ℕ) → AllByRecursion (λ w. w < 2 ^ 64) ws → IsNested (values_data dtype shape ws))
    → (count : ℕ) (ws : List ℕ) → AllByRecursion (λ w. w < 2 ^ 64) ws → AllByRecursion (λ row. IsNested (values_data dtype shape row)) (rows count size ws)
each_row dtype shape size call zero ws all = tt
each_row dtype shape size call (suc count) ws all =
    (call (take size ws) (take_small size ws all), each_row dtype shape size call count (drop size ws) (drop_small size ws all))

values_nested : (dtype : Dtype) (shape words : List ℕ) → AllByRecursion (λ w. w < 2 ^ 64) words → IsNested (values_data dtype shape words)
values_nested dtype [] words each = word_nested dtype _ (first_small words each)
values_nested dtype (size ∷ []) words each = list_nested (word_data dtype) words (each_word dtype words each)
values_nested dtype (size ∷ s ∷ shape) words each =
    list_nested (values_data dtype (s ∷ shape)) (rows size (cell_count (s ∷ shape)) words)
    (each_row dtype (s ∷ shape) (cell_count (s ∷ shape)) (values_nested dtype (s ∷ shape)) size words each)

-- values of words of 64 bits
pub values_back : (origin : List ℤ) (shape : List ℕ) (dtype : Dtype) (words : List ℕ) → AllByRecursion IsWhole origin → AllByRecursion (λ w. w < 2 ^ 64) words
    → ReadsBack (Values origin shape dtype words)
values_back origin shape dtype words whole small = record { at_line = λ line fits. record { back = λ number d told. of_line line fits number d told } }
  where
    of_line : (line : ℕ) → line < 2 ^ 64 → (number : ℕ) (d : Data) → IsAnswerText number (answer_text (record { line = line; body = Values origin shape dtype words })) d
        → d ≡ answer_data (record { line = line; body = Values origin shape dtype words })
    of_line line fits number d told =
        let e = values_object line (indices_data origin) (values_data dtype shape words) in
        let same : told.bytes ≡ compact_text e = without_last 10 told.bytes (compact_text e) (sym told.line ∙ values_text_is line origin shape dtype words) in
        only (compact_text e) d e
        (read_at_most line (indices_data origin) (values_data dtype shape words) fits (indices_nested origin whole) (values_nested dtype shape words small))
        (ap data_of (sym same) ∙ told.object.json)

-- a comparison with the answer's text tells whether the answer is the one that is told
pub told_is : (is : Bool) (a : Answer) (text : List ℕ) → IsReadBack a → (IsTrue is ↔ (text ≡ answer_text a))
    → (number : ℕ) (d : Data) → IsAnswerText number text d → IsTrue is ↔ (text ≡ answer_text a) × (d ≡ answer_data a)
told_is is a text read test number d told = (
  λ same_texts. let printed : text ≡ answer_text a = test.0 same_texts in (printed, read.back number d (subst (λ t. IsAnswerText number t d) printed told)),
  λ both. test.1 both.0,
)
