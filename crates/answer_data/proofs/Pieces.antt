-- The texts of parts of answers are those of their data.
use Rattle.std.proofs.Common.{◌≡◌, ℕ, ℤ, pos, negsuc, Bool, true, false, cond, List, [], ◌∷◌, ◌++◌, map, refl, ap, ◌∙◌, append_assoc, decimal}
use Rattle.std.specs.Prelude.{codes}
use Rattle.std.specs.Fmt.{signed_decimal}
use Rattle.std.specs.Ordering.{int_eq}
use Rattle.json.specs.Print.{escape_byte, quoted}
use Rattle.serde_json.specs.Data.{Data, string}
use Rattle.serde_json.specs.View.{items_of}
use Rattle.serde_json.specs.Written.{compact_text}
use Rattle.serde_json.specs.Written as json
use Rattle.json_forms.specs.Numbers.{natural, integer}
use Rattle.cells.specs.Numbers.{number_of}
use Rattle.cells.specs.declared.dtype.Dtype.{Dtype}
use Rattle.cells.specs.declared.dtype.Dtype.TheVariants.{I8, U8, I16, U16, I32, U32, I64, U64}
use Rattle.index_intervals.specs.Bounds.{minus_infinity, plus_infinity}
use Rattle.answer_text.specs.Nested.{word_text, values_text}
use Rattle.answer_text.specs.Pieces.{items_text, numbers_text, indices_text, bound_text, comma_if}
use Rattle.answer_text.specs.Text.{dtype_text}
use Rattle.answer_data.specs.Causes.{bound_data}
use Rattle.answer_data.specs.Members.{numbers_data, indices_data, dtype_data, word_data, values_data}

comma_same : (later : Bool) → comma_if later ≡ json.comma_if later
comma_same true = refl
comma_same false = refl

-- items whose texts are those of their data
items_same : {A : Type 0} (text : A → List ℕ) (f : A → Data) → ((x : A) → text x ≡ compact_text (f x)) → (later : Bool) (xs : List A)
    → items_text text later xs ≡ json.items_text later (items_of (map f xs))
items_same text f each later [] = refl
items_same text f each later (x ∷ xs) =
    ap (λ t. t ++ text x ++ items_text text true xs) (comma_same later)
    ∙ ap (λ t. json.comma_if later ++ t ++ items_text text true xs) (each x)
    ∙ ap (λ t. json.comma_if later ++ compact_text (f x) ++ t) (items_same text f each true xs)
    ∙ append_assoc (json.comma_if later) (compact_text (f x)) (json.items_text true (items_of (map f xs)))

integer_same : (z : ℤ) → signed_decimal z ≡ compact_text (integer z)
integer_same (pos n) = refl
integer_same (negsuc n) = refl

pub numbers_same : (ns : List ℕ) → numbers_text ns ≡ compact_text (numbers_data ns)
unfolding numbers_text
numbers_same ns = ap (λ t. 91 ∷ t) (items_same decimal natural (λ n. refl) false ns)

pub indices_same : (zs : List ℤ) → indices_text zs ≡ compact_text (indices_data zs)
unfolding indices_text
indices_same zs = ap (λ t. 91 ∷ t) (items_same signed_decimal integer integer_same false zs)

word_same : (dtype : Dtype) (word : ℕ) → word_text dtype word ≡ compact_text (word_data dtype word)
unfolding word_text
word_same dtype word = integer_same (number_of dtype word)

pub values_same : (dtype : Dtype) (shape words : List ℕ) → values_text dtype shape words ≡ compact_text (values_data dtype shape words)
values_same dtype [] words = word_same dtype _
values_same dtype (size ∷ []) words = ap (λ t. 91 ∷ t) (items_same (word_text dtype) (word_data dtype) (word_same dtype) false words)
values_same dtype (size ∷ s ∷ shape) words =
    ap (λ t. 91 ∷ t) (items_same (values_text dtype (s ∷ shape)) (values_data dtype (s ∷ shape)) (values_same dtype (s ∷ shape)) false _)

chosen : (b : Bool) (text : List ℕ) (d e : Data) → text ≡ compact_text e → cond b (compact_text d) text ≡ compact_text (cond b d e)
chosen true text d e same = refl
chosen false text d e same = same

-- a bound: an index, or the name of an infinity
pub bound_same : (z : ℤ) → bound_text z ≡ compact_text (bound_data z)
unfolding bound_text escape_byte
bound_same z =
    chosen (int_eq z minus_infinity) _ (string (codes "-inf")) _ (chosen (int_eq z plus_infinity) _ (string (codes "+inf")) (integer z) (integer_same z))

pub dtype_same : (dtype : Dtype) → dtype_text dtype ≡ quoted (codes "dtype") ++ 58 ∷ (compact_text (dtype_data dtype) ++ codes ",")
unfolding dtype_text escape_byte
dtype_same I8 = refl
dtype_same U8 = refl
dtype_same I16 = refl
dtype_same U16 = refl
dtype_same I32 = refl
dtype_same U32 = refl
dtype_same I64 = refl
dtype_same U64 = refl
