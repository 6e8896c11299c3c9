-- The words of values are read back from their data.
use Rattle.std.proofs.Common.{◌≡◌, ℕ, ℤ, pos, negsuc, zero, suc, ◌+◌, ◌*◌, List, [], ◌∷◌, ◌++◌, length, get_or, map, take, drop, replicate, true, cond, Some, None, Ok, Err, refl, ap, ◌∙◌, arith, rules, tests}
use Rattle.std.specs.Prelude.{int_le}
use Rattle.std.specs.List.{All, AllByRecursion, flat_map}
use Rattle.std.proofs.lemmas.Bool.{eq-eqb}
use Rattle.std.proofs.lemmas.Int.{ints}
use Rattle.std.proofs.lemmas.List.{length-map, length-take-le, length-drop, take-append-drop}
use Rattle.std.proofs.lemmas.List.Elements.{recursion_from_All}
use Rattle.serde_json.specs.Data.{Data}
use Rattle.json_forms.specs.Lists.{list_of, list_items}
use Rattle.json_forms.specs.Numbers.{integer, whole_number}
use Rattle.json_forms.proofs.Laws.{data_list-items_of}
use Rattle.cells.specs.Numbers.{IsWord, Holds, least_of, greatest_of, number_of, word_of}
use Rattle.cells.specs.Places.{cell_count}
use Rattle.cells.specs.declared.dtype.Dtype.{Dtype}
use Rattle.cells.proofs.Laws.{both_true, word_of-number_of}
use Rattle.script_lines.specs.NestedWords.{Given, is_held, one_word, followed, from_items, from_list, sized, nested_words}
use Rattle.answer_text.specs.Nested.{rows}
use Rattle.answer_data.specs.Members.{word_data, values_data}

abbrev pub AreWords : Dtype → List ℕ → Type 0
AreWords dtype words = AllByRecursion (IsWord dtype) words

are_words-take : (dtype : Dtype) (n : ℕ) (words : List ℕ) → AreWords dtype words → AreWords dtype (take n words)
are_words-take dtype zero words each = tt
are_words-take dtype (suc n) [] each = tt
are_words-take dtype (suc n) (w ∷ words) each = (each.0, are_words-take dtype n words each.1)

are_words-drop : (dtype : Dtype) (n : ℕ) (words : List ℕ) → AreWords dtype words → AreWords dtype (drop n words)
are_words-drop dtype zero words each = each
are_words-drop dtype (suc n) [] each = tt
are_words-drop dtype (suc n) (w ∷ words) each = are_words-drop dtype n words each.1

whole_number-integer : (z : ℤ) → whole_number (integer z) ≡ Some z
whole_number-integer (pos n) = refl
whole_number-integer (negsuc n) = refl

is_held-from_Holds : (dtype : Dtype) (number : ℤ) → Holds dtype number → is_held dtype number ≡ true
is_held-from_Holds dtype number holds =
    both_true (int_le (least_of dtype) number) (int_le number (greatest_of dtype))
    (first_of (search (rules, tests, holds.from_least), grind (arith, ints, holds.from_least)))
    (first_of (search (rules, tests, holds.to_greatest), grind (arith, ints, holds.to_greatest)))

word_again : (dtype : Dtype) (word : ℕ) → IsWord dtype word → nested_words dtype [] (word_data dtype word) ≡ Ok (word ∷ [])
word_again dtype word is =
    ap (one_word dtype) (whole_number-integer (number_of dtype word))
    ∙ ap (λ b. cond b (Ok (replicate 1 (word_of (number_of dtype word)))) (Err [])) (is_held-from_Holds dtype (number_of dtype word) is.held)
    ∙ ap (λ w. Ok (w ∷ [])) (word_of-number_of dtype word is.in_64_bits)

-- items that give rows give all rows
items_again : {A : Type 0} (f : Data → Given) (g : A → Data) (row : A → List ℕ) (k : ℕ) (xs : List A) → AllByRecursion (λ x. f (g x) ≡ Ok (row x)) xs
    → from_items f k (map g xs) ≡ Ok (flat_map row xs)
items_again f g row k [] each = refl
items_again f g row k (x ∷ xs) each = ap (λ first. followed k first (from_items f (k + 1) (map g xs))) each.0 ∙ ap (followed k (Ok (row x))) (items_again f g row (k + 1) xs each.1)

-- what a list of so many items gives
list_again : {A : Type 0} (f : Data → Given) (g : A → Data) (row : A → List ℕ) (size : ℕ) (xs : List A) → length xs ≡ size → AllByRecursion (λ x. f (g x) ≡ Ok (row x)) xs
    → from_list f (sized size (list_items (list_of (map g xs)))) ≡ Ok (flat_map row xs)
list_again f g row size xs long each =
    ap (λ ds. from_list f (sized size (Some ds))) (data_list-items_of (map g xs))
    ∙ ap (λ b. from_list f (cond b (Some (map g xs)) None)) (eq-eqb (length (map g xs)) size (length-map xs g ∙ long))
    ∙ items_again f g row 0 xs each

length-rows : (size n : ℕ) (words : List ℕ) → length (rows size n words) ≡ size
length-rows zero n words = refl
length-rows (suc size) n words = ap suc (length-rows size n (drop n words))

-- rows of so many words each are all words
rows_joined : (size n : ℕ) (words : List ℕ) → length words ≡ size * n → flat_map (λ row. row) (rows size n words) ≡ words
rows_joined zero n [] long = refl
rows_joined zero n (w ∷ words) long = absurd (omega arith)
rows_joined (suc size) n words long =
    ap (λ rest. take n words ++ rest) (rows_joined size n (drop n words) (length-drop n words ∙ omega arith)) ∙ take-append-drop n words

pub each_row : (P : List ℕ → Type 0) (dtype : Dtype) (size n : ℕ) (words : List ℕ) → length words ≡ size * n → AreWords dtype words
    → ((row : List ℕ) → length row ≡ n → AreWords dtype row → P row) → AllByRecursion P (rows size n words)
each_row P dtype zero n words long each f = tt
each_row P dtype (suc size) n words long each f = (
  f (take n words) (length-take-le n words (omega arith)) (are_words-take dtype n words each),
  each_row P dtype size n (drop n words) (length-drop n words ∙ omega arith) (are_words-drop dtype n words each) f,
)

one_each : (dtype : Dtype) (words : List ℕ) → AreWords dtype words → AllByRecursion (λ w. nested_words dtype [] (word_data dtype w) ≡ Ok (w ∷ [])) words
one_each dtype [] each = tt
one_each dtype (w ∷ words) each = (word_again dtype w each.0, one_each dtype words each.1)

singles : (words : List ℕ) → flat_map (λ w. w ∷ []) words ≡ words
singles [] = refl
singles (w ∷ words) = ap (λ ws. w ∷ ws) (singles words)

only_word : (dtype : Dtype) (words : List ℕ) → length words ≡ 1 → AreWords dtype words → nested_words dtype [] (word_data dtype (get_or words 0 0)) ≡ Ok words
only_word dtype [] long each = absurd (omega arith)
only_word dtype (w ∷ []) long each = word_again dtype w each.0
only_word dtype (w ∷ v ∷ words) long each = absurd (omega arith)

read_again : (dtype : Dtype) (shape words : List ℕ) → length words ≡ cell_count shape → AreWords dtype words
    → nested_words dtype shape (values_data dtype shape words) ≡ Ok words
read_again dtype [] words long each = only_word dtype words long each
read_again dtype (size ∷ []) words long each =
    list_again (nested_words dtype []) (word_data dtype) (λ w. w ∷ []) size words (long ∙ omega arith) (one_each dtype words each) ∙ ap Ok (singles words)
read_again dtype (size ∷ s ∷ shape) words long each =
    list_again (nested_words dtype (s ∷ shape)) (values_data dtype (s ∷ shape)) (λ row. row) size (rows size (cell_count (s ∷ shape)) words) (length-rows size (cell_count (s ∷ shape)) words)
    (each_row (λ row. nested_words dtype (s ∷ shape) (values_data dtype (s ∷ shape) row) ≡ Ok row) dtype size (cell_count (s ∷ shape)) words long each (read_again dtype (s ∷ shape)))
    ∙ ap Ok (rows_joined size (cell_count (s ∷ shape)) words long)

-- as many words of the dtype as the shape has cells are read back
pub nested_words-values_data : (dtype : Dtype) (shape words : List ℕ) → length words ≡ cell_count shape → All (IsWord dtype) words
    → nested_words dtype shape (values_data dtype shape words) ≡ Ok words
nested_words-values_data dtype shape words long each = read_again dtype shape words long (recursion_from_All (IsWord dtype) words each)
