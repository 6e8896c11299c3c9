-- The text of parts of answers: compact JSON.
use Rattle.std.specs.Prelude.{ℕ, ℤ, List, [], ◌∷◌, ◌++◌, codes, decimal, Bool, true, false, if◌then◌else◌}
use Rattle.std.specs.Fmt.{signed_decimal}
use Rattle.std.specs.Ordering.{int_eq}
use Rattle.json.specs.Print.{quoted}
use Rattle.index_intervals.specs.Bounds.{minus_infinity, plus_infinity}

-- a comma, where something stands before
abbrev pub comma_if : Bool → List ℕ
comma_if later = if later then codes "," else []

-- items, each but the first behind a comma, and the bracket at their end
abbrev pub items_text : {A : Type 0} → (A → List ℕ) → Bool → List A → List ℕ
items_text text later [] = codes "]"
items_text text later (x ∷ xs) = comma_if later ++ text x ++ items_text text true xs

-- the items of a list in brackets
abbrev pub list_text : {A : Type 0} → (A → List ℕ) → List A → List ℕ
list_text text xs = codes "[" ++ items_text text false xs

-- numbers of events, places, and other numbers from 0 on
unfoldable pub numbers_text : List ℕ → List ℕ
numbers_text ns = list_text decimal ns

-- index vectors
unfoldable pub indices_text : List ℤ → List ℕ
indices_text zs = list_text signed_decimal zs

-- a text in quotes
unfoldable pub text_of : List ℕ → List ℕ
text_of s = quoted s

-- a bound: an index, or an infinity as a text
unfoldable pub bound_text : ℤ → List ℕ
bound_text z =
    if int_eq z minus_infinity then codes "\"-inf\"" else (if int_eq z plus_infinity then codes "\"+inf\"" else signed_decimal z)
