-- The text of values has two brackets for each list without an item.
use Rattle.std.proofs.Common.{◌≡◌, ◌≢◌, ◌∙◌, ◌≤◌, ◌<◌, ◌+◌, ◌-◌, ◌*◌, ℕ, zero, suc, List, [], ◌∷◌, ◌++◌, length, take, drop, Bool, true, false, None, refl, sym, ap, subst, arith, length-append}
use Rattle.std.specs.Prelude.{codes, decimal, get_or, min}
use Rattle.std.proofs.Math.Nat.{mul-le-mul_left}
use Rattle.answer_text.specs.Nested.{rows, values_text, word_text}
use Rattle.answer_text.specs.Pieces.{comma_if, indices_text, items_text, list_text}
use Rattle.cells.specs.Places.{cell_count}
use Rattle.cells.specs.declared.dtype.Dtype.{Dtype}
use Rattle.history.specs.Viewing.{origin_of, shape_of, values_body}
use Rattle.line_fits.specs.Fitting.{printed_at}
use Rattle.line_fits.specs.Text.{answer_text, before_line, behind_line}
use Rattle.line_fits.specs.declared.Body.{Body}
use Rattle.line_fits.specs.declared.Body.TheVariants as printed
use Rattle.serde_json.specs.Data.{Data}
use Rattle.stack_driver.specs.Views.{look_of}
use Rattle.stack_driver.specs.declared.view.View.{View}
use Rattle.read_fits.specs.ReadFits.{AreToldWords}
use Rattle.read_fits.specs.Rooms.{empty_lists}

items_long : {A : Type 0} (f : A → List ℕ) (b : Bool) (xs : List A) → 1 ≤ length (items_text f b xs)
items_long f b [] = omega arith
items_long f b (x ∷ xs) =
    let rest = items_long f true xs in
    let whole : length (items_text f b (x ∷ xs)) ≡ length (comma_if b ++ f x) + length (items_text f true xs) = length-append (comma_if b ++ f x) (items_text f true xs) in
    omega (arith, rest, whole)

list_long : {A : Type 0} (f : A → List ℕ) (xs : List A) → 2 ≤ length (list_text f xs)
list_long f xs = let rest = items_long f false xs in omega (arith, rest)

-- so many rows are at least so often as long as each
rows_long : (dtype : Dtype) (shape : List ℕ) (least : ℕ) → ((words : List ℕ) → least ≤ length (values_text dtype shape words)) → (count n : ℕ) (b : Bool) (words : List ℕ)
    → count * least ≤ length (items_text (values_text dtype shape) b (rows count n words))
rows_long dtype shape least each zero n b words = omega arith
rows_long dtype shape least each (suc count) n b words =
    let here = each (take n words) in
    let rest = rows_long dtype shape least each count n true (drop n words) in
    let front : length (comma_if b ++ values_text dtype shape (take n words)) ≡ length (comma_if b) + length (values_text dtype shape (take n words)) = length-append (comma_if b) (values_text dtype shape (take n words)) in
    let whole : length (items_text (values_text dtype shape) b (rows (suc count) n words)) ≡ length (comma_if b ++ values_text dtype shape (take n words)) + length (items_text (values_text dtype shape) true (rows count n (drop n words))) =
    length-append (comma_if b ++ values_text dtype shape (take n words)) (items_text (values_text dtype shape) true (rows count n (drop n words))) in
    omega (arith, here, rest, front, whole)

pub room : (dtype : Dtype) (shape words : List ℕ) → 2 * empty_lists shape ≤ length (values_text dtype shape words)
room dtype [] words = omega arith
room dtype (zero ∷ []) words = list_long (word_text dtype) words
room dtype (zero ∷ s ∷ shape) words = list_long (values_text dtype (s ∷ shape)) (rows zero (cell_count (s ∷ shape)) words)
room dtype (suc n ∷ []) words = omega arith
room dtype (suc n ∷ s ∷ shape) words =
    let all = rows_long dtype (s ∷ shape) (2 * empty_lists (s ∷ shape)) (λ ws. room dtype (s ∷ shape) ws) (suc n) (cell_count (s ∷ shape)) false words in
    omega (arith, all)

-- a part of a text is no longer than the text
wrapped : (a b c d e f : List ℕ) → length e ≤ length (a ++ b ++ c ++ d ++ e ++ f)
wrapped a b c d e f = omega (arith, length-append (a ++ b ++ c ++ d ++ e) f, length-append (a ++ b ++ c ++ d) e)

ended : (a b c d : List ℕ) → length d ≤ length (a ++ b ++ c ++ d)
ended a b c d = omega (arith, length-append (a ++ b ++ c) d)

chain : (a b c d : ℕ) → a ≤ b → b ≤ c → c ≤ d → a ≤ d
chain a b c d first second third = omega (arith, first, second, third)

answer_room : (view : View) (line : ℕ) (words : List ℕ) → 2 * empty_lists (shape_of view) ≤ length (answer_text (printed_at line (values_body view None words)))
answer_room view line words =
    let body : Body = printed.Values (origin_of view) (shape_of view) (look_of view).dtype words in
    chain (2 * empty_lists (shape_of view)) (length (values_text (look_of view).dtype (shape_of view) words)) (length (behind_line body)) (length (answer_text (printed_at line (values_body view None words))))
    (room (look_of view).dtype (shape_of view) words)
    (ended (codes ",\"origin\":") (indices_text (origin_of view)) (codes ",\"values\":") (values_text (look_of view).dtype (shape_of view) words))
    (wrapped (codes "{") (before_line body) (codes "\"line\":") (decimal line) (behind_line body) (codes "}\n"))

-- a text without the room tells no words
pub no_room : (view : View) (line : ℕ) (text : List ℕ) (values : Data) → length text < 2 * empty_lists (shape_of view) → AreToldWords view line text values None
no_room view line text values short d told words has is =
    let long = answer_room view line words in
    let same = ap length is.0 in
    absurd (omega (arith, short, long, same))

-- one size more in front
pub around_zero : (size : ℕ) (shape : List ℕ) → size ≡ 0 → 1 ≤ empty_lists (size ∷ shape)
around_zero zero shape is = omega arith
around_zero (suc n) shape is = absurd (omega (arith, is))

capped : (n cap : ℕ) → min n cap ≤ n
capped n cap = omega arith

pub around_some : (size lists result cap : ℕ) (shape : List ℕ) → size ≢ 0 → lists ≤ empty_lists shape → result ≡ min (lists * size) cap → result ≤ empty_lists (size ∷ shape)
around_some zero lists result cap shape some low is = absurd (some refl)
around_some (suc n) lists result cap shape some low is =
    let grown = mul-le-mul_left (suc n) low in
    let under = capped (lists * suc n) cap in
    omega (arith, grown, under, is)

-- a list from one place before, by its item there
front_of : (shape : List ℕ) (i : ℕ) → i < length shape → drop i shape ≡ get_or shape i 0 ∷ drop (suc i) shape
front_of [] i low = absurd (omega (arith, low))
front_of (x ∷ shape) zero low = refl
front_of (x ∷ shape) (suc i) low = front_of shape i (omega (arith, low))

pub step_around : (shape : List ℕ) (at lists result : ℕ) → 0 < at → at ≤ length shape → lists ≤ empty_lists (drop at shape) → ((s : List ℕ) → lists ≤ empty_lists s → result ≤ empty_lists (get_or shape (at - 1) 0 ∷ s))
    → result ≤ empty_lists (drop (at - 1) shape)
step_around shape at lists result some within low each =
    let next : suc (at - 1) ≡ at = omega (arith, some) in
    let front : drop (at - 1) shape ≡ get_or shape (at - 1) 0 ∷ drop at shape = front_of shape (at - 1) (omega (arith, some, within)) ∙ ap (λ n. get_or shape (at - 1) 0 ∷ drop n shape) next in
    subst (λ (s : List ℕ). result ≤ empty_lists s) (sym front) (each (drop at shape) low)
