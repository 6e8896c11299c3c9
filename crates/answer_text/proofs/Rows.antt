-- Words in rows, as far as a loop over the rows has come.
use Rattle.std.proofs.Common.{◌≡◌, ℕ, suc, ◌+◌, ◌-◌, ◌<◌, ◌≤◌, ◌≢◌, true, false, min, List, [], ◌∷◌, ◌++◌, length, get_or, take, drop, refl, sym, ap, ◌∙◌, append_assoc, arith}
use Rattle.std.proofs.lemmas.List.{take_min, drop_min}
use Rattle.std.proofs.Math.Seq.{take-length}
use Rattle.std.proofs.lemmas.Bool.Decides.{nat_tests}
use Rattle.std.specs.Prelude.{codes, nat_lt}
use Rattle.cells.specs.Places.{cell_count}
use Rattle.cells.specs.declared.dtype.Dtype.{Dtype}
use Rattle.answer_text.specs.Nested.{rows, word_text, values_text}
use Rattle.answer_text.specs.Pieces.{comma_if, items_text, list_text}

-- a shape without its first size, as a slice pattern has it
abbrev pub behind : List ℕ → List ℕ
behind shape = take (length shape - 1) (drop 1 shape)

behind-cons : (size : ℕ) (shape : List ℕ) → behind (size ∷ shape) ≡ shape
behind-cons size shape = let n : length (size ∷ shape) - 1 ≡ length shape = omega arith in rw n (take-length shape)

-- the rows of a shape of two sizes or more
pub values-rows : (dtype : Dtype) (shape words : List ℕ) → 1 ≤ length shape → length (behind shape) ≢ 0
    → list_text (values_text dtype (behind shape)) (rows (get_or shape 0 0) (cell_count (behind shape)) words) ≡ values_text dtype shape words
values-rows dtype [] words some more = absurd (omega arith)
values-rows dtype (size ∷ []) words some more = absurd (more (ap length (behind-cons size [])))
values-rows dtype (size ∷ s ∷ shape) words some more = rw (behind-cons size (s ∷ shape)) refl

-- the numbers of a shape of one size
pub values-row : (dtype : Dtype) (shape words : List ℕ) → 1 ≤ length shape → length (behind shape) ≡ 0 → list_text (word_text dtype) words ≡ values_text dtype shape words
values-row dtype [] words some none = absurd (omega arith)
values-row dtype (size ∷ []) words some none = refl
values-row dtype (size ∷ s ∷ shape) words some none =
    let other : length (s ∷ shape) ≡ 0 = sym (ap length (behind-cons size (s ∷ shape))) ∙ none in absurd (omega (arith, other))

-- one row less
rows-less : (size i n : ℕ) (words : List ℕ) → i < size → rows (size - i) n words ≡ take n words ∷ rows (size - (i + 1)) n (drop n words)
rows-less size i n words less = let e : size - i ≡ suc (size - (i + 1)) = omega arith in rw e refl

least_of_three : (n len rest : ℕ) → rest ≤ len → min (min n len) rest ≡ min n rest
least_of_three n len rest less = omega arith

later : (k : ℕ) → nat_lt 0 (k + 1) ≡ true
later k = grind (arith, nat_tests)

pub row_more : (f : List ℕ → List ℕ) (n size i row_len cut : ℕ) (all out comma new rest words front back : List ℕ)
    → i < size → row_len ≡ min n (length words) → length rest ≤ length words → cut ≡ min row_len (length rest)
    → front ≡ take cut rest → back ≡ drop cut rest → comma ≡ out ++ comma_if (nat_lt 0 i) → new ≡ comma ++ f front
    → all ≡ out ++ items_text f (nat_lt 0 i) (rows (size - i) n rest) → all ≡ new ++ items_text f (nat_lt 0 (i + 1)) (rows (size - (i + 1)) n back)
row_more f n size i row_len cut all out comma new rest words front back less is_len shorter is_cut is_front is_back is_comma is_new so =
    let cut_is : cut ≡ min n (length rest) = is_cut ∙ rw is_len (least_of_three n (length words) (length rest) shorter) in
    let first : front ≡ take n rest = is_front ∙ ap (λ k. take k rest) cut_is ∙ take_min n rest in
    let others : back ≡ drop n rest = is_back ∙ ap (λ k. drop k rest) cut_is ∙ drop_min n rest in
    let more = rows (size - (i + 1)) n (drop n rest) in
    let written : (out ++ comma_if (nat_lt 0 i)) ++ f (take n rest) ≡ new =
    ap (λ start. start ++ f (take n rest)) (sym is_comma) ∙ ap (λ row. comma ++ f row) (sym first) ∙ sym is_new in
    so ∙ ap (λ rs. out ++ items_text f (nat_lt 0 i) rs) (rows-less size i n rest less)
    ∙ sym (append_assoc out (comma_if (nat_lt 0 i) ++ f (take n rest)) (items_text f true more))
    ∙ ap (λ start. start ++ items_text f true more) (sym (append_assoc out (comma_if (nat_lt 0 i)) (f (take n rest))) ∙ written)
    ∙ rw (later i, others) refl

pub rows_all : (f : List ℕ → List ℕ) (n size i : ℕ) (all out new rest : List ℕ) → size ≤ i → new ≡ out ++ codes "]"
    → all ≡ out ++ items_text f (nat_lt 0 i) (rows (size - i) n rest) → new ≡ all
rows_all f n size i all out new rest past is so =
    let none : size - i ≡ 0 = omega arith in
    is ∙ sym (rw none at so)

pub rows_put : (f : List ℕ → List ℕ) (n size : ℕ) (words start opened : List ℕ) → opened ≡ start ++ codes "["
    → start ++ list_text f (rows size n words) ≡ opened ++ items_text f false (rows (size - 0) n words)
rows_put f n size words start opened is =
    let all : size - 0 ≡ size = omega arith in
    let rs = rows size n words in
    sym (append_assoc start (codes "[") (items_text f false rs)) ∙ ap (λ front. front ++ items_text f false rs) (sym is) ∙ ap (λ k. opened ++ items_text f false (rows k n words)) (sym all)
