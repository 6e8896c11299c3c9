-- Numbers that are given keep the rules of dense cells.
use Rattle.std.proofs.Common.{◌≡◌, ◌≤◌, ℕ, zero, suc, ◌+◌, ◌*◌, Bool, true, ℤ, List, [], ◌∷◌, length, max, Option, Some, None, Result, Ok, Err, refl, ap, subst, ◌∙◌, arith, length-append, leb, eqb, cond, inl, inr}
use Rattle.std.specs.Prelude.{All, option_and_then, option_map, nat_le, ◌==◌, ◌^◌}
use Rattle.std.specs.List.{flat_map}
use Rattle.std.proofs.Math.Nat.{mul-le-mul_left}
use Rattle.std.proofs.lemmas.Bool.Decides.{eqb_tells, leb_tells}
use Rattle.std.proofs.lemmas.List.Elements.{All-nil, All-cons, All-append}
use Rattle.serde_json.specs.Data.{Data}
use Rattle.cells.specs.Dense.{IsDense}
use Rattle.cells.specs.Numbers.{IsWord}
use Rattle.cells.specs.Places.{cell_count}
use Rattle.cells.specs.declared.dtype.Dtype.{Dtype}
use Rattle.cells.proofs.Laws.{some_from_then}
use Rattle.want_forms.specs.Made.{default_chunks}
use Rattle.json_forms.specs.Lists.{list_items, all_of}
use Rattle.json_forms.specs.Numbers.{whole_number}
use Rattle.meta_forms.specs.declared.error.Fault.{Fault}
use Rattle.meta_forms.proofs.Laws.{word_judged}
use Rattle.want_forms.specs.Asking.{if_right, word_asked}
use Rattle.spec_forms.specs.declared.numbers.Nested.{Nested}
use Rattle.spec_forms.specs.Members.{required}
use Rattle.spec_forms.specs.Numbers.{sizes_below, sizes_by, nested_sizes, nested_words, nested_of, with_words, sizes_in, numbers_in, right_dtype}

step-of : {A B : Type 0} (f : A → Option B) (o : Option A) (b : B) → option_and_then f o ≡ Some b → (a : A) × ((o ≡ Some a) × (f a ≡ Some b))
step-of f None b e = absurd (let no_such : ⊥ = cc in no_such)
step-of f (Some a) b e = (a, (refl, e))

mapped-of : {A B : Type 0} (f : A → B) (o : Option A) (b : B) → option_map f o ≡ Some b → (a : A) × ((o ≡ Some a) × (f a ≡ b))
mapped-of f None b e = absurd (let no_such : ⊥ = cc in no_such)
mapped-of f (Some a) b e = (a, (refl, (let same : f a ≡ b = cc in same)))

-- the sizes are at most as many as there is room for
few_below : (room : ℕ) (items : List Data) (sizes : List ℕ) → ((d : Data) (ss : List ℕ) → nested_sizes room d ≡ Some ss → length ss ≤ room)
    → sizes_below (λ x. nested_sizes room x) items ≡ Some sizes → length sizes ≤ suc room
few_below room [] sizes few e = let same : 0 ∷ [] ≡ sizes = cc in let one : 1 ≤ suc room = omega arith in subst (λ s. length s ≤ suc room) same one
few_below room (x ∷ items) sizes few e =
    let p = mapped-of (λ ss. length (x ∷ items) ∷ ss) (nested_sizes room x) sizes e in
    let less = few x p.0 p.1.0 in
    subst (λ s. length s ≤ suc room) p.1.1 (omega (arith, less))

few_by : (room : ℕ) (o : Option (List Data)) (sizes : List ℕ) → ((d : Data) (ss : List ℕ) → nested_sizes room d ≡ Some ss → length ss ≤ room)
    → sizes_by (sizes_below (λ x. nested_sizes room x)) o ≡ Some sizes → length sizes ≤ suc room
few_by room None sizes few e = let same : [] ≡ sizes = cc in let none : 0 ≤ suc room = omega arith in subst (λ s. length s ≤ suc room) same none
few_by room (Some items) sizes few e = few_below room items sizes few e

no_more : (o : Option (List Data)) (sizes : List ℕ) → sizes_by (λ items. None) o ≡ Some sizes → length sizes ≤ 0
no_more None sizes e = let same : [] ≡ sizes = cc in let none : 0 ≤ 0 = omega arith in subst (λ s. length s ≤ 0) same none
no_more (Some items) sizes e = absurd (let no_such : ⊥ = cc in no_such)

few_sizes : (room : ℕ) (d : Data) (sizes : List ℕ) → nested_sizes room d ≡ Some sizes → length sizes ≤ room
few_sizes zero d sizes e = no_more (list_items d) sizes e
few_sizes (suc room) d sizes e = few_by room (list_items d) sizes (λ x ss f. few_sizes room x ss f) e

-- taking each size 0 as 1 leaves no fewer cells
more_cells : (sizes : List ℕ) → cell_count sizes ≤ cell_count (default_chunks sizes)
more_cells [] = omega arith
more_cells (zero ∷ sizes) = omega arith
more_cells (suc k ∷ sizes) =
    let most : max 1 (suc k) ≡ suc k = omega arith in
    rw most (mul-le-mul_left (suc k) (more_cells sizes))

few_in : (d : Data) (sizes : List ℕ) → sizes_in d ≡ Some sizes → length sizes ≤ 32
unfolding sizes_in
few_in d sizes e = few_sizes 32 d sizes e

abbrev if_so : {A : Type 0} → Bool → Option A → Option A
if_so test o = cond test o None

leb-of : (a b : ℕ) → leb a b ≡ true → a ≤ b
leb-of a b e = elim (leb_tells a b) [ inl h ↦ h.1 | inr h ↦ absurd (let no_such : ⊥ = cc in no_such) ]

eqb-of : (a b : ℕ) → eqb a b ≡ true → a ≡ b
eqb-of a b e = elim (eqb_tells a b) [ inl h ↦ h.1 | inr h ↦ absurd (let no_such : ⊥ = cc in no_such) ]

All-one : (dtype : Dtype) (w : ℕ) → IsWord dtype w → All (IsWord dtype) (w ∷ [])
All-one dtype w h = All-cons (IsWord dtype) w [] h (All-nil (IsWord dtype))

-- so many words, each of the dtype
abbrev AreWords : Dtype → ℕ → List ℕ → Type 0
AreWords dtype n words = (length words ≡ n) × All (IsWord dtype) words

abbrev joined : List (List ℕ) → List ℕ
joined rows = flat_map (λ row. row) rows

rows_are : (dtype : Dtype) (sizes : List ℕ) → ((d : Data) (ws : List ℕ) → nested_words (Some dtype) sizes d ≡ Some ws → AreWords dtype (cell_count sizes) ws) → (items : List Data) (rows : List (List ℕ))
    → all_of (nested_words (Some dtype) sizes) items ≡ Some rows → AreWords dtype (length items * cell_count sizes) (joined rows)
rows_are dtype sizes each [] rows e =
    let none : [] ≡ rows = cc in
    let nothing : 0 ≡ 0 * cell_count sizes = omega arith in
    subst (λ rs. AreWords dtype (length {A = Data} [] * cell_count sizes) (joined rs)) none (nothing, All-nil (IsWord dtype))
rows_are dtype sizes each (d ∷ items) rows e =
    let one = step-of (λ row. option_map (λ rs. row ∷ rs) (all_of (nested_words (Some dtype) sizes) items)) (nested_words (Some dtype) sizes d) rows e in
    let more = mapped-of (λ rs. one.0 ∷ rs) (all_of (nested_words (Some dtype) sizes) items) rows one.1.1 in
    let row = each d one.0 one.1.0 in
    let rest = rows_are dtype sizes each items more.0 more.1.0 in
    let count : length one.0 + length (joined more.0) ≡ length (d ∷ items) * cell_count sizes = omega (arith, row.0, rest.0) in
    subst (λ rs. AreWords dtype (length (d ∷ items) * cell_count sizes) (joined rs)) more.1.1
    (length-append one.0 (joined more.0) ∙ count, All-append (IsWord dtype) one.0 (joined more.0) row.1 rest.1)

right-of : (r : Result ℕ Fault) (w : ℕ) → if_right r ≡ Some w → r ≡ Ok w
right-of (Ok x) w e = let same : x ≡ w = cc in ap Ok same
right-of (Err fault) w e = absurd (let no_such : ⊥ = cc in no_such)

asked-word : (dtype : Dtype) (o : Option ℤ) (w : ℕ) → word_asked (Some dtype) o ≡ Ok w → IsWord dtype w
unfolding word_asked
asked-word dtype o w e = (word_judged dtype o w e).1

words_are : (dtype : Dtype) (sizes : List ℕ) (d : Data) (words : List ℕ) → nested_words (Some dtype) sizes d ≡ Some words → AreWords dtype (cell_count sizes) words
words_are dtype [] d words e =
    let p = mapped-of (λ word. word ∷ []) (if_right (word_asked (Some dtype) (whole_number d))) words e in
    let held = asked-word dtype (whole_number d) p.0 (right-of (word_asked (Some dtype) (whole_number d)) p.0 p.1.0) in
    subst (AreWords dtype 1) p.1.1 (refl, All-one dtype p.0 held)
words_are dtype (size ∷ sizes) d words e =
    let rows = mapped-of joined (option_and_then (λ items. if_so (length items == size) (all_of (nested_words (Some dtype) sizes) items)) (list_items d)) words e in
    let items = step-of (λ items. if_so (length items == size) (all_of (nested_words (Some dtype) sizes) items)) (list_items d) rows.0 rows.1.0 in
    let good = some_from_then (length items.0 == size) (all_of (nested_words (Some dtype) sizes) items.0) rows.0 items.1.1 in
    let full = rows_are dtype sizes (λ x ws f. words_are dtype sizes x ws f) items.0 rows.0 good.1 in
    subst (AreWords dtype (size * cell_count sizes)) rows.1.1 (full.0 ∙ ap (λ n. n * cell_count sizes) (eqb-of (length items.0) size good.0), full.1)

-- the numbers that are given are dense cells of the dtype that is named
pub given_dense : (own : Option Dtype) (dtype : Dtype) (d : Data) (numbers : Nested) → own ≡ Some dtype → numbers_in own d ≡ Some numbers
    → IsDense (record { dtype = dtype; shape = numbers.sizes; words = numbers.words })
unfolding numbers_in
given_dense own dtype d numbers same e =
    let named = subst (λ o. numbers_in o d ≡ Some numbers) same e in
    let sizes = step-of (λ sizes. if_so (nat_le (cell_count (default_chunks sizes)) 4194304) (with_words sizes (nested_words (Some dtype) sizes d))) (sizes_in d) numbers named in
    let good = some_from_then (nat_le (cell_count (default_chunks sizes.0)) 4194304) (with_words sizes.0 (nested_words (Some dtype) sizes.0 d)) numbers sizes.1.1 in
    let words = mapped-of (nested_of sizes.0) (nested_words (Some dtype) sizes.0 d) numbers good.1 in
    let are = words_are dtype sizes.0 d words.0 words.1.0 in
    let few = few_in d sizes.0 sizes.1.0 in
    let small = leb-of (cell_count (default_chunks sizes.0)) 4194304 good.0 in
    let more = more_cells sizes.0 in
    subst (λ (n : Nested). IsDense (record { dtype = dtype; shape = n.sizes; words = n.words })) words.1.1
    (record { rank = few; small = omega (arith, small, more); full = are.0; of_dtype = are.1 })

-- a dtype that has to be there is the one that is named
pub required-named : (r : Result (Option Dtype) Fault) (dtype : Dtype) → required r ≡ Ok dtype → right_dtype r ≡ Some dtype
required-named (Err fault) dtype e = absurd (let no_such : ⊥ = cc in no_such)
required-named (Ok None) dtype e = absurd (let no_such : ⊥ = cc in no_such)
required-named (Ok (Some t)) dtype e = let same : t ≡ dtype = cc in ap Some same

-- numbers of a member that keep the rules
pub given_dense_at : (r : Result (Option Dtype) Fault) (o : Option Data) (dtype : Dtype) (numbers : Nested) → required r ≡ Ok dtype → option_and_then (numbers_in (right_dtype r)) o ≡ Some numbers
    → IsDense (record { dtype = dtype; shape = numbers.sizes; words = numbers.words })
given_dense_at r o dtype numbers named e =
    let p = step-of (numbers_in (right_dtype r)) o numbers e in
    given_dense (right_dtype r) dtype p.0 numbers (required-named r dtype named) p.1.1

-- there are at most 2^22 cells where each size 0 counts as 1
given_small : (own : Option Dtype) (d : Data) (numbers : Nested) → numbers_in own d ≡ Some numbers → cell_count (default_chunks numbers.sizes) ≤ 2 ^ 22
unfolding numbers_in
given_small own d numbers e =
    let sizes = step-of (λ sizes. if_so (nat_le (cell_count (default_chunks sizes)) 4194304) (with_words sizes (nested_words own sizes d))) (sizes_in d) numbers e in
    let good = some_from_then (nat_le (cell_count (default_chunks sizes.0)) 4194304) (with_words sizes.0 (nested_words own sizes.0 d)) numbers sizes.1.1 in
    let words = mapped-of (nested_of sizes.0) (nested_words own sizes.0 d) numbers good.1 in
    let small = leb-of (cell_count (default_chunks sizes.0)) 4194304 good.0 in
    subst (λ (n : Nested). cell_count (default_chunks n.sizes) ≤ 2 ^ 22) words.1.1 (omega (arith, small))

-- so many numbers may a member have
pub given_small_at : (r : Result (Option Dtype) Fault) (o : Option Data) (numbers : Nested) → option_and_then (numbers_in (right_dtype r)) o ≡ Some numbers
    → cell_count (default_chunks numbers.sizes) ≤ 2 ^ 22
given_small_at r o numbers e = let p = step-of (numbers_in (right_dtype r)) o numbers e in given_small (right_dtype r) p.0 numbers p.1.1
