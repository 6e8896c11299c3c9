-- Values that fit give a word of the dtype to each cell.
use Rattle.std.proofs.Common.{◌≡◌, ℕ, ◌+◌, ◌*◌, List, [], ◌∷◌, ◌++◌, length, replicate, Bool, true, false, ℤ, Option, Some, None, Result, Ok, Err, cond, eqb, rules, tests, refl, ◌∙◌, subst, arith}
use Rattle.std.specs.Prelude.{All, int_le, ◌&&◌}
use Rattle.std.proofs.lemmas.Bool.{eqb-true}
use Rattle.std.proofs.lemmas.Int.{ints}
use Rattle.std.proofs.lemmas.List.{length-append, length-replicate}
use Rattle.std.proofs.lemmas.List.Elements.{All-nil, All-append, All-replicate}
use Rattle.serde_json.specs.Data.{Data}
use Rattle.cells.specs.Numbers.{IsWord, Holds, least_of, greatest_of, word_of}
use Rattle.cells.specs.Places.{cell_count}
use Rattle.cells.specs.declared.dtype.Dtype.{Dtype}
use Rattle.cells.proofs.Laws.{IsWord-word_of, both}
use Rattle.json_forms.specs.Numbers.{whole_number}
use Rattle.json_forms.specs.Lists.{list_items}
use Rattle.script_lines.specs.NestedWords.{Given, is_held, repeated, one_word, followed, from_items, sized, from_list, nested_words, single_or_nested, words_of}

-- so many words, each of the dtype
pub record AreWords (dtype : Dtype) (count : ℕ) (words : List ℕ) : Type 0 where
  pub full : length words ≡ count
  pub of_dtype : All (IsWord dtype) words

-- what was given is such words, where it is words
pub record GivesWords (dtype : Dtype) (count : ℕ) (given : Given) : Type 0 where
  pub are : (words : List ℕ) → given ≡ Ok words → AreWords dtype count words

held : (dtype : Dtype) (number : ℤ) → is_held dtype number ≡ true → Holds dtype number
held dtype number e = let parts = both (int_le (least_of dtype) number) (int_le number (greatest_of dtype)) e in record { from_least = first_of (search (rules, tests), grind (arith, ints)); to_greatest = first_of (search (rules, tests), grind (arith, ints)) }

copies : (dtype : Dtype) (count : ℕ) (number : ℤ) (words : List ℕ) → Holds dtype number → replicate count (word_of number) ≡ words → AreWords dtype count words
copies dtype count number words holds e =
    subst (AreWords dtype count) e (record { full = length-replicate count (word_of number); of_dtype = All-replicate (IsWord dtype) count (word_of number) (IsWord-word_of dtype number holds) })

abbrev if_held : Bool → ℕ → ℤ → Given
if_held test count number = cond test (Ok (replicate count (word_of number))) (Err [])

repeated_words : (dtype : Dtype) (count : ℕ) (number : ℤ) (test : Bool) → (test ≡ true → Holds dtype number) → (words : List ℕ)
    → if_held test count number ≡ Ok words → AreWords dtype count words
repeated_words dtype count number true holds words e = copies dtype count number words (holds refl) cc
repeated_words dtype count number false holds words e = cc

gives-repeated : (dtype : Dtype) (count : ℕ) (number : ℤ) → GivesWords dtype count (repeated dtype count number)
gives-repeated dtype count number = record { are = repeated_words dtype count number (is_held dtype number) (held dtype number) }

gives-one_word : (dtype : Dtype) (number : Option ℤ) → GivesWords dtype 1 (one_word dtype number)
gives-one_word dtype None = record { are = λ words e. cc }
gives-one_word dtype (Some number) = gives-repeated dtype 1 number

two_parts : (dtype : Dtype) (n m : ℕ) (front back words : List ℕ) → AreWords dtype n front → AreWords dtype m back → front ++ back ≡ words → AreWords dtype (n + m) words
two_parts dtype n m front back words one other e =
    subst (AreWords dtype (n + m)) e (record { full = length-append front back ∙ rw (one.full, other.full) refl; of_dtype = All-append (IsWord dtype) front back one.of_dtype other.of_dtype })

gives-followed : (dtype : Dtype) (n m k : ℕ) (one rest : Given) → GivesWords dtype n one → GivesWords dtype m rest → GivesWords dtype (n + m) (followed k one rest)
gives-followed dtype n m k (Err path) rest first more = record { are = λ words e. cc }
gives-followed dtype n m k (Ok front) (Err path) first more = record { are = λ words e. cc }
gives-followed dtype n m k (Ok front) (Ok back) first more =
    record { are = λ words e. two_parts dtype n m front back words (first.are front refl) (more.are back refl) cc }

gives-from_items : (dtype : Dtype) (n : ℕ) (f : Data → Given) → ((d : Data) → GivesWords dtype n (f d)) → (k : ℕ) (ds : List Data) → GivesWords dtype (length ds * n) (from_items f k ds)
gives-from_items dtype n f each k [] = record { are = λ words e. let none : [] ≡ words = cc in subst (AreWords dtype (length {A = Data} [] * n)) none (record { full = omega arith; of_dtype = All-nil (IsWord dtype) }) }
gives-from_items dtype n f each k (d ∷ ds) =
    let more = gives-followed dtype n (length ds * n) k (f d) (from_items f (k + 1) ds) (each d) (gives-from_items dtype n f each (k + 1) ds) in
    let count : n + length ds * n ≡ length (d ∷ ds) * n = omega arith in
    subst (λ m. GivesWords dtype m (followed k (f d) (from_items f (k + 1) ds))) count more

of_size : (dtype : Dtype) (n size : ℕ) (f : Data → Given) → ((d : Data) → GivesWords dtype n (f d)) → (ds : List Data) (test : Bool) → (test ≡ true → length ds ≡ size)
    → GivesWords dtype (size * n) (from_list f (cond test (Some ds) None))
of_size dtype n size f each ds true same = subst (λ m. GivesWords dtype (m * n) (from_items f 0 ds)) (same refl) (gives-from_items dtype n f each 0 ds)
of_size dtype n size f each ds false same = record { are = λ words e. cc }

gives-from_list : (dtype : Dtype) (n size : ℕ) (f : Data → Given) → ((d : Data) → GivesWords dtype n (f d)) → (items : Option (List Data)) → GivesWords dtype (size * n) (from_list f (sized size items))
gives-from_list dtype n size f each None = record { are = λ words e. cc }
gives-from_list dtype n size f each (Some ds) = of_size dtype n size f each ds (eqb (length ds) size) (eqb-true (length ds) size)

gives-nested_words : (dtype : Dtype) (shape : List ℕ) (d : Data) → GivesWords dtype (cell_count shape) (nested_words dtype shape d)
gives-nested_words dtype [] d = gives-one_word dtype (whole_number d)
gives-nested_words dtype (size ∷ shape) d = gives-from_list dtype (cell_count shape) size (nested_words dtype shape) (gives-nested_words dtype shape) (list_items d)

-- nested lists give as many words as there are cells, each of the dtype
pub nested_words-are : (dtype : Dtype) (shape : List ℕ) (d : Data) (words : List ℕ) → nested_words dtype shape d ≡ Ok words → AreWords dtype (cell_count shape) words
nested_words-are dtype shape d words e = (gives-nested_words dtype shape d).are words e

single_or_nested-are : (dtype : Dtype) (shape : List ℕ) (d : Data) (number : Option ℤ) (words : List ℕ) → single_or_nested dtype shape d number ≡ Ok words → AreWords dtype (cell_count shape) words
single_or_nested-are dtype shape d (Some number) words e = (gives-repeated dtype (cell_count shape) number).are words e
single_or_nested-are dtype shape d None words e = nested_words-are dtype shape d words e

-- so does everything that values may be
pub words_of-are : (dtype : Dtype) (shape : List ℕ) (d : Data) (words : List ℕ) → words_of dtype shape d ≡ Ok words → AreWords dtype (cell_count shape) words
words_of-are dtype shape d words e = single_or_nested-are dtype shape d (whole_number d) words e
