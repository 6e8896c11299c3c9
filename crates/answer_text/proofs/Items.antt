-- The text of a list, as far as a loop over it has come.
use Rattle.std.proofs.Common.{◌≡◌, ℕ, suc, ◌+◌, ◌<◌, ◌≤◌, true, List, ◌++◌, length, get_or, drop, Result, Ok, Err, refl, sym, ap, ◌∙◌, append_assoc, add-one, drop-cons, arith}
use Rattle.std.proofs.Math.ListN.{drop_of_length-le}
use Rattle.std.proofs.lemmas.Bool.Decides.{nat_tests}
use Rattle.std.specs.Prelude.{codes, nat_lt, OnOk}
use Rattle.answer_text.specs.Pieces.{comma_if, items_text, list_text}

module _ {A : Type 0} (text : A → List ℕ) where
  -- what was written at first and the whole list are what was written and the items from k on
  abbrev pub IsPut : List A → ℕ → List ℕ → List ℕ → Type 0
  IsPut xs k start out = start ++ list_text text xs ≡ out ++ items_text text (nat_lt 0 k) (drop k xs)

  pub none_put : (xs : List A) (start opened : List ℕ) → opened ≡ start ++ codes "[" → IsPut xs 0 start opened
  none_put xs start opened is = sym (append_assoc start (codes "[") (items_text text (nat_lt 0 0) xs)) ∙ ap (λ front. front ++ items_text text (nat_lt 0 0) xs) (sym is)

  later : (k : ℕ) → nat_lt 0 (k + 1) ≡ true
  later k = grind (arith, nat_tests)

  pub one_put : (xs : List A) (k : ℕ) (start out comma new : List ℕ) (d : A) → k < length xs → comma ≡ out ++ comma_if (nat_lt 0 k) → new ≡ comma ++ text (get_or xs k d)
      → IsPut xs k start out → IsPut xs (k + 1) start new
  one_put xs k start out comma new d less first then so =
      let x = get_or xs k d in
      let rest = items_text text true (drop (suc k) xs) in
      let front : (out ++ comma_if (nat_lt 0 k)) ++ text x ≡ new = ap (λ f. f ++ text x) (sym first) ∙ sym then in
      so ∙ rw (drop-cons xs k d)
      (sym (append_assoc out (comma_if (nat_lt 0 k) ++ text x) rest)
      ∙ ap (λ f. f ++ rest) (sym (append_assoc out (comma_if (nat_lt 0 k)) (text x)) ∙ front)
      ∙ rw (later k, add-one) refl)

  pub all_put : (xs : List A) (k : ℕ) (start out new : List ℕ) → length xs ≤ k → new ≡ out ++ codes "]" → IsPut xs k start out → new ≡ start ++ list_text text xs
  all_put xs k start out new past is so = is ∙ sym (so ∙ rw (drop_of_length-le xs past) refl)

-- what holds where a call did what it is for
pub when_ok : {E : Type 0} (P Q : Type 0) (r : Result (Unit {0}) E) → (P → Q) → OnOk r P → OnOk r Q
when_ok P Q (Ok u) f h = f h
when_ok P Q (Err e) f h = tt

-- pieces that are put one after another
pub two_put : (text start a b one two : List ℕ) → one ≡ start ++ a → two ≡ one ++ b → a ++ b ≡ text → two ≡ start ++ text
two_put text start a b one two first second all = second ∙ ap (λ out. out ++ b) first ∙ append_assoc start a b ∙ ap (λ t. start ++ t) all

pub three_put : (text start a b c one two three : List ℕ) → one ≡ start ++ a → two ≡ one ++ b → three ≡ two ++ c → a ++ (b ++ c) ≡ text → three ≡ start ++ text
three_put text start a b c one two three first second third all =
    two_put text start a (b ++ c) one three first (two_put (b ++ c) one b c two three second third refl) all

pub four_put : (text start a b c d one two three four : List ℕ) → one ≡ start ++ a → two ≡ one ++ b → three ≡ two ++ c → four ≡ three ++ d → a ++ (b ++ (c ++ d)) ≡ text → four ≡ start ++ text
four_put text start a b c d one two three four first second third fourth all =
    two_put text start a (b ++ (c ++ d)) one four first (three_put (b ++ (c ++ d)) one b c d two three four second third fourth refl) all

pub seven_joined : (a b c d e f g : List ℕ) → (a ++ b ++ c) ++ ((d ++ e) ++ (f ++ g)) ≡ a ++ b ++ c ++ d ++ e ++ f ++ g
seven_joined a b c d e f g = simp append_assoc
