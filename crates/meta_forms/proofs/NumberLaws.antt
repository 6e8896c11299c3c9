-- What judgements of whole numbers tell.
use Rattle.std.proofs.Common.{◌≡◌, ℕ, ℤ, pos, ◌≤ℤ◌, true, Option, Some, None, Ok, refl, sym, ap, subst, ◌∙◌, arith}
use Rattle.std.specs.Prelude.{int_le}
use Rattle.std.specs.Ordering.{int_eq}
use Rattle.std.proofs.lemmas.Bool.Decides.{Decides-int_eq}
use Rattle.std.proofs.lemmas.Int.{ints}
use Rattle.cells.specs.Numbers.{Holds, IsWord, least_of, greatest_of, number_of, word_of}
use Rattle.cells.specs.declared.dtype.Dtype.{Dtype}
use Rattle.cells.proofs.Laws.{both, both_true, then_from, ok_from_then, IsWord-word_of, number_of-word_of, word_of-number_of}
use Rattle.meta_forms.specs.Judged.{judged_format, holds, judged_word}
use Rattle.meta_forms.proofs.MemberLaws.{ok_only}

-- a good format is the one that is wanted
pub format_judged : (version : ℕ) (o : Option ℤ) (u : Unit {0}) → judged_format version o ≡ Ok u → o ≡ Some (pos version)
format_judged version None u is = absurd (let no_such : ⊥ = cc in no_such)
format_judged version (Some number) u is = ap Some ((Decides-int_eq number (pos version)).0 (ok_from_then (int_eq number (pos version)) (Ok tt) u _ is).0)

pub format_passes : (version : ℕ) → judged_format version (Some (pos version)) ≡ Ok tt
format_passes version = then_from (int_eq (pos version) (pos version)) _ _ ((Decides-int_eq (pos version) (pos version)).1 refl)

le_from : (a b : ℤ) → int_le a b ≡ true → a ≤ℤ b
le_from a b is = grind (arith, ints)

le_to : (a b : ℤ) → a ≤ℤ b → int_le a b ≡ true
le_to a b is = grind (arith, ints)

pub Holds-from_test : (dtype : Dtype) (number : ℤ) → holds dtype number ≡ true → Holds dtype number
Holds-from_test dtype number is =
    let tests = both (int_le (least_of dtype) number) (int_le number (greatest_of dtype)) is in
    record { from_least = le_from (least_of dtype) number tests.0; to_greatest = le_from number (greatest_of dtype) tests.1 }

pub test-Holds : (dtype : Dtype) (number : ℤ) → Holds dtype number → holds dtype number ≡ true
test-Holds dtype number is =
    both_true (int_le (least_of dtype) number) (int_le number (greatest_of dtype)) (le_to (least_of dtype) number is.from_least) (le_to number (greatest_of dtype) is.to_greatest)

-- a good word is that of the number
pub word_judged : (dtype : Dtype) (o : Option ℤ) (word : ℕ) → judged_word dtype o ≡ Ok word → (o ≡ Some (number_of dtype word)) × IsWord dtype word
word_judged dtype None word is = absurd (let no_such : ⊥ = cc in no_such)
word_judged dtype (Some number) word is =
    let good = ok_from_then (holds dtype number) (Ok (word_of number)) word _ is in
    let held = Holds-from_test dtype number good.0 in
    let same : word_of number ≡ word = ok_only (word_of number) word good.1 in
    (ap Some (sym (number_of-word_of dtype number held) ∙ ap (number_of dtype) same), (let is_word : IsWord dtype (word_of number) = IsWord-word_of dtype number held in subst (IsWord dtype) same is_word))

pub word_passes : (dtype : Dtype) (word : ℕ) → IsWord dtype word → judged_word dtype (Some (number_of dtype word)) ≡ Ok word
word_passes dtype word is =
    then_from (holds dtype (number_of dtype word)) _ _ (test-Holds dtype (number_of dtype word) is.held) ∙ ap Ok (word_of-number_of dtype word is.in_64_bits)
