-- Numbers in decimal, read back.
use Rattle.std.proofs.Common.{◌≡◌, ◌≢◌, inl, inr, ℕ, ◌-◌, ◌<◌, ◌^◌, List, [], ◌∷◌, ◌++◌, length, get_or, take, drop, codes, true, false, Option, Some, None, Result, Ok, refl, sym, ap, subst, ◌∙◌, arith, append_assoc, take-append-drop, length-append, take_all}
use Rattle.std.specs.Prelude.{decimal, IfSome}
use Rattle.std.specs.Str.{all_ascii_digits}
use Rattle.std.specs.Str.Parse.{digits_value, ParsesUnsigned}
use Rattle.std.specs.Result.{OkIff}
use Rattle.std.proofs.lemmas.Bool.Decides.{nat_tests}
use Rattle.std.proofs.lemmas.Bool.{cases_lt}
use Rattle.std.proofs.lemmas.List.{take-append-le}
use Rattle.std.proofs.lemmas.Fmt.{first_decimal, decimal_digit, decimal-digits_value, decimal_injective}
use Rattle.std.proofs.lemmas.Str.Parse.{IsNumeralModel, tells_all_ascii_digits, numerals_by_value, parse_plain}
use Rattle.array_homes.specs.Names.{has_other_front, local_key}

own : IsNumeralModel (λ ds. all_ascii_digits ds ≡ true) (digits_value 10)
own = numerals_by_value (λ ds. all_ascii_digits ds ≡ true) tells_all_ascii_digits

-- a number has no other front
big_front : (ds : List ℕ) → 48 < get_or ds 0 0 → has_other_front ds ≡ false
big_front [] high = refl
big_front (b ∷ []) high = grind (arith, nat_tests)
big_front (b ∷ c ∷ ds) high = grind (arith, nat_tests)

pub no_other_front : (n : ℕ) → n < 2 ^ 64 → has_other_front (decimal n) ≡ false
no_other_front n small =
    elim (cases_lt 0 n) [
      | inl some ↦ big_front (decimal n) (first_decimal n some small)
      | inr none ↦ let zero_is : n ≡ 0 = omega arith in ap (λ m. has_other_front (decimal m)) zero_is ∙ ap has_other_front (decimal_digit 0 (omega arith))
    ]

no_plus : (ds : List ℕ) → has_other_front ds ≡ false → get_or ds 0 0 ≢ 43
no_plus [] plain e = absurd (omega arith)
no_plus (b ∷ []) plain e = absurd (grind (arith, nat_tests, plain, e))
no_plus (b ∷ c ∷ ds) plain e = absurd (grind (arith, nat_tests, plain, e))

no_zero : (ds : List ℕ) → has_other_front ds ≡ false → 0 < length ds → get_or ds 0 0 ≡ 48 → length ds ≡ 1
no_zero [] plain some e = absurd (omega arith)
no_zero (b ∷ []) plain some e = refl
no_zero (b ∷ c ∷ ds) plain some e = absurd (grind (arith, nat_tests, plain, e))

-- what is parsed is the number that the digits are
pub parsed_number : {E : Type 0} (ds : List ℕ) (n : ℕ) (r : Result ℕ E) → has_other_front ds ≡ false → ParsesUnsigned 64 10 ds r → r ≡ Ok n → (n < 2 ^ 64) × (decimal n ≡ ds)
parsed_number {E} ds n r plain parses is =
    let iff = parse_plain own 64 ds r parses (no_plus ds plain) in
    let at = subst (λ (q : Result ℕ E). OkIff q ((all_ascii_digits ds ≡ true) × (0 < length ds) × (digits_value 10 ds < 2 ^ 64)) (digits_value 10 ds)) is iff in
    let some : 0 < length ds = at.0.1 in
    let small : digits_value 10 ds < 2 ^ 64 = at.0.2 in
    let same : n ≡ digits_value 10 ds = at.1 in
    (omega (arith, small, same), ap decimal same ∙ decimal-digits_value own ds at.0.0 some (no_zero ds plain some) small)

-- an answer that is right of each number is the number
pub number_is : (answer : Option ℕ) (digits : List ℕ) → IfSome answer (λ m. (m < 2 ^ 64) × (decimal m ≡ digits)) → (answer ≡ None → (n : ℕ) → n < 2 ^ 64 → decimal n ≢ digits)
    → (n : ℕ) → n < 2 ^ 64 → decimal n ≡ digits → answer ≡ Some n
number_is None digits some none n small same = absurd (none refl n small same)
number_is (Some m) digits some none n small same = ap Some (decimal_injective m n some.0 small (some.1 ∙ sym same))

-- the key of a local array is what stands between the two texts
abbrev pub IsBetween : List ℕ → List ℕ → List ℕ → Type 0
IsBetween key behind digits =
    (take 6 key ≡ codes "array/") × (behind ≡ drop 6 key) × (drop (length behind - 2) behind ≡ codes "/0") × (digits ≡ take (length behind - 2) behind)

local_parts : (n : ℕ) → local_key n ≡ codes "array/" ++ (decimal n ++ codes "/0")
local_parts n = append_assoc (codes "array/" ++ decimal n) (47 ∷ []) (codes "0") ∙ append_assoc (codes "array/") (decimal n) (codes "/0")

pub local_from : (key behind digits : List ℕ) (n : ℕ) → IsBetween key behind digits → decimal n ≡ digits → local_key n ≡ key
local_from key behind digits n parts is =
    local_parts n ∙ ap (λ ds. codes "array/" ++ (ds ++ codes "/0")) (is ∙ parts.3) ∙ ap (λ t. codes "array/" ++ (take (length behind - 2) behind ++ t)) (sym parts.2)
    ∙ ap (λ t. codes "array/" ++ t) (take-append-drop (length behind - 2) behind ∙ parts.1) ∙ ap (λ t. t ++ drop 6 key) (sym parts.0) ∙ take-append-drop 6 key

front : (ds : List ℕ) → take (length (ds ++ codes "/0") - 2) (ds ++ codes "/0") ≡ ds
front ds =
    let n : length (ds ++ codes "/0") - 2 ≡ length ds = let l = length-append ds (codes "/0") in omega (arith, l) in
    ap (λ m. take m (ds ++ codes "/0")) n ∙ take-append-le (length ds) ds (codes "/0") (omega arith) ∙ take_all (length ds) ds (omega arith)

pub local_into : (key behind digits : List ℕ) (n : ℕ) → IsBetween key behind digits → local_key n ≡ key → decimal n ≡ digits
local_into key behind digits n parts is =
    let rest : behind ≡ decimal n ++ codes "/0" = parts.1 ∙ ap (drop 6) (sym is ∙ local_parts n) in
    sym (front (decimal n)) ∙ ap (λ t. take (length t - 2) t) (sym rest) ∙ sym parts.3
