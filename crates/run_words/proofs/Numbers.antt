-- Numbers in decimal digits.
use Rattle.std.proofs.Common.{◌≡◌, ◌&&◌, ℕ, true, List, [], ◌∷◌, refl, ap₂, rules}
use Rattle.std.specs.Char.{is_ascii_digit}
use Rattle.std.specs.Int.{IsInRange}
use Rattle.std.specs.List.{list_all}
use Rattle.std.specs.Str.Parse.{AllDigits}
use Rattle.std.proofs.lemmas.Str.Parse.{digit_from_value}

digit_is : (c : ℕ) → IsInRange 48 57 c → is_ascii_digit c ≡ true
digit_is c h = search rules

-- digits pass the test that is made of each byte
pub digits_pass : (ds : List ℕ) → AllDigits 10 ds → list_all is_ascii_digit ds ≡ true
digits_pass [] h = refl
digits_pass (c ∷ cs) h = ap₂ (λ a b. a && b) (digit_is c (digit_from_value c h.0)) (digits_pass cs h.1)
