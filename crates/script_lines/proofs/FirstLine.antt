-- Cutting at the first LF.
use Rattle.std.proofs.Common.{◌≡◌, ℕ, ◌+◌, ◌<◌, ◌≤◌, List, [], ◌∷◌, length, take, drop, Bool, true, false, cond, Some, None, nat_lt, refl, arith, eqb}
use Rattle.std.specs.Prelude.{position}
use Rattle.std.specs.List.{position_or_len, All}
use Rattle.std.proofs.lemmas.List.Splits.{slice_split_first, slice_split_none}
use Rattle.std.proofs.lemmas.List.Sums.{fails_before_first}
use Rattle.std.proofs.lemmas.Bool.Decides.{nat_tests}
use Rattle.script_lines.specs.Script.{lines_of}

abbrev is_lf : ℕ → Bool
is_lf b = eqb b 10

found_at : (b : Bool) (p at : ℕ) → Some at ≡ cond b (Some p) None → (b ≡ true) × (at ≡ p)
found_at true p at e = (refl, cc)
found_at false p at e = cc

found_none : (b : Bool) (p : ℕ) → None ≡ cond b (Some p) None → b ≡ false
found_none true p e = cc
found_none false p e = refl

none_passes : (xs : List ℕ) → nat_lt (position_or_len is_lf xs) (length xs) ≡ false → All (λ x. is_lf x ≡ false) xs
none_passes xs e = λ k d lt. let past : length xs ≤ position_or_len is_lf xs = grind (arith, nat_tests) in fails_before_first is_lf xs k d (omega arith)

-- the first LF is within the script
place_of : (xs : List ℕ) (at : ℕ) → Some at ≡ position is_lf xs → (position_or_len is_lf xs < length xs) × (at ≡ position_or_len is_lf xs)
place_of xs at e =
    let h = found_at (nat_lt (position_or_len is_lf xs) (length xs)) (position_or_len is_lf xs) at e in
    (grind (arith, nat_tests), h.1)

pub lines_of-at : (xs : List ℕ) (at : ℕ) → Some at ≡ position is_lf xs → lines_of xs ≡ take at xs ∷ lines_of (drop (at + 1) xs)
lines_of-at xs at e =
    let h = place_of xs at e in
    rw h.1 (slice_split_first is_lf xs 0 h.0)

pub lines_of-no_lf : (xs : List ℕ) → None ≡ position is_lf xs → lines_of xs ≡ xs ∷ []
lines_of-no_lf xs e = slice_split_none is_lf xs (none_passes xs (found_none (nat_lt (position_or_len is_lf xs) (length xs)) (position_or_len is_lf xs) e))
