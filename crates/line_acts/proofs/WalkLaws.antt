-- A walk to one of its cells.
use Rattle.std.proofs.Common.{◌≡◌, ◌∙◌, ℕ, zero, suc, ◌<◌, ℤ, Bool, true, false, List, [], ◌∷◌, length, drop, sym, arith}
use Rattle.std.specs.Prelude.{MatchBool, slice_index_or}

-- a step from the cell at a place writes it, and leaves those behind
pub stepped : (b : Bool) (xs now later : List (List ℤ)) (k : ℕ) (x before : List ℤ) → k < length xs → now ≡ drop k xs → MatchBool b (now ≡ x ∷ later) ((now ≡ []) × (later ≡ []) × (x ≡ before))
    → (later ≡ drop (suc k) xs) × (slice_index_or xs k x ≡ x)
stepped b [] now later k x before low is step = absurd (omega (arith, low))
stepped true (y ∷ xs) now later zero x before low is step =
    let both : y ∷ xs ≡ x ∷ later = sym is ∙ step in
    let rest : later ≡ xs = cc in
    let same : y ≡ x = cc in
    (rest, same)
stepped false (y ∷ xs) now later zero x before low is step = let both : y ∷ xs ≡ [] = sym is ∙ step.0 in absurd (let no_such : ⊥ = cc in no_such)
stepped b (y ∷ xs) now later (suc k) x before low is step = stepped b xs now later k x before (omega (arith, low)) is step
