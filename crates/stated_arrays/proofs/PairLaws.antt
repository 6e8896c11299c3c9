-- The leaves of an open line with the numbers that they take.
use Rattle.std.proofs.Common.{◌≡◌, ℕ, List, [], ◌∷◌, Bool, true, false, cond, Some, None, map, refl, ap}
use Rattle.history.specs.History.{History}
use Rattle.history.specs.Lines.{SpecLeaf, given, stored}
use Rattle.stated_arrays.specs.OpenedViews.{paired}
use Rattle.transcript_cut.specs.Takings.{Taking, taking, takings, was_opened}

-- the leaves with their numbers are those that take them
pub pairs_of : (h : History) (leaves : List SpecLeaf) (numbers : List ℕ) → takings h leaves numbers ≡ paired leaves (map (λ (t : Taking). t.number) (takings h leaves numbers))
pairs_of h [] numbers = refl
pairs_of h (leaf ∷ leaves) [] = ap (λ ts. taking leaf None ∷ ts) (pairs_of h leaves [])
pairs_of h (given cells ∷ leaves) (n ∷ numbers) = ap (λ ts. taking (given cells) (Some n) ∷ ts) (pairs_of h leaves numbers)
pairs_of h (stored node leaf ∷ leaves) (n ∷ numbers) = by (was_opened h n leaf) (pairs_of h leaves (n ∷ numbers)) (pairs_of h leaves numbers)
  where
    by : (b : Bool) → takings h leaves (n ∷ numbers) ≡ paired leaves (map (λ (t : Taking). t.number) (takings h leaves (n ∷ numbers)))
        → takings h leaves numbers ≡ paired leaves (map (λ (t : Taking). t.number) (takings h leaves numbers))
        → cond b (taking (stored node leaf) None ∷ takings h leaves (n ∷ numbers)) (taking (stored node leaf) (Some n) ∷ takings h leaves numbers)
        ≡ paired (stored node leaf ∷ leaves) (map (λ (t : Taking). t.number) (cond b (taking (stored node leaf) None ∷ takings h leaves (n ∷ numbers)) (taking (stored node leaf) (Some n) ∷ takings h leaves numbers)))
    by true passed taken = ap (λ ts. taking (stored node leaf) None ∷ ts) passed
    by false passed taken = ap (λ ts. taking (stored node leaf) (Some n) ∷ ts) taken
