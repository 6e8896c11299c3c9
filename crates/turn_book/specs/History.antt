-- Histories: lists of entries, each of which has an owner's number.
use Rattle.std.specs.Prelude.{◌≡◌, ◌==◌, ℕ, List, ◌++◌, filter, All}

-- the entries of one owner, in order
abbrev pub entries_of : {E : Type 0} → (E → ℕ) → ℕ → List E → List E
entries_of owner number history = filter (λ e. owner e == number) history

-- the new history is the old one, followed by entries of this owner alone
abbrev pub Continues : {E : Type 0} → (E → ℕ) → ℕ → List E → List E → Type 0
Continues {E} owner number old new = (added : List E) × (new ≡ old ++ added) × All (λ e. owner e ≡ number) added
