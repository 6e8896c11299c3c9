-- How long the text of values is at least.
use Rattle.std.specs.Prelude.{ℕ, zero, suc, ◌*◌, List, [], ◌∷◌}

-- how many lists have no item, where the numbers of a shape stand in nested lists; none where each size is at least 1
abbrev pub empty_lists : List ℕ → ℕ
empty_lists [] = 0
empty_lists (zero ∷ shape) = 1
empty_lists (suc n ∷ shape) = suc n * empty_lists shape
