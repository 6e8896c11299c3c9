-- The key of a chunk, below its array.
use Rattle.std.specs.Prelude.{ℕ, List, [], ◌∷◌, ◌++◌, Bool, codes, decimal, if◌then◌else◌}
use Rattle.std.specs.List.{flat_map}

-- the byte between the indices: "/" or "."
abbrev pub separator : Bool → ℕ
separator slash = if slash then 47 else 46

-- the indices in decimal, with this text between them
abbrev pub joined_indices : List ℕ → List ℕ → List ℕ
joined_indices between [] = []
joined_indices between (i ∷ chunk) = decimal i ++ flat_map (λ j. between ++ decimal j) chunk

-- the chunk's indices in decimal with the separator between them; a chunk of rank 0 is "0"
abbrev pub chunk_key : Bool → List ℕ → List ℕ
chunk_key slash [] = codes "0"
chunk_key slash (i ∷ chunk) = joined_indices (separator slash ∷ []) (i ∷ chunk)
