-- The key of a block, below its array.
use Rattle.std.specs.Prelude.{ℕ, List, [], ◌∷◌, ◌++◌, codes, decimal}
use Rattle.std.specs.List.{flat_map}

-- the block's indices in decimal, with "/" between them
abbrev pub block_key : List ℕ → List ℕ
block_key [] = []
block_key (i ∷ block) = decimal i ++ flat_map (λ j. codes "/" ++ decimal j) block
