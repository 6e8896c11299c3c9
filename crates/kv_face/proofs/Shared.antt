-- Changes whose bytes can be shared, one after another.
use Rattle.std.proofs.Common.{◌≡◌, List, [], ◌∷◌, ◌++◌, map, ap}
use Rattle.kv_face.specs.Table.{change_of}
use Rattle.kv_face.specs.declared.change.Change.{Change}
use Rattle.kv_face.specs.declared.table.Shared.{Shared}

-- one change more stands behind those that were shared, before those that are left
pub shared_more : (xs : List Shared) (s : Shared) (c : Change) (rest : List Change) → change_of s ≡ c
    → map change_of (xs ++ s ∷ []) ++ rest ≡ map change_of xs ++ c ∷ rest
shared_more [] s c rest is = ap (λ d. d ∷ rest) is
shared_more (x ∷ xs) s c rest is = ap (λ l. change_of x ∷ l) (shared_more xs s c rest is)
