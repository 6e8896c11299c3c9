use Rattle.std.proofs.Common.{◌<◌, take}
use Rattle.std.specs.Prelude.{All}
use Rattle.version_store.specs.declared.placed.PlacedWord.{PlacedWord}
use Rattle.version_store.proofs.filling.are_places.Given as goal

-- the words so far lie at places of the chunk
abbrev pub invariant-loop-i : goal.invariant-loop-i
invariant-loop-i l = All (λ (w : PlacedWord). w.place < l.size) (take l.i l.words)
