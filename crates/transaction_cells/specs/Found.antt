-- What a table has under an id.
use Rattle.std.specs.Prelude.{ℕ, List, Vec, Option}
use Rattle.std.specs.declared.alloc.Global.{Global}
use Rattle.std.specs.declared.cmp.Ordering.{Ordering}
use Rattle.std.specs.Map.{lookup}
use Rattle.std.specs.Ordering.{nat_cmp, is_eq}
use Rattle.std.specs.Cmp.Lexicographic.{slice_cmp}

abbrev pub Id : Type 0
Id = Vec ℕ Global

abbrev pub by_id : Id → Id → Ordering
by_id x y = slice_cmp nat_cmp x.items y.items

-- what the entries have under an id
abbrev pub found : {V : Type 0} → List (Id × V) → List ℕ → Option V
found entries id = lookup (λ (k : Id). is_eq (slice_cmp nat_cmp id k.items)) entries
