use Rattle.std.proofs.Common.{◌≡◌, ◌==◌, drop}
use Rattle.std.specs.List.{list_any}
use Rattle.index_transform.specs.Maps.{size_of}
use Rattle.index_transform.specs.Walks.{IsNonEmpty}
use Rattle.index_transform.proofs.count.has_empty.Given as goal

-- no dimension so far is empty
abbrev pub invariant-loop-dim : goal.invariant-loop-dim
invariant-loop-dim l = (list_any (λ dim. size_of dim == 0) l.dims ≡ list_any (λ dim. size_of dim == 0) (drop l.dim-index l.dims))
    × (IsNonEmpty (drop l.dim-index l.dims) → IsNonEmpty l.dims)
