use Rattle.std.proofs.Common.{◌≡◌, ◌+◌, ℕ, List, drop, length}
use Rattle.std.specs.List.{AllByRecursion}
use Rattle.chunk_fetches.specs.Found.{found}
use Rattle.transactions.specs.Keeping.{IsUnkept, IsUnspoilt, placed}
use Rattle.chunk_fetches.specs.declared.kept.Kept.{Kept}
use Rattle.transactions.proofs.keeping.prepare.Given as goal

-- giving the rest their places now gives what giving all at first gives, and what is told so far counts as before
abbrev pub invariant-loop-k : goal.invariant-loop-k
invariant-loop-k l = record {
  rest : (id : List ℕ) → placed (l.from + l.k) (drop l.k l.fetched) id (found l.places.entries id) ≡ placed l.from l.fetched id (found l.initial.places.entries id);
  unspoilt : (kept : List Kept) → length kept ≡ l.from → AllByRecursion (IsUnkept kept) l.fetched → (id : List ℕ) → IsUnspoilt kept id (found l.initial.places.entries id) (found l.places.entries id);
}
