use Rattle.std.proofs.Common.{◌≡◌, drop}
use Rattle.std.specs.List.{list_any}
use Rattle.chunk_fetches.specs.declared.looked.Fresh.{Fresh}
use Rattle.chunk_fetches.proofs.fetching.has_decoded.Given as goal

-- none so far
abbrev pub invariant-loop-f : goal.invariant-loop-f
invariant-loop-f l = list_any (λ (f : Fresh). f.is_new) (drop l.f-index l.fresh) ≡ list_any (λ (f : Fresh). f.is_new) l.fresh
