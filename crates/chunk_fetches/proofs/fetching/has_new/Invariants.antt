use Rattle.std.proofs.Common.{◌≡◌, drop}
use Rattle.std.specs.List.{list_any}
use Rattle.chunk_fetches.specs.Sources.{is_new}
use Rattle.chunk_fetches.proofs.fetching.has_new.Given as goal

-- none so far
abbrev pub invariant-loop-source : goal.invariant-loop-source
invariant-loop-source l = list_any is_new (drop l.source-index l.sources) ≡ list_any is_new l.sources
