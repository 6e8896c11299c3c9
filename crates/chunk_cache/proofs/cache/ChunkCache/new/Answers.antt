-- An empty list is a cache.
use Rattle.std.proofs.Common.{◌≡◌, [], refl, sym, ap, subst}
use Rattle.chunk_cache.specs.Cache.{IsCache, cells_of}
use Rattle.chunk_cache.specs.Kept.{entries_of}
use Rattle.chunk_cache.proofs.CacheLaws.{IsCache-empty}
use Rattle.chunk_cache.proofs.cache.ChunkCache.new.Goals as goal

pub invariant_of-result : goal.invariant_of-result
invariant_of-result c =
    let none : c.in_ok-unbounded.field-0.entries ≡ [] = ap (λ cache. cache.entries) c.in_ok-unbounded.ensures in (
      subst (λ es. IsCache (record { limit = c.args.limit; entries = entries_of es })) (sym none) (IsCache-empty c.args.limit c.requires),
      subst (λ es. 0 ≡ cells_of (entries_of es)) (sym none) refl,
      ap (λ cache. cache.cap) c.in_ok-unbounded.ensures,
    )
