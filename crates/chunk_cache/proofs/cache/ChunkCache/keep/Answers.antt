-- The entries that fit are a cache.
use Rattle.std.proofs.Common.{◌∷◌, string_bytes, ◌∙◌, sym, ap, subst}
use Rattle.chunk_cache.specs.Cache.{CacheList, IsCache, IsLongestFront, fitting, most_chunks, without}
use Rattle.chunk_cache.specs.Kept.{entries_of}
use Rattle.chunk_cache.proofs.CacheLaws.{IsDistinct-first}
use Rattle.chunk_cache.proofs.FittingLaws.{IsCache-fitting, IsLongestFront-fitting}
use Rattle.chunk_cache.proofs.cache.ChunkCache.keep.Goals as goal

pub invariant_of-self-2 : goal.invariant_of-self-2
invariant_of-self-2 c =
    let old = entries_of c.self.inside.entries.entries in
    let whole = (string_bytes c.args.key, c.args.snapshot) ∷ without (string_bytes c.args.key) old in
    let fit = c.cut-self-inside.ensures.entries ∙ ap (fitting c.self.inside.limit most_chunks) c.in_ok-gone.ensures.entries in (
      subst (λ es. IsCache (record { limit = c.self.inside.limit; entries = es })) (sym fit)
          (IsCache-fitting c.self.inside.limit whole c.self.invariant.0.small (IsDistinct-first (string_bytes c.args.key) c.args.snapshot old c.self.invariant.0.apart)),
      c.cut-self-inside.ensures.total,
      c.cut-self-inside.ensures.cap ∙ c.in_ok-gone.ensures.cap ∙ c.self.invariant.2,
    )

pub returns-clause-longest : goal.returns-clause-longest
returns-clause-longest c within =
    let whole = (string_bytes c.args.key, c.args.snapshot) ∷ without (string_bytes c.args.key) (entries_of c.self.inside.entries.entries) in
    let fit = c.cut-self-inside.ensures.entries ∙ ap (fitting c.self.inside.limit most_chunks) c.in_ok-gone.ensures.entries in
    subst (λ (cache : CacheList). IsLongestFront cache.limit most_chunks ((string_bytes c.args.key, c.args.snapshot) ∷ without (string_bytes c.args.key) cache.entries)
    (entries_of c.cut-self-inside.new.entries.entries)) c.self.view_is
    (subst (λ es. IsLongestFront c.self.inside.limit most_chunks whole es) (sym fit) (IsLongestFront-fitting c.self.inside.limit most_chunks whole))
