-- What stays without a key is a cache, in which the key is gone.
use Rattle.std.proofs.Common.{ℕ, List, ◌∙◌, sym, ap, subst, arith}
use Rattle.chunk_cache.specs.Snapshot.{SnapshotCells}
use Rattle.chunk_cache.specs.Cache.{CacheList, IsCache, kept, after_drop}
use Rattle.chunk_cache.specs.Kept.{entries_of}
use Rattle.chunk_cache.proofs.CacheLaws.{IsCache-without, kept-without}
use Rattle.chunk_cache.proofs.KeptLaws.{entries_of-taken_out, cells_of-gone}
use Rattle.chunk_cache.proofs.cache.ChunkCache.drop_key.Goals as goal

pub overflow_sub-self : goal.overflow_sub-self
overflow_sub-self c =
    let cells = cells_of-gone c.args.key.now c.self.inside.entries c.take_out.new.entries c.take_out.result c.self.invariant.0.apart c.take_out.ensures.entries c.take_out.ensures.cells in
    omega (arith, cells, c.self.invariant.1)

pub invariant_of-self : goal.invariant_of-self
invariant_of-self c =
    let rest = entries_of-taken_out c.args.key.now c.self.inside.entries c.take_out.new.entries c.self.invariant.0.apart c.take_out.ensures.entries in
    let cells = cells_of-gone c.args.key.now c.self.inside.entries c.take_out.new.entries c.take_out.result c.self.invariant.0.apart c.take_out.ensures.entries c.take_out.ensures.cells in (
      subst (λ es. IsCache (record { limit = c.self.inside.limit; entries = es })) (sym rest)
          (IsCache-without c.args.key.now (record { limit = c.self.inside.limit; entries = entries_of c.self.inside.entries.entries }) c.self.invariant.0),
      omega (arith, cells, c.self.invariant.1),
      ap (λ cache. cache.cap) c.take_out.ensures.entries ∙ c.self.invariant.2,
    )

pub returns-clause-after : goal.returns-clause-after
returns-clause-after c =
    let rest = entries_of-taken_out c.args.key.now c.self.inside.entries c.take_out.new.entries c.self.invariant.0.apart c.take_out.ensures.entries in
    let with_entries : List (List ℕ × SnapshotCells) → CacheList = λ es. record { limit = c.self.inside.limit; entries = es } in
    ap with_entries rest ∙ ap (λ (cache : CacheList). record cache { entries = after_drop c.args.key.now cache.entries }) c.self.view_is

pub returns-clause-gone : goal.returns-clause-gone
returns-clause-gone c =
    ap (kept c.args.key.now) (entries_of-taken_out c.args.key.now c.self.inside.entries c.take_out.new.entries c.self.invariant.0.apart c.take_out.ensures.entries)
    ∙ kept-without c.args.key.now (entries_of c.self.inside.entries.entries)
