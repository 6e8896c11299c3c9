-- What `peek` finds is what is kept, and what is promoted comes first.
use Rattle.std.proofs.Common.{ℕ, List, Some, ◌∙◌, sym, ap, subst}
use Rattle.chunk_cache.specs.Snapshot.{SnapshotCells}
use Rattle.chunk_cache.specs.Cache.{CacheList, IsCache, cells_of, kept, after_hit}
use Rattle.chunk_cache.specs.Kept.{entries_of}
use Rattle.chunk_cache.proofs.CacheLaws.{IsCache-after_hit, cells_of-after_hit, after_hit-missed}
use Rattle.chunk_cache.proofs.KeptLaws.{lookup-entries, entries_of-promoted}
use Rattle.chunk_cache.proofs.cache.ChunkCache.hit.Goals as goal

pub returns-in_default-clause-value : goal.returns-in_default-clause-value
returns-in_default-clause-value c =
    c.in_default.ensures ∙ lookup-entries c.args.key.now c.self.inside.entries.entries ∙ ap (λ cache. kept c.args.key.now cache.entries) c.self.view_is

pub returns-in_default-clause-after : goal.returns-in_default-clause-after
returns-in_default-clause-after c =
    ap (λ es. record c.args.self.now { entries = es }) (sym (after_hit-missed c.args.key.now c.args.self.now.entries (sym (returns-in_default-clause-value c))))

pub returns-in_err-shared-clause-miss : goal.returns-in_err-shared-clause-miss
returns-in_err-shared-clause-miss c none =
    let some = c.in-Some.ensures ∙ lookup-entries c.args.key.now c.self.inside.entries.entries ∙ ap (λ cache. kept c.args.key.now cache.entries) c.self.view_is in
    cc (some ∙ none)

pub invariant_of-self : goal.invariant_of-self
invariant_of-self c =
    let old : CacheList = record { limit = c.self.inside.limit; entries = entries_of c.self.inside.entries.entries } in
    let first = ap (λ cache. entries_of cache.entries) c.promote.ensures.entries
    ∙ entries_of-promoted c.args.key.now c.self.inside.entries.entries c.self.invariant.0.apart in (
      subst (λ es. IsCache (record { limit = c.self.inside.limit; entries = es })) (sym first) (IsCache-after_hit c.args.key.now old c.self.invariant.0),
      c.self.invariant.1 ∙ sym (ap cells_of first ∙ cells_of-after_hit c.args.key.now old.entries c.self.invariant.0.apart),
      ap (λ cache. cache.cap) c.promote.ensures.entries ∙ c.self.invariant.2,
    )

pub returns-clause-value : goal.returns-clause-value
returns-clause-value c =
    ap Some c.in_ok-shared.ensures ∙ c.in-Some.ensures ∙ lookup-entries c.args.key.now c.self.inside.entries.entries
    ∙ ap (λ cache. kept c.args.key.now cache.entries) c.self.view_is

pub returns-clause-after : goal.returns-clause-after
returns-clause-after c =
    let first = ap (λ cache. entries_of cache.entries) c.promote.ensures.entries
    ∙ entries_of-promoted c.args.key.now c.self.inside.entries.entries c.self.invariant.0.apart in
    let with_entries : List (List ℕ × SnapshotCells) → CacheList = λ es. record { limit = c.self.inside.limit; entries = es } in
    ap with_entries first
    ∙ ap (λ (cache : CacheList). record cache { entries = after_hit c.args.key.now cache.entries }) c.self.view_is
