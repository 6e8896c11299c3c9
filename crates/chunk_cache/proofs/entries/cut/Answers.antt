-- Where a bound is passed, the last entry doesn't fit; where none is, all that are left do.
use Rattle.std.proofs.Common.{◌<◌, ◌⊎◌, inl, inr, length, ◌∙◌, sym, ap, arith}
use Rattle.chunk_cache.specs.Cache.{cells_of, most_chunks}
use Rattle.chunk_cache.specs.Kept.{entries_of}
use Rattle.chunk_cache.proofs.FittingLaws.{fitting-all}
use Rattle.chunk_cache.proofs.KeptLaws.{IsLastTaken, IsLastTaken-take, length-entries_of, length-from_cells_of, cells_of-last, length-last, fitting-last}
use Rattle.chunk_cache.proofs.entries.cut.Goals as goal
use Rattle.chunk_cache.proofs.entries.cut.Goals.{then-left-limit, else-left-limit+then-len-gt-MOST_CHUNKS}

-- where a bound is passed, there is an entry, and the last one was taken out
taken : (c : goal.After-take_last-left) → IsLastTaken c.loop-left.entries.entries c.take_last-left.new.entries.entries c.take_last-left.result
taken c =
    let some : 0 < length c.loop-left.entries.entries = elim c.if-left-limit.branch [
      | then-left-limit w ↦ length-from_cells_of c.loop-left.entries.entries (omega (arith, c.loop-left.invariant.counted, w.if-left-limit.true))
      | else-left-limit+then-len-gt-MOST_CHUNKS w ↦ omega (arith, w.len.ensures.len, w.if-len-gt-MOST_CHUNKS.true)
    ] in
    IsLastTaken-take c.loop-left.entries.entries c.take_last-left.new.entries.entries c.take_last-left.result some
    (ap (λ cache. cache.entries) c.take_last-left.ensures.entries) c.take_last-left.ensures.cells

pub overflow_sub-left : goal.overflow_sub-left
overflow_sub-left c =
    let cells = cells_of-last c.loop-left.entries.entries c.take_last-left.new.entries.entries c.take_last-left.result (taken c) in
    omega (arith, cells, c.loop-left.invariant.counted)

pub loop-left-smaller : goal.loop-left-smaller
loop-left-smaller c = length-last c.loop-left.entries.entries c.take_last-left.new.entries.entries c.take_last-left.result (taken c)

pub loop-left-preserved : goal.loop-left-preserved
loop-left-preserved c =
    let cells = cells_of-last c.loop-left.entries.entries c.take_last-left.new.entries.entries c.take_last-left.result (taken c) in
    let past : (c.args.limit < cells_of (entries_of c.loop-left.entries.entries)) ⊎ (most_chunks < length c.loop-left.entries.entries) = elim c.if-left-limit.branch [
      | then-left-limit w ↦ inl (omega (arith, c.loop-left.invariant.counted, w.if-left-limit.true))
      | else-left-limit+then-len-gt-MOST_CHUNKS w ↦ inr (omega (arith, w.len.ensures.len, w.if-len-gt-MOST_CHUNKS.true))
    ] in
    record {
      same = fitting-last c.args.limit c.loop-left.entries.entries c.take_last-left.new.entries.entries c.take_last-left.result (taken c) past
          ∙ c.loop-left.invariant.same;
      counted = omega (arith, cells, c.loop-left.invariant.counted);
      capacity = ap (λ cache. cache.cap) c.take_last-left.ensures.entries ∙ c.loop-left.invariant.capacity;
    }

pub returns-clause-entries : goal.returns-clause-entries
returns-clause-entries c =
    let size = length-entries_of c.loop-left.entries.entries in
    sym (fitting-all c.args.limit most_chunks (entries_of c.loop-left.entries.entries)
    (omega (arith, c.loop-left.invariant.counted, c.if-left-limit.false)) (omega (arith, size, c.len.ensures.len, c.if-len-gt-MOST_CHUNKS.false)))
    ∙ c.loop-left.invariant.same

pub returns-clause-cap : goal.returns-clause-cap
returns-clause-cap c = c.loop-left.invariant.capacity

pub returns-clause-total : goal.returns-clause-total
returns-clause-total c = c.loop-left.invariant.counted
