use Rattle.std.proofs.Common.{◌≡◌, ◌+◌, ◌*◌, pos, arith, rules, drop, get_or, FitsSigned, w64}
use Rattle.std.proofs.lemmas.Int.{to_z-of_z}
use Rattle.index_transform.specs.Values.{entry_place}
use Rattle.index_transform.proofs.EntryLemmas.{IsAlong, IsAlong-next, IsAlong-end, IsAlong-most, IsAlong-product, entry_place-below}
use Rattle.index_transform.proofs.value.entry_place.Goals as goal

-- the place behind the next dimension
next : (c : goal.After-entry_index) → IsAlong (drop (c.loop-k.k + 1) c.args.dims.now) (drop (c.loop-k.k + 1) c.args.sizes.now) (drop (c.loop-k.k + 1) c.args.index.now) (c.loop-k.place * get_or c.args.sizes.now c.loop-k.k 0 + c.entry_index.result) (entry_place c.args.dims.now c.args.sizes.now c.args.index.now)
next c =
    let fits : FitsSigned w64 (get_or c.args.index.now c.loop-k.k (pos 0)) = search rules in
    let x = to_z-of_z w64 (get_or c.args.index.now c.loop-k.k (pos 0)) fits in
    let i = (rw x at c.entry_index.ensures.value) in
    rw i (IsAlong-next c.args.dims.now c.args.sizes.now c.args.index.now c.loop-k.k c.loop-k.place _ c.index-dims-k.result c.loop-k-test.true c.loop-k.invariant c.index-dims-k.is)

pub loop-k-preserved : goal.loop-k-preserved
loop-k-preserved c = next c

pub overflow_mul-place : goal.overflow_mul-place
overflow_mul-place c =
    let m = IsAlong-product c.args.dims.now c.args.sizes.now c.args.index.now c.loop-k.k c.loop-k.place _ c.loop-k-test.true c.loop-k.invariant in
    let b = entry_place-below c.args.dims.now c.args.sizes.now c.args.index.now c.requires.reached in
    omega (arith, m, b, c.requires.small)

pub overflow_add-place : goal.overflow_add-place
overflow_add-place c =
    let m = IsAlong-most _ _ _ _ _ (next c) in
    let b = entry_place-below c.args.dims.now c.args.sizes.now c.args.index.now c.requires.reached in
    omega (arith, m, b, c.requires.small)

ended : (c : goal.After-loop-k) → c.loop-k.place ≡ entry_place c.args.dims.now c.args.sizes.now c.args.index.now
ended c = IsAlong-end c.args.dims.now c.args.sizes.now c.args.index.now c.loop-k.k c.loop-k.place _ (omega (arith, c.loop-k-test.false, c.loop-k.auto.k-end)) c.loop-k.invariant

pub returns-clause-value : goal.returns-clause-value
returns-clause-value c = ended c

pub returns-clause-below : goal.returns-clause-below
returns-clause-below c = rw (ended c) (entry_place-below c.args.dims.now c.args.sizes.now c.args.index.now c.requires.reached)
