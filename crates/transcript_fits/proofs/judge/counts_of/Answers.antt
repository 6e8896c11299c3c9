use Rattle.std.proofs.Common.{◌≡◌, ◌+◌, [], ◌∷◌, sym, subst, arith}
use Rattle.transcript_fits.proofs.CountLaws.{AreCountsUpTo, all_counts, counts_more, no_counts}
use Rattle.transcript_fits.proofs.judge.counts_of.Goals as goal

pub loop-i-init : goal.loop-i-init
loop-i-init c =
    let made : c.in_ok-counts.counts.items ≡ 0 ∷ [] = c.in_ok-counts.ensures.items_if_clones_equal (λ y e. e) in
    subst (AreCountsUpTo c.args.events.now 0 0) (sym made) (no_counts c.args.events.now)

pub count_behind-count-requires : goal.count_behind-count-requires
count_behind-count-requires c = let few = c.loop-i.invariant.few in omega (arith, few)

pub loop-i-preserved : goal.loop-i-preserved
loop-i-preserved c =
    subst (AreCountsUpTo c.args.events.now (c.loop-i.i + 1) c.count_behind-count.result) (sym c.in_ok-push.ensures.items)
    (counts_more c.args.events.now c.loop-i.i c.loop-i.count c.count_behind-count.result c.loop-i.counts.items c.index-events-i.result c.loop-i-test.true c.index-events-i.is c.count_behind-count.ensures c.loop-i.invariant)

pub returns : goal.returns
returns c = all_counts c.args.events.now c.loop-i.i c.loop-i.count c.loop-i.counts.items (omega arith) c.loop-i.invariant
