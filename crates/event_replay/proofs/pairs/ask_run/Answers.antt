use Rattle.std.proofs.Common.{◌∙◌, ap, arith}
use Rattle.std.specs.Prelude.{slice_index}
use Rattle.event_replay.specs.Placed.{asked_cell}
use Rattle.transaction_cells.proofs.MorePairs.{pair_more, pairs_all}
use Rattle.event_replay.proofs.pairs.ask_run.Goals as goal

pub loop-k-preserved : goal.loop-k-preserved
loop-k-preserved c =
    let leaves = c.args.leaves.now in
    let words = c.args.words.now in
    pair_more (asked_cell leaves words) c.args.run c.loop-k.k c.args.asked.now.items c.loop-k.asked.items c.push.new.self.items _ (omega arith) c.loop-k.invariant c.in_ok-push.ensures.items
    (λ i. record { place = c.pair_at-view.ensures.chunk i; leaf = (c.leaf-leaf.ensures ∙ ap (slice_index leaves) c.pair_at-view.ensures.view) i; word = slice_index words (c.pair_at-view.ensures.view i) })

pub returns : goal.returns
returns c = pairs_all (asked_cell c.args.leaves.now c.args.words.now) c.args.run c.loop-k.k c.args.asked.now.items c.loop-k.asked.items (omega arith) c.loop-k.invariant
