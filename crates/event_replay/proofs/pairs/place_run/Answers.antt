use Rattle.std.proofs.Common.{arith}
use Rattle.std.specs.Prelude.{slice_index}
use Rattle.event_replay.specs.Placed.{placed_word}
use Rattle.transaction_cells.proofs.MorePairs.{pair_more, pairs_all}
use Rattle.event_replay.proofs.pairs.place_run.Goals as goal

pub loop-k-preserved : goal.loop-k-preserved
loop-k-preserved c =
    let f = placed_word c.args.words.now in
    pair_more f c.args.run c.loop-k.k c.args.placed.now.items c.loop-k.placed.items c.push.new.self.items _ (omega arith) c.loop-k.invariant c.in_ok-push.ensures.items
    (λ i. record { place = c.pair_at-view.ensures.chunk i; word = slice_index c.args.words.now (c.pair_at-view.ensures.view i) })

pub returns : goal.returns
returns c = pairs_all (placed_word c.args.words.now) c.args.run c.loop-k.k c.args.placed.now.items c.loop-k.placed.items (omega arith) c.loop-k.invariant
