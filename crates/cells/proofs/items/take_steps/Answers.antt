use Rattle.std.proofs.Common.{◌≡◌, ◌∙◌, length, ap, arith}
use Rattle.cells.specs.Runs.{pairs_of, pairs_put, pairs_taken}
use Rattle.cells.proofs.TestLaws.{first_pairs-all}
use Rattle.cells.specs.Items.{words_in}
use Rattle.cells.proofs.RunPuts.{chunk_place-lt, pair_taken}
use Rattle.cells.proofs.items.take_steps.Goals as goal

pub loop-k-preserved : goal.loop-k-preserved
loop-k-preserved c =
    let within = chunk_place-lt c.args.run (length c.args.out.now) c.args.cells c.loop-k.k c.requires.run c.loop-k-test.true in
    pair_taken c.args.dtype c.args.cells c.byte_count-size.result c.pair_at-view.result.1 c.pair_at-view.result.0 c.loop-k.k c.take.result c.args.run
    c.args.bytes.now c.args.out.now c.loop-k.out c.byte_count-size.ensures.value c.pair_at-view.ensures.view c.pair_at-view.ensures.chunk (omega (arith, within, c.pair_at-view.ensures.chunk)) c.take.ensures c.loop-k.invariant

pub returns : goal.returns
returns c =
    let all = first_pairs-all c.args.run c.loop-k.k (omega arith) in
    c.loop-k.invariant ∙ ap (λ run. pairs_taken (pairs_of run) (words_in c.args.dtype c.args.cells c.args.bytes.now) c.args.out.now) all
