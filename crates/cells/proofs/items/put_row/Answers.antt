use Rattle.std.proofs.Common.{◌≡◌, ◌*◌, ◌∙◌, length, ap, arith}
use Rattle.cells.specs.Bytes.{byte_count}
use Rattle.cells.specs.Runs.{pairs_of, pairs_put, pairs_taken}
use Rattle.cells.proofs.TestLaws.{first_pairs-all}
use Rattle.cells.specs.Items.{words_in}
use Rattle.cells.proofs.RunPuts.{pair_put}
use Rattle.cells.proofs.items.put_row.Goals as goal

pub loop-k-preserved : goal.loop-k-preserved
loop-k-preserved c =
    let full : length c.loop-k.bytes ≡ c.args.cells * byte_count c.args.dtype = omega (arith, c.loop-k.auto.bytes, c.requires.full) in
    pair_put c.args.dtype c.args.cells c.byte_count-size.result c.row_at-view.result.1 c.row_at-view.result.0 c.loop-k.k c.args.run c.args.words.now (words_in c.args.dtype c.args.cells c.args.bytes.now)
    c.loop-k.bytes c.put.new.out c.byte_count-size.ensures.value full c.row_at-view.ensures.view c.row_at-view.ensures.chunk c.loop-k-test.true c.requires.run c.requires.words c.put.ensures c.loop-k.invariant

pub returns : goal.returns
returns c =
    let all = first_pairs-all c.args.run c.loop-k.k (omega arith) in
    c.loop-k.invariant ∙ ap (λ run. pairs_put (pairs_of run) c.args.words.now (words_in c.args.dtype c.args.cells c.args.bytes.now)) all
