use Rattle.std.proofs.Common.{◌≡◌, ◌*◌, ◌∙◌, length, sym, ap, arith}
use Rattle.cells.specs.Bytes.{byte_count}
use Rattle.cells.specs.Runs.{pairs_of, pairs_put}
use Rattle.cells.proofs.TestLaws.{first_pairs-all}
use Rattle.cells.specs.Items.{words_in}
use Rattle.cells.proofs.RunPuts.{pair_put, chunk_place-row, view_place-one}
use Rattle.cells.proofs.items.put_one.Goals as goal

pub loop-k-preserved : goal.loop-k-preserved
loop-k-preserved c =
    let run = c.args.run in
    let full : length c.loop-k.bytes ≡ c.args.cells * byte_count c.args.dtype = omega (arith, c.loop-k.auto.bytes, c.requires.full) in
    pair_put c.args.dtype c.args.cells c.byte_count-size.result _ _ c.loop-k.k run c.args.words.now (words_in c.args.dtype c.args.cells c.args.bytes.now)
    c.loop-k.bytes c.put.new.out c.byte_count-size.ensures.value full (sym (view_place-one run c.loop-k.k c.requires.view_step)) (sym (chunk_place-row run c.loop-k.k c.requires.chunk_step)) c.loop-k-test.true c.requires.run c.requires.words c.put.ensures
    c.loop-k.invariant

pub returns : goal.returns
returns c =
    let all = first_pairs-all c.args.run c.loop-k.k (omega arith) in
    c.loop-k.invariant ∙ ap (λ run. pairs_put (pairs_of run) c.args.words.now (words_in c.args.dtype c.args.cells c.args.bytes.now)) all
