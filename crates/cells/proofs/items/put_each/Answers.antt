use Rattle.std.proofs.Common.{◌≡◌, ◌*◌, ◌<◌, length, refl, arith}
use Rattle.cells.specs.Bytes.{byte_count}
use Rattle.cells.specs.Items.{words_in}
use Rattle.cells.proofs.ItemLaws.{length-words_in, item_put, each_more, each_all}
use Rattle.cells.proofs.items.put_each.Goals as goal

pub loop-place-preserved : goal.loop-place-preserved
loop-place-preserved c =
    let n = length c.args.words.now in
    let full : length c.loop-place.bytes ≡ n * byte_count c.args.dtype = omega (arith, c.loop-place.auto.bytes, c.requires.full) in
    let less : c.loop-place.place < n = omega arith in
    each_more (words_in c.args.dtype n c.loop-place.bytes) _ c.args.words.now c.loop-place.place n
    (item_put c.args.dtype n c.loop-place.place c.byte_count-size.result _ c.loop-place.bytes c.put.new.out c.byte_count-size.ensures.value full less (c.requires.words c.loop-place.place 0 less) c.put.ensures)
    (length-words_in c.args.dtype n c.loop-place.bytes) less c.loop-place.invariant

pub returns : goal.returns
returns c = each_all (words_in c.args.dtype (length c.args.words.now) c.loop-place.bytes) c.args.words.now c.loop-place.place (length c.args.words.now)
    (length-words_in c.args.dtype (length c.args.words.now) c.loop-place.bytes) refl (omega arith) c.loop-place.invariant
