use Rattle.std.proofs.Common.{◌≡◌, ◌*◌, length, arith}
use Rattle.cells.specs.Bytes.{byte_count}
use Rattle.cells.specs.Items.{words_in}
use Rattle.cells.proofs.ItemLaws.{length-words_in, item_put, filled_more, filled_all}
use Rattle.cells.proofs.items.fill_each.Goals as goal

pub loop-place-preserved : goal.loop-place-preserved
loop-place-preserved c =
    let full : length c.loop-place.bytes ≡ c.args.cells * byte_count c.args.dtype = omega (arith, c.loop-place.auto.bytes, c.requires.full) in
    filled_more (words_in c.args.dtype c.args.cells c.loop-place.bytes) _ c.loop-place.place c.args.word c.args.cells
    (item_put c.args.dtype c.args.cells c.loop-place.place c.byte_count-size.result c.args.word c.loop-place.bytes c.put.new.out c.byte_count-size.ensures.value full c.loop-place-test.true c.requires.word c.put.ensures)
    (length-words_in c.args.dtype c.args.cells c.loop-place.bytes) c.loop-place-test.true c.loop-place.invariant

pub returns : goal.returns
returns c = filled_all (words_in c.args.dtype c.args.cells c.loop-place.bytes) c.loop-place.place c.args.word c.args.cells
    (length-words_in c.args.dtype c.args.cells c.loop-place.bytes) c.loop-place-test.false c.loop-place.invariant
