use Rattle.std.proofs.Common.{arith}
use Rattle.cells.proofs.ItemLaws.{item_within, item_put}
use Rattle.cells.proofs.items.put_item.Goals as goal

pub returns : goal.returns
returns c n full is =
    item_put c.args.dtype n c.args.place c.byte_count-size.result c.args.word c.args.bytes.now c.put.new.out c.byte_count-size.ensures.value full
    (item_within c.args.dtype c.args.place n (omega (arith, full, c.requires))) is c.put.ensures
