use Rattle.cells.proofs.ItemLaws.{item_taken}
use Rattle.cells.proofs.items.item.Goals as goal

pub returns : goal.returns
returns c = item_taken c.args.dtype c.args.place c.byte_count-size.result c.take.result c.args.bytes.now c.byte_count-size.ensures.value c.take.ensures
