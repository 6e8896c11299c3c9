use Rattle.std.proofs.Common.{refl, ◌∙◌}
use Rattle.chunk_elements.proofs.MoveLaws.{one_moved}
use Rattle.chunk_elements.proofs.moving.move_each.Goals as goal

pub loop-i-preserved : goal.loop-i-preserved
loop-i-preserved c =
    one_moved c.args.dtype c.args.big c.args.to c.loop-i.i c.byte_count-size.result c.args.row.stride c.args.row.from c.args.row.count c.args.elements.now c.loop-i.out _ c.put.new.out c.take.result
    c.byte_count-size.ensures.value (c.loop-i.auto.out ∙ c.requires.full) c.loop-i-test.true c.loop-i.invariant c.take.ensures refl c.put.ensures
