use Rattle.chunk_elements.proofs.TakeLaws.{last_taken}
use Rattle.chunk_elements.proofs.taking.take_last.Goals as goal

pub returns : goal.returns
returns c =
    last_taken c.args.kind.dtype c.args.kind.big c.args.most c.args.size c.args.step.stride c.args.step.from c.byte_count.result c.args.elements.now c.args.out.now c.move_row.new.out
    c.byte_count.ensures.value c.requires.fit c.requires.zeros c.move_row.ensures
