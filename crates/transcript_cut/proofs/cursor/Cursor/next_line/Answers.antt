use Rattle.std.proofs.Common.{arith}
use Rattle.transcript_cut.proofs.cursor.Cursor.next_line.Goals as goal

pub overflow_add-self : goal.overflow_add-self
overflow_add-self c = omega (arith, c.in-Some.ensures.counted, c.in-Some.ensures.short, c.in-Some.ensures.placed.bytes.order)

pub overflow_add-self-in-Some : goal.overflow_add-self-in-Some
overflow_add-self-in-Some c = omega (arith, c.in-Some.ensures.short)
