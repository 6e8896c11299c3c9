use Rattle.std.proofs.Common.{inr, refl, arith}
use Rattle.script_streams.proofs.reading.read_at.Goals as goal

pub returns-in-Ok-clause-answer : goal.returns-in-Ok-clause-answer
returns-in-Ok-clause-answer g c = (refl, inr (c.in-Ok.bytes, c.in-Ok.ensures.gives, omega (arith, c.if-len-room.true, c.len.ensures)))
