use Rattle.std.proofs.Common.{arith}
use Rattle.transcript_cut.proofs.Slots.{slots_put, slots_left}
use Rattle.transcript_cut.proofs.spots.put_one.Goals as goal

pub returns-then-place-eq0 : goal.returns-then-place-eq0
returns-then-place-eq0 c = λ k low. slots_left c.args.slots.now c.args.number c.args.spot (λ some. omega arith) k low

pub returns-then-place-slots : goal.returns-then-place-slots
returns-then-place-slots c = λ k low. slots_left c.args.slots.now c.args.number c.args.spot (λ some. omega arith) k low

pub returns : goal.returns
returns c = λ k low. slots_put c.args.slots.now c.args.number c.args.spot (omega arith) (omega arith) k low
