use Rattle.read_fits.proofs.Rooms.{around_some, around_zero}
use Rattle.read_fits.proofs.values.lists_around.Goals as goal

pub returns-then-size-eq0 : goal.returns-then-size-eq0
returns-then-size-eq0 c = λ shape low. around_zero c.args.size shape c.if-size-eq0.true

pub returns-else-size-eq0 : goal.returns-else-size-eq0
returns-else-size-eq0 c = λ shape low. around_some c.args.size c.args.lists c.saturating_mul.result _ shape c.if-size-eq0.false low c.saturating_mul.ensures
