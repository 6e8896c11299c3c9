use Rattle.read_fits.proofs.FitLaws.{failure_is, failure_is_not}
use Rattle.read_fits.proofs.reads.failure_at.Goals as goal

pub returns-then-told : goal.returns-then-told
returns-then-told c = λ spot here prints. failure_is c.args.line c.args.event c.args.text.now c.in_ok-told.told spot c.if-event-eq0.false c.if-told.true here c.in_ok-told.ensures

pub returns-else-told : goal.returns-else-told
returns-else-told c = λ spot here prints. failure_is_not c.args.line c.args.event c.args.text.now c.in_ok-told.told spot c.if-told.false here prints c.in_ok-told.ensures
