use Rattle.stack_driver.proofs.Renewals.{keeps}
use Rattle.stack_driver.proofs.renewing.renew.Goals as goal

pub returns-clause-view : goal.returns-clause-view
returns-clause-view c = (keeps c.args.shape.now c.args.v c.renew_in.new.v c.in_ok-renew_in.ensures.ok c.requires).0

pub returns-clause-dtype : goal.returns-clause-dtype
returns-clause-dtype c = (keeps c.args.shape.now c.args.v c.renew_in.new.v c.in_ok-renew_in.ensures.ok c.requires).1
