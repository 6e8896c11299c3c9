use Rattle.std.proofs.Common.{sym, subst}
use Rattle.stack_driver.specs.Conditions.{IsView}
use Rattle.stack_driver.proofs.Kept.{kept}
use Rattle.stack_driver.proofs.changing.set_transform.Goals as goal

pub returns-clause-view : goal.returns-clause-view
returns-clause-view c = λ h same. subst IsView (sym c.put_transform.ensures) (kept c.args.transform c.args.v.now h same)
