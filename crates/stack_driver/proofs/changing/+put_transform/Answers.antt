use Rattle.std.proofs.Common.{sym}
use Rattle.stack_driver.specs.declared.view.View.TheVariants as view
use Rattle.stack_driver.proofs.Unders.{under-Stack}
use Rattle.stack_driver.proofs.changing.+put_transform.Goals as goal

pub returns-in-Stack : goal.returns-in-Stack
returns-in-Stack t c = rw (c.in-Stack.is, view.outs-Stack c.in-Stack.layers c.in-Stack.own) (sym (under-Stack c.args.transform c.in-Stack.layers c.in-Stack.own))
