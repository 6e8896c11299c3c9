use Rattle.std.proofs.Common.{rules, ◌≡◌, sym, subst}
use Rattle.cast_driver.specs.Shapes.{IsShape}
use Rattle.transform_composition.specs.Transforms.{IsDomain}
use Rattle.stack_driver.specs.References.{Reference}
use Rattle.stack_driver.specs.Arrays.{array_domain}
use Rattle.stack_driver.proofs.ArrayRules.{array_rules}
use Rattle.stack_driver.proofs.wholes.array_domain.Goals as goal

pub returns-clause-rules : goal.returns-clause-rules
returns-clause-rules c =
    let same : record { dims = c.wrap.result; labels = c.wrap-2.result } ≡ array_domain c.args.array.now = search rules in
    let shape : IsShape c.args.array.now.shape = subst (λ (r : Reference). IsShape r.shape) c.array.view_is c.array.invariant.shape in
    subst IsDomain (sym same) (array_rules c.args.array.now shape)
