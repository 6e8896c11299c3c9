use Rattle.std.proofs.Common.{arith, rules, ◌≡◌, ◌∙◌, ◌<◌, ap, sym, subst}
use Rattle.stack_driver.specs.declared.view.View.{size-View}
use Rattle.stack_driver.proofs.Layers.{base_smaller}
use Rattle.stack_driver.specs.Renewed.{MayRenew, array_of}
use Rattle.stack_driver.specs.declared.view.View.TheVariants as view
use Rattle.stack_driver.proofs.Renewals.{array-Leaf, array-Cast}
use Rattle.stack_driver.proofs.renewing.+renew_in.Goals as goal

pub renew_leaf-requires : goal.renew_leaf-requires
renew_leaf-requires t c =
    rw (c.in-Leaf.is, view.outs-Leaf c.in-Leaf.array c.in-Leaf.transform)
    (c.requires c.in-Leaf.array (ap array_of c.in-Leaf.is ∙ array-Leaf c.in-Leaf.array c.in-Leaf.transform))

pub renew_in-requires : goal.renew_in-requires
renew_in-requires t c =
    let base = c.in-Cast.base in
    let small : size-View base < size-View c.args.v.now = subst (λ v. size-View base < size-View v) (sym c.in-Cast.is) (base_smaller c.in-Cast.to base) in
    let at : c.get_mut.result.now ≡ base = search rules in
    let less : size-View c.get_mut.result.now < size-View c.args.v.now = subst (λ v. size-View v < size-View c.args.v.now) (sym at) small in
    let may : MayRenew base c.args.shape.now = λ r is. c.requires r (ap array_of c.in-Cast.is ∙ array-Cast c.in-Cast.to base ∙ is) in
    ((let d = c.decreases in omega (arith, less, d)), subst (λ v. MayRenew v c.args.shape.now) (sym at) may)
