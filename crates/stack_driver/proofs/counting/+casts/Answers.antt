use Rattle.std.proofs.Common.{◌≡◌, ◌∙◌, ◌++◌, ◌∷◌, [], IfOk, List, sym, ap, subst}
use Rattle.cast_driver.specs.declared.cast.Cast.{Cast}
use Rattle.cast_driver.specs.declared.Dtype.{Dtype}
use Rattle.stack_driver.specs.Counts.{casts_of}
use Rattle.stack_driver.specs.Targets.{LeadTo}
use Rattle.stack_driver.specs.Views.{look_of}
use Rattle.stack_driver.proofs.Tallies.{no_casts, casts-Cast}
use Rattle.stack_driver.proofs.counting.+casts.Goals as goal

pub returns-in-Leaf-clause-leads : goal.returns-in-Leaf-clause-leads
returns-in-Leaf-clause-leads t c = subst (λ (casts : List Cast). LeadTo casts (look_of c.args.v.now).dtype) (sym c.new.ensures) (no_casts (look_of c.args.v.now).dtype)

pub returns-in-Stack-clause-leads : goal.returns-in-Stack-clause-leads
returns-in-Stack-clause-leads t c = subst (λ (casts : List Cast). LeadTo casts (look_of c.args.v.now).dtype) (sym c.new-in-Stack.ensures) (no_casts (look_of c.args.v.now).dtype)

pub returns-in_ok-casts-in-Cast-clause-value : goal.returns-in_ok-casts-in-Cast-clause-value
returns-in_ok-casts-in-Cast-clause-value t c =
    let base = c.in-Cast.base in
    let to = c.in-Cast.to in
    let at : c.get-base.result.now ≡ base = c.get-base.ensures in
    let inner = c.in_ok-casts-in-Cast.ensures.value ∙ ap casts_of at in
    let from : c.dtype.result ≡ (look_of base).dtype = c.dtype.ensures ∙ ap (λ v. (look_of v).dtype) at in
    let same : c.in_ok-casts-in-Cast.field-0 ++ record { from = c.dtype.result; to = to } ∷ [] ≡ casts_of c.args.v.now =
    ap (λ (cs : List Cast). cs ++ record { from = c.dtype.result; to = to } ∷ []) inner
    ∙ ap (λ (d : Dtype). casts_of base ++ record { from = d; to = to } ∷ []) from ∙ sym (casts-Cast to base) ∙ ap casts_of (sym c.in-Cast.is) in
    subst (λ (cs : List Cast). IfOk c.with_cast.result (λ chain. chain ≡ cs)) same c.with_cast.ensures.value
