use Rattle.std.proofs.Common.{◌≡◌, ◌∙◌, ap, arith, length, rules, subst, sym}
use Rattle.std.specs.Prelude.{slice_index_or}
use Rattle.stack_driver.specs.References.{Reference}
use Rattle.state_resizes.specs.Conditions.{IsAsked}
use Rattle.transaction_cases.proofs.SeatLaws.{asked_at}
use Rattle.transaction_cases.proofs.opens.stored.Goals as goal

pub returns : goal.returns
returns c = λ early events known grown legal.
    let r = c.index-arrays-place.result in
    let at : slice_index_or c.args.arrays.now c.args.place r ≡ r = search rules in
    subst (λ n. IsAsked events n c.args.shape.now) (sym (ap (λ (x : Reference). x.number) c.array.view_is))
    (asked_at early events c.args.arrays.now c.args.place r c.args.shape.now known (omega (arith, c.if-place-arrays.false)) at grown legal (sym (ap (λ (x : Reference). x.local) c.array.view_is) ∙ c.if-array.false)
    (sym c.if-items-shape.false ∙ ap length (c.items.ensures ∙ ap (λ (x : Reference). x.shape) c.array.view_is)) (c.is_shape.ensures.meaning.0 c.if-not-is_shape.false))
