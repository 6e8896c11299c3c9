use Rattle.std.proofs.Common.{◌∙◌, length, sym, ap, arith}
use Rattle.index_transform.specs.Cells.{cells_of, count_answer}
use Rattle.stack_driver.specs.Views.{look_of}
use Rattle.transactions.proofs.ViewLaws.{counted_view}
use Rattle.transactions.proofs.located.located.Goals as goal

pub found-requires-clause-finite : goal.found-requires-clause-finite
found-requires-clause-finite c =
    (counted_view (look_of c.args.v.now).dims c.in-Ok.field-0 (ap count_answer (sym c.transform_of.ensures.domain) ∙ sym c.in-Ok.ensures.value)).0

pub found-requires-clause-few : goal.found-requires-clause-few
found-requires-clause-few c =
    let few = (counted_view (look_of c.args.v.now).dims c.in-Ok.field-0 (ap count_answer (sym c.transform_of.ensures.domain) ∙ sym c.in-Ok.ensures.value)).1 in
    let number = c.in-Ok.ensures.number ∙ ap (λ ds. length (cells_of ds)) c.transform_of.ensures.domain in
    omega (arith, few, number)
