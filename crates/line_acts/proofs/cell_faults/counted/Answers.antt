use Rattle.std.proofs.Common.{◌∙◌, Err, refl, sym, ap}
use Rattle.history.specs.Answers as body
use Rattle.index_transform.specs.Cells.{count_answer}
use Rattle.index_transform.specs.declared.error.CountError.TheVariants as count
use Rattle.line_acts.proofs.FaultLaws.{refused_by_count}
use Rattle.line_acts.proofs.cell_faults.counted.Goals as goal

pub returns-in-Err-Unbounded-clause-err : goal.returns-in-Err-Unbounded-clause-err
returns-in-Err-Unbounded-clause-err c =
    let arm = c.in-Err-Unbounded in
    refused_by_count c.args.v.now (count.Unbounded arm.dim) (body.unbounded arm.dim) (ap count_answer (sym c.transform_of.ensures.domain) ∙ sym arm.ensures.value ∙ ap Err arm.field-0-is) refl

pub returns-in-Err-TooMany-clause-err : goal.returns-in-Err-TooMany-clause-err
returns-in-Err-TooMany-clause-err c =
    let arm = c.in-Err-TooMany in
    refused_by_count c.args.v.now (count.TooMany arm.dim) (body.too_many arm.dim) (ap count_answer (sym c.transform_of.ensures.domain) ∙ sym arm.ensures.value ∙ ap Err arm.field-0-is) refl
