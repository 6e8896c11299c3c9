use Rattle.std.proofs.Common.{◌<◌, length, arith}
use Rattle.transcript_cut.specs.declared.answers.Judged.TheVariants.{Answer, Memory, Other}
use Rattle.transcript_cut.proofs.Fronts.{begins}
use Rattle.transcript_cut.proofs.answers.front_of.Goals as goal

pub returns-in-Ok-Answer : goal.returns-in-Ok-Answer
returns-in-Ok-Answer c =
    let low : c.line_end-end.result < length c.args.text.now = omega (arith, c.line_end-end.ensures.within) in
    begins c.args.text.now c.args.number c.line_end-end.result c.line_end-end.ensures low c.split_at.result.0.now c.split_at.ensures.front (Answer c.in-Ok-Answer.numbers c.in-Ok-Answer.answer) (rw c.in-Ok-Answer.field-0-is at c.in-Ok-Answer.ensures)

pub returns-in-Ok-Memory : goal.returns-in-Ok-Memory
returns-in-Ok-Memory c =
    let low : c.line_end-end.result < length c.args.text.now = omega (arith, c.line_end-end.ensures.within) in
    begins c.args.text.now c.args.number c.line_end-end.result c.line_end-end.ensures low c.split_at.result.0.now c.split_at.ensures.front Memory (rw c.in-Ok-Memory.field-0-is at c.in-Ok-Memory.ensures)

pub returns-in-Ok-Other : goal.returns-in-Ok-Other
returns-in-Ok-Other c =
    let low : c.line_end-end.result < length c.args.text.now = omega (arith, c.line_end-end.ensures.within) in
    begins c.args.text.now c.args.number c.line_end-end.result c.line_end-end.ensures low c.split_at.result.0.now c.split_at.ensures.front Other (rw c.in-Ok-Other.field-0-is at c.in-Ok-Other.ensures)
