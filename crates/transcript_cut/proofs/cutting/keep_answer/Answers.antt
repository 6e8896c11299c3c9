use Rattle.std.proofs.Common.{arith}
use Rattle.transcript_cut.specs.Fronts.{BeginsWithAnswer}
use Rattle.transcript_cut.proofs.cutting.keep_answer.Goals as goal

pub overflow_add-upto : goal.overflow_add-upto
overflow_add-upto c =
    let begins : BeginsWithAnswer c.args.rest.now c.args.line.number c.in-Ok-Answer.length c.in-Ok-Answer.numbers c.in-Ok-Answer.answer = rw c.in-Ok-Answer.field-0-is at c.in-Ok-Answer.ensures in
    omega (arith, begins.within, c.requires)

pub returns-in_ok-push-in-Ok-Answer : goal.returns-in_ok-push-in-Ok-Answer
returns-in_ok-push-in-Ok-Answer c = record {
  numbers = c.in-Ok-Answer.numbers;
  answer = c.in-Ok-Answer.answer;
  begins = rw c.in-Ok-Answer.field-0-is at c.in-Ok-Answer.ensures;
  kept = c.in_ok-push-in-Ok-Answer.ensures.items;
}
