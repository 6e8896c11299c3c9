use Rattle.std.proofs.Common.{subst, arith, below_more}
use Rattle.output_laws.specs.Typed.{IsTypedAnswer}
use Rattle.output_laws.proofs.Plain.{each_at}
use Rattle.output_laws.proofs.TypedBodies.{no_answer}
use Rattle.output_laws.proofs.logs.look_at_log.Goals as goal

pub loop-i-preserved : goal.loop-i-preserved
loop-i-preserved c = below_more _ _ c.loop-i.invariant (subst IsTypedAnswer (c.answer_at.ensures no_answer) c.look_at_answer.ensures)

pub returns : goal.returns
returns c = each_at IsTypedAnswer no_answer c.args.log.now (λ k below. c.loop-i.invariant k (omega arith))
