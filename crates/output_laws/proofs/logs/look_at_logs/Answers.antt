use Rattle.std.proofs.Common.{◌∙◌, [], subst, arith, below_more}
use Rattle.std.specs.List.{AllByRecursion}
use Rattle.output_laws.specs.Typed.{IsTypedAnswer}
use Rattle.output_laws.proofs.Plain.{each_at}
use Rattle.output_laws.proofs.logs.look_at_logs.Goals as goal

pub loop-i-preserved : goal.loop-i-preserved
loop-i-preserved c = below_more _ _ c.loop-i.invariant (subst (AllByRecursion IsTypedAnswer) (c.items.ensures ∙ c.log_at.ensures []) c.look_at_log.ensures)

pub returns : goal.returns
returns c = each_at (AllByRecursion IsTypedAnswer) [] c.args.logs.now (λ k below. c.loop-i.invariant k (omega arith))
