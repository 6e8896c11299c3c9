use Rattle.std.proofs.Common.{[], IsUtf8, subst, arith, below_more}
use Rattle.output_laws.proofs.Plain.{each_at}
use Rattle.output_laws.proofs.looks.look_at_names.Goals as goal

pub loop-i-preserved : goal.loop-i-preserved
loop-i-preserved c = below_more _ _ c.loop-i.invariant (subst IsUtf8 (c.name_at.ensures []) c.look_at_name.ensures)

pub returns : goal.returns
returns c = each_at IsUtf8 [] c.args.names.now (λ k below. c.loop-i.invariant k (omega arith))
