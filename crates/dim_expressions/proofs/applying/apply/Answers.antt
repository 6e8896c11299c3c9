use Rattle.std.proofs.Common.{subst, get_or}
use Rattle.dim_expressions.specs.Applying.{IsAfter, applied}
use Rattle.dim_expressions.proofs.Applied.{applied_more, done_more}
use Rattle.dim_expressions.proofs.applying.apply.Goals as goal

pub loop-k-preserved : goal.loop-k-preserved
loop-k-preserved c =
    let step = c.index-steps-k.result in
    let next = c.in-Ok-after_step.next in
    let done : IsAfter c.loop-k.now (get_or c.args.steps.now c.loop-k.k c.index-steps-k.result) c.in-Ok-after_step.next =
    subst (λ s. IsAfter c.loop-k.now s c.in-Ok-after_step.next) c.index-steps-k.is c.in-Ok-after_step.ensures.ok in
    record {
      left = applied_more c.args.steps.now c.loop-k.k c.loop-k.now step next (applied c.args.t.now c.args.steps.now) c.loop-k-test.true done c.loop-k.invariant.left;
      done = done_more c.args.steps.now c.loop-k.k c.args.t.now c.loop-k.now step next c.loop-k-test.true done c.loop-k.invariant.done;
    }
