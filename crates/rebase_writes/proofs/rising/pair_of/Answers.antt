-- The pair's number is the distance from the first place by the stride.
use Rattle.std.proofs.Common.{◌≡◌, ◌+◌, ◌-◌, ◌*◌, ◌/◌, ◌∙◌, ap, sym, arith, mul_comm}
use Rattle.rebase_writes.proofs.RisingLaws.{forward_place, stride-pos, pair_number}
use Rattle.rebase_writes.proofs.rising.pair_of.Goals as goal
use Rattle.rebase_writes.proofs.rising.pair_of.Goals.{else-k-run-via-then-k-run+else-k-stride, else-k-run-via-else-k-run}

pub returns-else-k-run-clause-none : goal.returns-else-k-run-clause-none
returns-else-k-run-clause-none c k less same =
    let run = c.args.run.now in
    let s = c.stride_of-stride.result in
    let ahead = c.args.place - run.chunk in
    let at = forward_place run.chunk k run.chunk_step c.requires.places in
    let some = stride-pos run.chunk_step c.requires.places in
    let step : ahead ≡ s * k = omega (arith, at, same, ap (λ n. n * k) c.stride_of-stride.ensures) in
    let number : ahead / s ≡ k = pair_number s k ahead (omega (arith, some, c.stride_of-stride.ensures)) step in
    elim c.else-k-run.branch [
      | else-k-run-via-then-k-run+else-k-stride w ↦ absurd (w.if-k-stride.false (ap (λ n. n * s) number ∙ mul_comm k s ∙ sym step))
      | else-k-run-via-else-k-run w ↦ absurd (omega (arith, w.if-k-run.false, number, less))
    ]
