use Rattle.std.proofs.Common.{◌≡◌, ◌∙◌, arith, ◌<◌}
use Rattle.chunk_versions.specs.Reach.{reached}
use Rattle.chunk_versions.proofs.Candidates.{first_far, next_far, none_more}
use Rattle.chunk_versions.proofs.reach.first_good.Goals as goal

pub loop-k-init : goal.loop-k-init
loop-k-init c = record { none = λ j low. absurd (omega (arith, low)); next = first_far c.args.reach.now }

pub loop-k-preserved : goal.loop-k-preserved
loop-k-preserved c =
    let far : c.max-far.result ≡ reached c.args.reach.now c.loop-k.k = c.max-far.ensures ∙ c.loop-k.invariant.next in
    let past : c.loop-k.k < reached c.args.reach.now c.loop-k.k = omega (arith, far) in
    record { none = none_more c.args.reach.now c.loop-k.k c.loop-k.invariant.none past; next = next_far c.args.reach.now c.loop-k.k c.max-far.result far }
