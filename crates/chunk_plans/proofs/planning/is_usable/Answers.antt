use Rattle.std.proofs.Common.{◌∙◌, ap}
use Rattle.std.specs.Prelude.{◌==◌}
use Rattle.chunk_plans.proofs.Usable.{unusable, usable}
use Rattle.chunk_plans.proofs.planning.is_usable.Goals as goal

pub returns-then-not-is_base : goal.returns-then-not-is_base
returns-then-not-is_base g c k known = unusable _ _ c.args.write.now.ready c.in-Some.ready c.is_base.result c.in-Some.is (c.is_base.ensures k known) c.if-not-is_base.true

pub returns : goal.returns
returns g c k known =
    ap (λ n. n == c.in-Some.ready.resized) (c.resized.ensures k known)
    ∙ usable _ _ c.args.write.now.ready c.in-Some.ready c.is_base.result c.in-Some.is (c.is_base.ensures k known) c.if-not-is_base.false
