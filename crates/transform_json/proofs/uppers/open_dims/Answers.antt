use Rattle.std.proofs.Common.{◌∙◌, sym, subst}
use Rattle.transform_json.specs.Bounds.{open_bound, interval_of}
use Rattle.transform_json.proofs.Gathering.{Gathered, gathered_first, gathered_more, gathered_none, gathered_all}
use Rattle.transform_json.proofs.uppers.open_dims.Goals as goal

pub loop-lower-init : goal.loop-lower-init
loop-lower-init c = subst (Gathered (λ lower. interval_of lower open_bound) c.args.lowers.now 0) (sym c.in_ok-dims.ensures.items) (gathered_first (λ lower. interval_of lower open_bound) c.args.lowers.now)

pub loop-lower-preserved : goal.loop-lower-preserved
loop-lower-preserved c =
    let is = (rw c.open_bound.ensures at (sym c.interval_of.ensures ∙ c.in-Some.is)) in
    rw c.in_ok-push.ensures.items
    (gathered_more (λ lower. interval_of lower open_bound) c.args.lowers.now c.loop-lower.lower-index c.loop-lower.dims.items _ c.in-Some.dim c.loop-lower-test.true is c.loop-lower.invariant)

pub returns : goal.returns
returns c = gathered_all (λ lower. interval_of lower open_bound) c.args.lowers.now c.loop-lower.lower-index c.loop-lower.dims.items c.loop-lower-test.false c.loop-lower.invariant

pub returns-in_default : goal.returns-in_default
returns-in_default c =
    let is = (rw c.open_bound.ensures at (sym c.interval_of.ensures ∙ c.in_default.is)) in
    gathered_none (λ lower. interval_of lower open_bound) c.args.lowers.now c.loop-lower.lower-index c.loop-lower.dims.items _ c.loop-lower-test.true is c.loop-lower.invariant
