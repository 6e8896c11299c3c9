use Rattle.std.proofs.Common.{◌∙◌, sym, subst, arith}
use Rattle.transform_json.specs.Uppers.{dim_to}
use Rattle.transform_json.proofs.Gathering.{Paired, paired_first, paired_next, paired_end, paired_all}
use Rattle.transform_json.proofs.uppers.dims_to.Goals as goal

pub loop-k-init : goal.loop-k-init
loop-k-init c = subst (Paired (dim_to c.args.upper) c.args.lowers.now c.args.items.now 0) (sym c.in_ok-dims.ensures.items) (paired_first (dim_to c.args.upper) c.args.lowers.now c.args.items.now)

pub loop-k-preserved : goal.loop-k-preserved
loop-k-preserved c =
    paired_next (dim_to c.args.upper) c.args.lowers.now c.args.items.now c.loop-k.k c.loop-k.dims.items _ c.index-items-k.result c.in-Some.dim c.push.new.self.items c.loop-k-test.true
    (omega (arith, c.loop-k-test.true, c.requires)) c.index-items-k.is (sym c.dim_to.ensures ∙ c.in-Some.is) c.in_ok-push.ensures.items c.loop-k.invariant

pub returns : goal.returns
returns c = paired_all (dim_to c.args.upper) c.args.lowers.now c.args.items.now c.loop-k.k c.loop-k.dims.items c.loop-k-test.false c.loop-k.invariant

pub returns-in_default : goal.returns-in_default
returns-in_default c =
    paired_end (dim_to c.args.upper) c.args.lowers.now c.args.items.now c.loop-k.k c.loop-k.dims.items _ c.index-items-k.result c.loop-k-test.true
    (omega (arith, c.loop-k-test.true, c.requires)) c.index-items-k.is (sym c.dim_to.ensures ∙ c.in_default.is) c.loop-k.invariant
