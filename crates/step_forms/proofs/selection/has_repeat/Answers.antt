use Rattle.std.proofs.Common.{◌≡◌, ◌∙◌, ◌-◌, suc, sym, rules, arith, get_or}
use Rattle.step_forms.proofs.Repeats.{repeat_found, repeat_none, repeat_end, marks_more, marks_none}
use Rattle.step_forms.proofs.selection.has_repeat.Goals as goal

pub returns-then-seen-dim : goal.returns-then-seen-dim
returns-then-seen-dim c =
    let e : suc (c.loop-k.k - 1) ≡ c.loop-k.k = omega (arith, c.loop-k-test.true) in
    let less = c.requires (c.loop-k.k - 1) 0 (omega arith) in
    repeat_found c.args.dims.now (c.loop-k.k - 1) c.loop-k.k e c.loop-k.invariant.within
    (sym (c.loop-k.invariant.marked (get_or c.args.dims.now (c.loop-k.k - 1) 0) less) ∙ c.if-seen-dim.true)

pub loop-k-preserved : goal.loop-k-preserved
loop-k-preserved c =
    let e : suc (c.loop-k.k - 1) ≡ c.loop-k.k = omega (arith, c.loop-k-test.true) in
    let less = c.requires (c.loop-k.k - 1) 0 (omega arith) in
    record {
      within = omega arith;
      marked = marks_more c.loop-k.seen c.args.rank c.args.dims.now (c.loop-k.k - 1) c.loop-k.k e c.loop-k.invariant.within c.loop-k.invariant.same less c.loop-k.invariant.marked;
      same = search rules;
      distinct = repeat_none c.args.dims.now (c.loop-k.k - 1) c.loop-k.k e c.loop-k.invariant.within
          (sym (c.loop-k.invariant.marked (get_or c.args.dims.now (c.loop-k.k - 1) 0) less) ∙ c.if-seen-dim.false) c.loop-k.invariant.distinct;
    }

pub loop-k-init : goal.loop-k-init
loop-k-init c = record {
  within = omega arith;
  marked = marks_none c.as_mut_slice-seen.result.now c.args.rank c.args.dims.now (search rules);
  same = search rules;
  distinct = repeat_end c.args.dims.now;
}
