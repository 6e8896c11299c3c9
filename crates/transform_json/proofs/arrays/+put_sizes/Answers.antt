use Rattle.std.proofs.Common.{◌≡◌, ℕ, List, Option, Some, None, subst}
use Rattle.std.specs.Prelude.{IfOk, if◌then◌else◌}
use Rattle.serde_json.specs.View.{view}
use Rattle.transform_json.proofs.Rows.{sizes_none, sizes_more}
use Rattle.transform_json.proofs.arrays.+put_sizes.Goals as goal

pub returns-in_ok-put_ones-in-empty : goal.returns-in_ok-put_ones-in-empty
returns-in_ok-put_ones-in-empty t c =
    sizes_none c.args.depth (view c.args.value.now) c.in-Some.items.now c.args.out.now.items c.push.new.self.items c.put_ones.new.out.items c.if-depth-eq0.false c.in-empty.len_below c.in-Some.ensures c.in_ok-push.ensures.items c.in_ok-put_ones-in-empty.ensures

pub returns-in-len1-up : goal.returns-in-len1-up
returns-in-len1-up t c =
    subst (λ (o : Option (List ℕ)). IfOk c.put_sizes.result (λ good. (if good then Some c.put_sizes.new.out.items else None) ≡ o))
    (sizes_more c.args.depth (view c.args.value.now) c.in-Some.items.now c.args.out.now.items c.push.new.self.items c.first-item.result c.if-depth-eq0.false c.in-len1-up.len_at_least c.in-Some.ensures c.in_ok-push.ensures.items c.first-item.is)
    c.put_sizes.ensures
