use Rattle.std.proofs.Common.{◌≡◌, ℕ, List, Option, Some, None, subst}
use Rattle.std.specs.Prelude.{IfOk, if◌then◌else◌}
use Rattle.serde_json.specs.View.{view}
use Rattle.spec_forms.proofs.Rows.{sizes_none, sizes_more}
use Rattle.spec_forms.proofs.numbers.+put_sizes.Goals as goal

pub returns-in-len1-up : goal.returns-in-len1-up
returns-in-len1-up t c =
    subst (λ (o : Option (List ℕ)). IfOk c.put_sizes.result (λ good. (if good then Some c.put_sizes.new.out.items else None) ≡ o))
    (sizes_more c.args.room (view c.args.value.now) c.in-Some.items.now c.args.out.now.items c.push.new.self.items c.first-item.result c.if-room-eq0.false c.in-len1-up.len_at_least c.in-Some.ensures c.in_ok-push.ensures.items c.first-item.is)
    c.put_sizes.ensures
