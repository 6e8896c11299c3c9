use Rattle.std.proofs.Common.{sym, subst, List}
use Rattle.cast_driver.specs.declared.cast.Cast.{Cast}
use Rattle.cast_driver.proofs.Laws.{AreJoined-push, BeginsWith-push, dtype_after-push}
use Rattle.stack_driver.specs.Targets.{LeadTo}
use Rattle.stack_targets.proofs.naming.with_cast.Goals as goal

pub push-requires : goal.push-requires
push-requires c =
    let lead = c.requires in
    AreJoined-push c.args.chain lead.base (record { from = c.args.from; to = c.args.to }) c.casts.ensures.joined (sym lead.ends)

pub returns-clause-leads : goal.returns-clause-leads
returns-clause-leads c =
    let lead = c.requires in
    let last : Cast = record { from = c.args.from; to = c.args.to } in
    subst (λ (casts : List Cast). LeadTo casts c.args.to) (sym c.in_ok-push.ensures.ok)
    (record { base = lead.base; begins = BeginsWith-push c.args.chain lead.base last lead.begins (sym lead.ends); ends = dtype_after-push c.args.chain lead.base last })
