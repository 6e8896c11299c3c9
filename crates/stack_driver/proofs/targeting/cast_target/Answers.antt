use Rattle.std.proofs.Common.{◌≡◌, sym, ap, subst, List}
use Rattle.cast_driver.specs.declared.cast.Cast.{Cast}
use Rattle.cast_driver.proofs.Laws.{AreJoined-push, BeginsWith-push, dtype_after-push}
use Rattle.stack_driver.specs.Targets.{Target, LeadTo}
use Rattle.stack_driver.proofs.targeting.cast_target.Goals as goal

pub push-requires : goal.push-requires
push-requires c =
    let here : c.args.target.casts ≡ c.target.inside.chain = ap (λ (t : Target). t.casts) (sym c.target.view_is) in
    let lead = subst (λ (casts : List Cast). LeadTo casts c.args.from) here c.requires in
    AreJoined-push c.target.inside.chain lead.base (record { from = c.args.from; to = c.args.to }) c.target.invariant.1 (sym lead.ends)

pub returns-clause-casts : goal.returns-clause-casts
returns-clause-casts c =
    let here : c.args.target.casts ≡ c.target.inside.chain = ap (λ (t : Target). t.casts) (sym c.target.view_is) in
    let lead = subst (λ (casts : List Cast). LeadTo casts c.args.from) here c.requires in
    let last : Cast = record { from = c.args.from; to = c.args.to } in
    subst (λ (casts : List Cast). LeadTo casts c.args.to) (sym c.in_ok-push.ensures.ok)
    (record { base = lead.base; begins = BeginsWith-push c.target.inside.chain lead.base last lead.begins (sym lead.ends); ends = dtype_after-push c.target.inside.chain lead.base last })
