use Rattle.std.proofs.Common.{[], sym, subst}
use Rattle.std.specs.List.{AllByRecursion}
use Rattle.indexmap.specs.IndexMap.{get_by_text}
use Rattle.sessions.specs.MeaningOpenings.{leaves_from}
use Rattle.session_openings.specs.Openings.{AreAllOpened, IsLeafRefused}
use Rattle.session_openings.specs.Wanted.{MayBeAsked}
use Rattle.session_openings.proofs.LineLaws.{opened_count, line_opened, line_refused}
use Rattle.session_openings.proofs.PlanLaws.{may_ask}
use Rattle.spec_open.specs.Conditions.{IsTree}
use Rattle.session_openings.proofs.opening.open_plan.Goals as goal

pub open_all-requires-clause-leaves : goal.open_all-requires-clause-leaves
open_all-requires-clause-leaves g c =
    subst (λ ls. AllByRecursion (MayBeAsked c.args.around.now.book.now.fixed.store.names) (leaves_from c.args.plan.tree 0 ls)) (sym c.into_inner.ensures) (may_ask c.args.around.now.book.now.fixed.store.names c.args.plan c.requires.plan)

pub bound-requires : goal.bound-requires
bound-requires g c =
    let so = subst (λ ls. AreAllOpened c.args.around.now.book.now c.args.pass.now c.open_all.new.pass (leaves_from c.args.plan.tree 0 ls) [] c.in-Ok.opened.arrays.items c.in-Ok.opened.events.items) c.into_inner.ensures c.in-Ok.ensures.ok in
    subst (λ n. IsTree n c.args.plan.tree) (sym (opened_count c.args.around.now.book.now c.args.pass.now c.open_all.new.pass c.args.plan c.in-Ok.opened.arrays.items c.in-Ok.opened.events.items so)) c.requires.plan.sound.over

pub returns-in-Ok : goal.returns-in-Ok
returns-in-Ok g c =
    let so = subst (λ ls. AreAllOpened c.args.around.now.book.now c.args.pass.now c.open_all.new.pass (leaves_from c.args.plan.tree 0 ls) [] c.in-Ok.opened.arrays.items c.in-Ok.opened.events.items) c.into_inner.ensures c.in-Ok.ensures.ok in
    line_opened c.args.around.now.book.now c.args.pass.now c.open_all.new.pass c.args.plan c.in-Ok.opened.arrays.items c.in-Ok.opened.events.items so (get_by_text c.args.names.now) (get_by_text c.bound.new.names) c.args.name.now c.bound.result c.bound.ensures

pub returns : goal.returns
returns g c =
    line_refused c.args.around.now.book.now c.args.pass.now c.open_all.new.pass c.args.plan (get_by_text c.args.names.now) c.args.name.now c.in-Err.body
    (subst (λ ls. IsLeafRefused c.args.around.now.book.now c.args.pass.now c.open_all.new.pass (leaves_from c.args.plan.tree 0 ls) c.in-Err.body) c.into_inner.ensures c.in-Err.ensures.err)
