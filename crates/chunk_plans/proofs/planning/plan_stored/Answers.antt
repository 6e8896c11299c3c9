use Rattle.std.proofs.Common.{◌≡◌, Err, sym, ◌∙◌, ap, subst}
use Rattle.chunk_plans.specs.Leaving.{HasNumber}
use Rattle.chunk_plans.proofs.LeavingLaws.{now_left, now_plan, ready_left, ready_numbered, ready_plan}
use Rattle.chunk_plans.proofs.Same.{err_and, err_told}
use Rattle.chunk_plans.proofs.Usable.{usable_some}
use Rattle.shared_state.specs.declared.FetchError.TheVariants as fetch
use Rattle.chunk_plans.proofs.planning.plan_stored.Goals as goal

pub prepared-requires : goal.prepared-requires
prepared-requires g c = usable_some _ _ c.args.write.ready (sym (c.is_usable.ensures c.requires.write.0 c.requires.write.1.known) ∙ c.if-is_usable.true)

pub returns-then-is_usable-clause-left : goal.returns-then-is_usable-clause-left
returns-then-is_usable-clause-left g c k known =
    let some = usable_some _ _ c.args.write.ready (sym (c.is_usable.ensures c.requires.write.0 c.requires.write.1.known) ∙ c.if-is_usable.true) in
    ready_left c.args.write k c.form-form.result.now c.requires.agrees known (c.requires.stored k known, c.form-form.ensures k known) c.prepared.result.left some c.prepared.ensures.left

pub returns-then-is_usable-clause-numbered : goal.returns-then-is_usable-clause-numbered
returns-then-is_usable-clause-numbered g c number =
    let some = usable_some _ _ c.args.write.ready (sym (c.is_usable.ensures c.requires.write.0 c.requires.write.1.known) ∙ c.if-is_usable.true) in
    ready_numbered number c.args.write c.form-form.result.now c.prepared.result.left some c.prepared.ensures.left

pub returns-then-is_usable-clause-plan : goal.returns-then-is_usable-clause-plan
returns-then-is_usable-clause-plan g c opening start k number agrees told known ready =
    let some = usable_some _ _ c.args.write.ready (sym (c.is_usable.ensures c.requires.write.0 c.requires.write.1.known) ∙ c.if-is_usable.true) in
    ready_plan start c.args.state.now.log number k c.args.write c.form-form.result.now c.prepared.result.left some c.prepared.ensures.left (sym (c.is_usable.ensures k known) ∙ c.if-is_usable.true) ready

pub left_now-requires-clause-form : goal.left_now-requires-clause-form
left_now-requires-clause-form g c k known = (c.requires.stored k known, c.in_ok-form.ensures k known)

pub returns-clause-left : goal.returns-clause-left
returns-clause-left g c k known =
    now_left c.args.write k c.in_ok-form.form c.requires.agrees known (c.requires.stored k known, c.in_ok-form.ensures k known) c.planned.result.left c.in_ok-over.over.cells c.in_ok-over.over.bytes c.planned.ensures.left c.in_ok-over.ensures.cells

pub returns-clause-numbered : goal.returns-clause-numbered
returns-clause-numbered g c number = subst (HasNumber number) (sym c.planned.ensures.left) tt

pub returns-clause-plan : goal.returns-clause-plan
returns-clause-plan g c opening start k number agrees told known ready =
    now_plan start c.args.state.now.log.events number k c.args.write c.planned.result.left c.in_ok-over.over.cells c.in_ok-over.over.bytes c.planned.ensures.left (c.in_ok-over.ensures.plan opening start k agrees told known)

pub returns-in_err-over-clause-damaged : goal.returns-in_err-over-clause-damaged
returns-in_err-over-clause-damaged g c name cause e =
    let told = err_and _ c.from_residual-in_err-over.result (fetch.Damaged name cause) e c.from_residual-in_err-over.ensures.1 in
    let is : c.left_now.result ≡ Err (fetch.Damaged name cause) = c.in_err-over.was ∙ ap Err (sym told) in c.left_now.ensures.damaged name cause is

pub returns-in_err-over-clause-told : goal.returns-in_err-over-clause-told
returns-in_err-over-clause-told g c more =
    let why = c.left_now.ensures.told more in
    (why.0, err_told c.from_residual-in_err-over.result c.left_now.result _ (fetch.StoreFailed why.0) c.from_residual-in_err-over.ensures.0 c.from_residual-in_err-over.ensures.1 c.in_err-over.was why.1)

pub returns-clause-told : goal.returns-clause-told
returns-clause-told g c more =
    let why = c.left_now.ensures.told more in
    let no = sym c.in_ok-over.was ∙ why.1 in
    absurd (cc)
