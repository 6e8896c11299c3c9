use Rattle.std.proofs.Common.{length, inr, refl, rules}
use Rattle.sessions.specs.declared.Body.TheVariants as body
use Rattle.history.specs.Answers as old
use Rattle.history.specs.Lines.{opening}
use Rattle.history.specs.Refs.{HasKnownRefs}
use Rattle.indexmap.specs.IndexMap.{get_by_text}
use Rattle.sessions.specs.MeaningOpenings.{leaves_of, build_of}
use Rattle.session_openings.proofs.LineLaws.{told_opened, opening_caused, opened_keeps, view_known, refused_alone}
use Rattle.sessions.proofs.Laws.{passed_alone, names_then, told_without, refusal, refused_caused, outside_some}
use Rattle.sessions.specs.Standing.{session_state}
use Rattle.stack_driver.specs.Conditions.{IsView}
use Rattle.session_openings.proofs.opening.open.Goals as goal

pub returns-then-is_some-clause-told : goal.returns-then-is_some-clause-told
returns-then-is_some-clause-told g c = λ line.
    told_without c.args.around.now.book.now c.args.pass.now (session_state (get_by_text c.args.names.now) (length c.args.pass.now.seen) c.args.txn.now) line (opening c.args.name.now (leaves_of c.args.plan) (build_of c.args.plan)) body.InTransaction
    (refusal _ _ old.in_transaction (outside_some c.args.txn.now _ (search rules)) refl)

pub returns-then-is_some-clause-caused : goal.returns-then-is_some-clause-caused
returns-then-is_some-clause-caused g c = λ line.
    refused_caused c.args.around.now.book.now c.args.pass.now (session_state (get_by_text c.args.names.now) (length c.args.pass.now.seen) c.args.txn.now) line (opening c.args.name.now (leaves_of c.args.plan) (build_of c.args.plan)) body.InTransaction
    (refusal _ _ old.in_transaction (outside_some c.args.txn.now _ (search rules)) refl)

pub returns-then-is_some-clause-events : goal.returns-then-is_some-clause-events
returns-then-is_some-clause-events g c = refused_alone c.args.pass.now

pub returns-then-is_some-clause-bound : goal.returns-then-is_some-clause-bound
returns-then-is_some-clause-bound g c = inr (refl, refl)

pub returns-then-is_some-clause-passed : goal.returns-then-is_some-clause-passed
returns-then-is_some-clause-passed g c = passed_alone c.args.around.now.book.now c.args.pass.now c.requires.pass

pub returns-clause-told : goal.returns-clause-told
returns-clause-told g c = λ line.
    told_opened c.args.around.now.book.now c.args.pass.now c.open_plan.new.pass c.args.plan (get_by_text c.args.names.now) (get_by_text c.open_plan.new.names) c.args.name.now c.open_plan.result c.args.txn.now line (search rules) c.open_plan.ensures

pub returns-clause-caused : goal.returns-clause-caused
returns-clause-caused g c = λ line.
    opening_caused c.args.around.now.book.now c.args.pass.now c.open_plan.new.pass c.args.plan (get_by_text c.args.names.now) (get_by_text c.open_plan.new.names) c.args.name.now c.open_plan.result c.args.txn.now line (search rules) c.open_plan.ensures

pub returns-clause-events : goal.returns-clause-events
returns-clause-events g c = c.open_plan.ensures.events

pub returns-clause-bound : goal.returns-clause-bound
returns-clause-bound g c = c.open_plan.ensures.bound

pub returns-clause-passed : goal.returns-clause-passed
returns-clause-passed g c = c.open_plan.ensures.passed

pub returns-clause-views : goal.returns-clause-views
returns-clause-views g c =
    opened_keeps IsView c.args.pass.now c.open_plan.new.pass c.args.plan c.args.name.now (get_by_text c.args.names.now) (get_by_text c.open_plan.new.names) c.open_plan.result c.open_plan.ensures.bound (λ bound. bound.rules) c.requires.views

pub returns-clause-known : goal.returns-clause-known
returns-clause-known g c =
    let old = c.args.pass.now in
    let new = c.open_plan.new.pass in
    let names = get_by_text c.args.names.now in
    opened_keeps (HasKnownRefs new.seen) old new c.args.plan c.args.name.now names (get_by_text c.open_plan.new.names) c.open_plan.result c.open_plan.ensures.bound
    (λ bound. view_known old new c.args.plan c.args.name.now names (get_by_text c.open_plan.new.names) c.open_plan.result c.requires.plan.sound.over bound) (names_then old.seen new.seen names c.open_plan.ensures.passed.before c.requires.known)
