use Rattle.std.proofs.Common.{None}
use Rattle.history.specs.Lines.{viewing}
use Rattle.history.specs.Refs.{HasKnownRefs}
use Rattle.session_turns.specs.Changes.{changes_of}
use Rattle.session_turns.proofs.Laws.{changes_within, binds_known, told_bound, told_refused, kept_bound}
use Rattle.session_turns.specs.Standing.{session_state, transaction_in}
use Rattle.stack_driver.specs.Conditions.{IsView}
use Rattle.indexmap.specs.IndexMap.{get_by_text}
use Rattle.sessions.proofs.viewing.view.Goals as goal

pub returns-in-Ok-clause-told : goal.returns-in-Ok-clause-told
returns-in-Ok-clause-told c = λ seen line t fixed owner events.
    told_bound fixed owner events (session_state (get_by_text c.args.names.now) seen t) line (viewing c.args.name.now c.args.of.now (changes_of c.args.transform.now c.args.steps.now)) c.args.name.now c.in-Ok.view (get_by_text c.bound.new.names) c.bound.result
    (c.in-Ok.ensures.value c.args.name.now (transaction_in t)) c.bound.ensures

pub returns-in-Ok-clause-views : goal.returns-in-Ok-clause-views
returns-in-Ok-clause-views c = kept_bound IsView _ c.bound.result (get_by_text c.args.names.now) (get_by_text c.bound.new.names) c.args.name.now c.in-Ok.view c.bound.ensures c.in-Ok.ensures.view c.requires.views

pub returns-in-Ok-clause-known : goal.returns-in-Ok-clause-known
returns-in-Ok-clause-known c = λ events known.
    kept_bound (HasKnownRefs events) _ c.bound.result (get_by_text c.args.names.now) (get_by_text c.bound.new.names) c.args.name.now c.in-Ok.view c.bound.ensures
    (binds_known events (get_by_text c.args.names.now) (viewing c.args.name.now c.args.of.now (changes_of c.args.transform.now c.args.steps.now)) c.args.name.now c.in-Ok.view (changes_within c.args.transform.now c.args.steps.now)
    (c.in-Ok.ensures.value c.args.name.now None) known)
    known

pub returns-in-Err-clause-told : goal.returns-in-Err-clause-told
returns-in-Err-clause-told c = λ seen line t fixed owner events.
    told_refused fixed owner events (session_state (get_by_text c.args.names.now) seen t) line (viewing c.args.name.now c.args.of.now (changes_of c.args.transform.now c.args.steps.now)) c.in-Err.body (c.in-Err.ensures.err c.args.name.now (transaction_in t))
