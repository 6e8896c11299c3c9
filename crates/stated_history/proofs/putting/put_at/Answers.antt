use Rattle.std.proofs.Common.{◌≡◌, ◌∙◌, set, true, false, sym, ap, subst}
use Rattle.std.proofs.lemmas.Result.{on_ok_weaker}
use Rattle.history.specs.declared.event.Event.{Event}
use Rattle.stated_history.specs.Commits.{is_undone, event_with}
use Rattle.stated_history.proofs.PutLaws.{event_read, stays_put, stays_none, comes_put}
use Rattle.stated_history.proofs.putting.put_at.Goals as goal

pub returns-then-not-is_undone-clause-each : goal.returns-then-not-is_undone-clause-each
returns-then-not-is_undone-clause-each c = λ e at.
    let same = event_read c.args.events.now c.args.k c.index-events-k.result e c.requires c.index-events-k.is at in
    let kept : is_undone e.kind ≡ false = ap (λ (x : Event). is_undone x.kind) (sym same ∙ c.index-events-k.is) ∙ sym c.is_undone.ensures ∙ c.if-not-is_undone.true in
    stays_put c.args.events.now c.args.k c.args.commit.now e at kept

pub returns-in-Some-clause-each : goal.returns-in-Some-clause-each
returns-in-Some-clause-each c =
    on_ok_weaker c.put_kind.result (λ put. λ e at.
    let same = event_read c.args.events.now c.args.k c.index-events-k.result e c.requires c.index-events-k.is at in
    let undone : is_undone e.kind ≡ true = ap (λ (x : Event). is_undone x.kind) (sym same ∙ c.index-events-k.is) ∙ sym c.is_undone.ensures ∙ c.if-not-is_undone.false in
    subst (λ o. c.put_kind.new.events ≡ set c.args.events.now c.args.k (event_with o e)) (sym c.in-Some.is) (comes_put c.args.k c.args.events.now c.put_kind.new.events c.in-Some.commit e undone (put e at))) c.put_kind.ensures.each

pub returns-in-None-clause-each : goal.returns-in-None-clause-each
returns-in-None-clause-each c = λ e at.
    subst (λ o. c.args.events.now ≡ set c.args.events.now c.args.k (event_with o e)) (sym c.in-None.is) (stays_none c.args.events.now c.args.k e at)
