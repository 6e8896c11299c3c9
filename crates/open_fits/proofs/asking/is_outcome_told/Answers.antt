use Rattle.std.proofs.Common.{◌∙◌, [], subst}
use Rattle.std.specs.Prelude.{unwrap_or}
use Rattle.std.proofs.lemmas.Result.{IfOk-weaker}
use Rattle.read_fits.specs.Asked.{leaf_asked}
use Rattle.read_fits.specs.Openings.{node_of}
use Rattle.open_fits.specs.Asking.{IsOutcomeTold}
use Rattle.open_fits.specs.Opens.{IsRefusedFor}
use Rattle.open_fits.specs.Refusals.{IsRefusalBody}
use Rattle.open_fits.proofs.RefusalLaws.{told_free, failure_so, refusal_so, unrefused_so, never_told}
use Rattle.open_fits.proofs.asking.is_outcome_told.Goals as goal

pub is_failure_told-requires : goal.is_failure_told-requires
is_failure_told-requires c = c.requires.few c.if-is_failed.true

pub returns-then-is_failed : goal.returns-then-is_failed
returns-then-is_failed c =
    let q = c.args.question.now in
    IfOk-weaker c.is_failure_told.result _ (IsOutcomeTold q c.args.place c.args.asked.now c.args.outcome)
    (λ is told events history o told_as comes. failure_so history q c.args.place c.args.asked.now c.requires.reads.0 c.requires.reads.1 c.is_free-free.result is o c.if-is_failed.true comes
    (c.is_free-free.ensures ∙ told_free events c.args.outcome o told_as) (told c.requires.reads.0 c.requires.reads.1)) c.is_failure_told.ensures

pub returns-in-Some : goal.returns-in-Some
returns-in-Some c =
    let q = c.args.question.now in
    IfOk-weaker c.is_answer.result _ (IsOutcomeTold q c.args.place c.args.asked.now c.args.outcome)
    (λ is told events history o told_as comes. refusal_so history q c.args.place c.args.asked.now c.requires.reads.0 c.requires.reads.1 is o c.in-Some.body c.if-is_failed.false comes
    (subst (IsRefusalBody (unwrap_or (node_of c.args.place q.plan.tree) []) (leaf_asked c.args.asked.now) q.moment q.told.numbers o) c.in-Some.is (c.in_ok-refusal.ensures events o told_as)) told) c.is_answer.ensures

pub returns-in-None : goal.returns-in-None
returns-in-None c = λ events history o told_as comes.
    let q = c.args.question.now in
    never_told (IsRefusedFor history q c.args.place c.args.asked.now)
    (unrefused_so history q c.args.place c.args.asked.now c.requires.reads.0 c.requires.reads.1 o c.if-is_failed.false comes
    (subst (IsRefusalBody (unwrap_or (node_of c.args.place q.plan.tree) []) (leaf_asked c.args.asked.now) q.moment q.told.numbers o) c.in-None.is (c.in_ok-refusal.ensures events o told_as)))
