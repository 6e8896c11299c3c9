-- What the answers of a session tell of failed calls, whatever the stores tell.
use Rattle.std.proofs.Common.{◌≡◌, ◌∙◌, ◌⊎◌, inl, inr, ℕ, ◌+◌, cond, List, [], ◌∷◌, ◌++◌, length, drop, None, refl, sym, ap, subst, arith, append_assoc, append-nil}
use Rattle.std.specs.Prelude.{filter}
use Rattle.std.specs.List.{AllByRecursion}
use Rattle.std.proofs.lemmas.List.{map-append}
use Rattle.std.proofs.lemmas.List.Elements.{filter-append}
use mathlib.Core.List.{IsPrefix}
use Rattle.history.specs.declared.event.Event.{Event}
use Rattle.history.specs.History.{History}
use Rattle.history.specs.Own.{Numbered, numbers_of, own_events}
use Rattle.line_parts.specs.declared.error.LineError.{LineError}
use Rattle.line_parts.specs.declared.error.LineError.TheVariants as line
use Rattle.line_parts.specs.declared.SpecError.TheVariants as spec
use Rattle.session_openings.specs.OpenEvents.{AreTold, IsArrayOpened, failure_in}
use Rattle.session_openings.specs.Failures.{TellsFailures, failures_by, failures_in, failures_of}
use Rattle.session_openings.specs.Refusals.{refusal_body}
use Rattle.session_openings.specs.Turns.{HasPassed, added_by}
use Rattle.session_openings.specs.declared.Answer.{Answer}
use Rattle.session_openings.specs.declared.Body.{Body}
use Rattle.session_openings.specs.declared.Body.TheVariants as printed
use Rattle.session_openings.proofs.Laws.{drop_front, none_added, own-append}
use Rattle.session_openings.specs.Agreement.{Opening, fails, is_fault}
use Rattle.step_forms.specs.declared.error.StepsError.TheVariants as steps
use Rattle.turn_book.specs.Passes.{BookView, PassView}

-- a refusal by the form of a line
form_tells_none : (e : LineError) → failures_in (refusal_body e) ≡ []
form_tells_none line.NotJson = refl
form_tells_none line.NotCommand = refl
form_tells_none (line.Member path) = refl
form_tells_none (line.Spec (spec.BadSpec path)) = refl
form_tells_none (line.Spec (spec.Unsupported path)) = refl
form_tells_none (line.Spec spec.Memory) = refl
form_tells_none (line.Steps (steps.BadStep step)) = refl
form_tells_none (line.Steps steps.Memory) = refl
form_tells_none line.Memory = refl

pub form_tells : (pass : PassView Event Opening) (e : LineError) (answer : Body) → ((answer ≡ refusal_body e) ⊎ (answer ≡ printed.Memory)) → TellsFailures (added_by pass pass) answer
form_tells pass e answer (inl told) = ap failures_of (none_added pass) ∙ sym (ap failures_in told ∙ form_tells_none e)
form_tells pass e answer (inr wants) = ap failures_of (none_added pass) ∙ sym (ap failures_in wants)

-- openings are no failed calls
openings_first : (os rest : List Numbered) → AllByRecursion IsArrayOpened os → failures_of (os ++ rest) ≡ failures_of rest
openings_first [] rest are = refl
openings_first (o ∷ os) rest are =
    ap (λ b. numbers_of (cond b (o ∷ filter (λ (x : Numbered). is_fault x.event) (os ++ rest)) (filter (λ (x : Numbered). is_fault x.event) (os ++ rest)))) (ap fails are.0.1) ∙ openings_first os rest are.1

none_told : (answer : Body) → failure_in answer ≡ None → failures_in answer ≡ []
none_told (printed.StoreFailed event done events) none = absurd (cc)
none_told answer none = refl

-- a line that opens
pub opened_tells : (own : List Numbered) (answer : Body) → AreTold own answer → TellsFailures own answer
opened_tells own answer (inl are) = ap failures_of (sym (append-nil own)) ∙ openings_first own [] are.are ∙ sym (none_told answer are.none)
opened_tells own answer (inr failed) =
    let o : Numbered = failed.failed in
    ap failures_of failed.all ∙ openings_first failed.openings (o ∷ []) failed.are ∙ ap (λ b. numbers_of (cond b (o ∷ []) [])) (ap fails failed.fault) ∙ sym (ap failures_in failed.told)

failures_more : (xs ys : List Numbered) → failures_of (xs ++ ys) ≡ failures_of xs ++ failures_of ys
failures_more xs ys =
    ap numbers_of (filter-append (λ (o : Numbered). is_fault o.event) xs ys) ∙ map-append (λ (o : Numbered). o.number) (filter (λ (o : Numbered). is_fault o.event) xs) (filter (λ (o : Numbered). is_fault o.event) ys)

log_more : (log : List Answer) (a : Answer) → failures_by (log ++ a ∷ []) ≡ failures_by log ++ failures_in a.body
log_more [] a = append-nil (failures_in a.body)
log_more (b ∷ log) a = ap (λ ns. failures_in b.body ++ ns) (log_more log a) ∙ sym (append_assoc (failures_in b.body) (failures_by log) (failures_in a.body))

-- a session's events, and those that it adds behind them
own_more : (owner : ℕ) (seen later : History) → IsPrefix seen later → own_events owner 1 later ≡ own_events owner 1 seen ++ own_events owner (length seen + 1) (drop (length seen) later)
own_more owner seen later front =
    subst (λ h. own_events owner 1 h ≡ own_events owner 1 seen ++ own_events owner (length seen + 1) (drop (length seen) h)) front.1
    (own-append owner 1 seen front.0
    ∙ ap (λ os. own_events owner 1 seen ++ os) (ap (λ n. own_events owner n front.0) (omega arith) ∙ ap (own_events owner (length seen + 1)) (sym (drop_front seen front.0))))

-- one answer more
pub failed_next : (book : BookView Opening) (old_pass new : PassView Event Opening) (log later : List Answer) (a : Answer) → HasPassed book old_pass new → later ≡ log ++ a ∷ [] → TellsFailures (added_by old_pass new) a.body → failures_by log ≡ failures_of (own_events old_pass.number 1 old_pass.seen)
    → failures_by later ≡ failures_of (own_events new.number 1 new.seen)
failed_next book old_pass new log later a passed logged tells failed =
    ap failures_by logged ∙ log_more log a ∙ ap (λ ns. ns ++ failures_in a.body) failed ∙ ap (λ ns. failures_of (own_events old_pass.number 1 old_pass.seen) ++ ns) (sym tells)
    ∙ sym (failures_more (own_events old_pass.number 1 old_pass.seen) (added_by old_pass new)) ∙ ap failures_of (sym (own_more old_pass.number old_pass.seen new.seen passed.before))
    ∙ ap (λ n. failures_of (own_events n 1 new.seen)) (sym passed.number)
