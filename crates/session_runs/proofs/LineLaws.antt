-- Lines by their command.
use Rattle.std.proofs.Common.{◌≡◌, ◌∙◌, ℕ, List, length, inl, inr, Option, Some, None, Result, Ok, Err, refl, sym, ap, subst}
use Rattle.std.specs.Prelude.{◌≢◌, ◌⊎◌}
use Rattle.std.specs.FinMap as finmap
use Rattle.session_openings.specs.declared.Body.{Body}
use Rattle.session_openings.specs.declared.Body.TheVariants as printed
use Rattle.history.specs.declared.event.Event.{Event}
use Rattle.history.specs.Acts.{act_of, form_body}
use Rattle.history.specs.Bound.{AreKnownNames}
use Rattle.history.specs.History.{History}
use Rattle.history.specs.Legal.{IsLegal}
use Rattle.history.specs.Lines.{FormError, Line, committing}
use Rattle.history.specs.Lines as history
use Rattle.history.specs.Sessions.{Names}
use Rattle.session_openings.specs.Bodies.{body_of}
use Rattle.session_openings.specs.Refusals.{refusal_body, form_error}
use Rattle.session_openings.proofs.Laws.{refusal_told, passed_alone, names_then, told_alone, told_without, refusal}
use Rattle.session_openings.specs.Meanings.{refused_by}
use Rattle.line_parts.specs.declared.error.LineError.{LineError}
use Rattle.line_parts.specs.declared.error.LineError.TheVariants as line
use Rattle.line_parts.specs.declared.SpecError.TheVariants as spec
use Rattle.session_runs.specs.Session.{MayGoOn, IsLineTold}
use Rattle.session_openings.specs.Turns.{IsRested, HasPassed}
use Rattle.session_openings.specs.Commits.{HasSoundTxn, IsCommitTold}
use Rattle.session_openings.specs.Reads.{IsReadTold}
use Rattle.session_openings.specs.Standing.{session_state, transaction_in, AreViews}
use Rattle.session_openings.specs.Told.{IsToldAlone, IsToldBy, IsAnswerTo}
use Rattle.session_openings.proofs.Laws.{sound_later}
use Rattle.session_openings.specs.Agreement.{Opening}
use Rattle.session_openings.specs.Outline.{outline}
use Rattle.step_forms.specs.declared.error.StepsError.TheVariants as steps
use Rattle.session_openings.specs.Txn.{TxnSeen}
use Rattle.turn_book.specs.Passes.{BookView, PassView}

module _ (book : BookView Opening) (old_pass : PassView Event Opening) (names : Names) (t : Option TxnSeen) (number : ℕ) (asked : Line) (later : Names) (after : Option TxnSeen) (answer : Body) where
  -- a line that takes no turn
  pub line_alone : IsToldAlone (session_state names (length old_pass.seen) t) number asked later (transaction_in after) answer → IsLineTold book old_pass old_pass names t number asked later after answer
  line_alone told = record {
    left = transaction_in after;
    told = told_alone book old_pass (session_state names (length old_pass.seen) t) number asked later (transaction_in after) answer told;
    stands = λ other. refl;
  }

  module _ (new : PassView Event Opening) where
    -- one that may take turns
    pub line_by : IsToldBy book old_pass new (session_state names (length old_pass.seen) t) number asked later (transaction_in after) answer → IsLineTold book old_pass new names t number asked later after answer
    line_by told = record { left = transaction_in after; told = told; stands = λ other. refl }

-- behind turns that leave the transaction as it was the session goes on, with the names as they were or others
pub goes_by : (book : BookView Opening) (old_pass new : PassView Event Opening) (names later : Names) (t : Option TxnSeen) → MayGoOn book old_pass names t → HasPassed book old_pass new → AreViews later → AreKnownNames new.seen later → MayGoOn book new later t
goes_by book old_pass new names later t may passed views known = record { rested = passed.rested; views = views; known = known; txn = sound_later book old_pass new t passed may.txn }

pub goes_with : (book : BookView Opening) (old_pass new : PassView Event Opening) (names : Names) (t after : Option TxnSeen) → MayGoOn book old_pass names t → HasPassed book old_pass new → HasSoundTxn book.fixed new.seen after → MayGoOn book new names after
goes_with book old_pass new names t after may passed txn = record { rested = passed.rested; views = may.views; known = names_then old_pass.seen new.seen names passed.before may.known; txn = txn }

-- without a turn
pub goes_alone : (book : BookView Opening) (pass : PassView Event Opening) (names later : Names) (t after : Option TxnSeen) → MayGoOn book pass names t → AreViews later → AreKnownNames pass.seen later → HasSoundTxn book.fixed pass.seen after → MayGoOn book pass later after
goes_alone book pass names later t after may views known txn = record { rested = may.rested; views = views; known = known; txn = txn }

pub line_read : (book : BookView Opening) (old_pass new : PassView Event Opening) (names : Names) (t after : Option TxnSeen) (number : ℕ) (asked : Line) (answer : Body) → IsReadTold book old_pass new names t after number asked answer
    → IsLineTold book old_pass new names t number asked names after answer
line_read book old_pass new names t after number asked answer told = record { left = told.left; told = told.told; stands = told.stands }

pub line_commit : (book : BookView Opening) (old_pass new : PassView Event Opening) (names : Names) (t after : Option TxnSeen) (number : ℕ) (answer : Body) → IsCommitTold book old_pass new t after answer
    → IsLineTold book old_pass new names t number committing names after answer
line_commit book old_pass new names t after number answer told = record { left = told.left; told = told.told names number; stands = told.stands }

-- what isn't the form of a line is want of memory
none_wants : (e : LineError) → form_error e ≡ None → refusal_body e ≡ printed.Memory
none_wants line.NotJson is = absurd (let no_such : ⊥ = cc in no_such)
none_wants line.NotCommand is = absurd (let no_such : ⊥ = cc in no_such)
none_wants (line.Member path) is = absurd (let no_such : ⊥ = cc in no_such)
none_wants (line.Spec (spec.BadSpec path)) is = absurd (let no_such : ⊥ = cc in no_such)
none_wants (line.Spec (spec.Unsupported path)) is = absurd (let no_such : ⊥ = cc in no_such)
none_wants (line.Spec spec.Memory) is = refl
none_wants (line.Steps (steps.BadStep step)) is = absurd (let no_such : ⊥ = cc in no_such)
none_wants (line.Steps steps.Memory) is = refl
none_wants line.Memory is = refl

-- a line that is no command
refused_to : (names : Names) (t : Option TxnSeen) (e : LineError) (answer : Body) → answer ≡ refusal_body e → IsAnswerTo (act_of names (transaction_in t) (refused_by (form_error e))) answer
refused_to names t e answer is = by (form_error e) refl
  where
    by : (f : Option FormError) → form_error e ≡ f → IsAnswerTo (act_of names (transaction_in t) (refused_by (form_error e))) answer
    by None none = inl (is ∙ none_wants e none)
    by (Some form) some = inr (form_body form, ap (λ f. act_of names (transaction_in t) (refused_by f)) some, is ∙ refusal_told e form some)

-- it is answered by its refusal or want of memory
pub form_answered : (names : Names) (t : Option TxnSeen) (asked : Line) (e : LineError) (answer : Body) → (e ≢ line.Memory → asked ≡ refused_by (form_error e)) → ((answer ≡ refusal_body e) ⊎ (answer ≡ printed.Memory))
    → IsAnswerTo (act_of names (transaction_in t) asked) answer
form_answered names t asked e answer is given = by given
  where
    is_wanting : (d : LineError) → e ≡ d → answer ≡ refusal_body e → IsAnswerTo (act_of names (transaction_in t) asked) answer
    is_wanting line.Memory same told = inl (told ∙ ap refusal_body same)
    is_wanting line.NotJson same told = subst (λ a. IsAnswerTo (act_of names (transaction_in t) a) answer) (sym (is (λ m. let no_such : ⊥ = cc in no_such))) (refused_to names t e answer told)
    is_wanting line.NotCommand same told = subst (λ a. IsAnswerTo (act_of names (transaction_in t) a) answer) (sym (is (λ m. let no_such : ⊥ = cc in no_such))) (refused_to names t e answer told)
    is_wanting (line.Member path) same told = subst (λ a. IsAnswerTo (act_of names (transaction_in t) a) answer) (sym (is (λ m. let no_such : ⊥ = cc in no_such))) (refused_to names t e answer told)
    is_wanting (line.Spec cause) same told = subst (λ a. IsAnswerTo (act_of names (transaction_in t) a) answer) (sym (is (λ m. let no_such : ⊥ = cc in no_such))) (refused_to names t e answer told)
    is_wanting (line.Steps cause) same told = subst (λ a. IsAnswerTo (act_of names (transaction_in t) a) answer) (sym (is (λ m. let no_such : ⊥ = cc in no_such))) (refused_to names t e answer told)

    by : ((answer ≡ refusal_body e) ⊎ (answer ≡ printed.Memory)) → IsAnswerTo (act_of names (transaction_in t) asked) answer
    by (inl told) = is_wanting e refl told
    by (inr wants) = inl wants

-- without a turn
pub line_refused : (book : BookView Opening) (pass : PassView Event Opening) (names : Names) (t : Option TxnSeen) (number : ℕ) (asked : Line) (e : LineError) (answer : Body) → (e ≢ line.Memory → asked ≡ refused_by (form_error e))
    → ((answer ≡ refusal_body e) ⊎ (answer ≡ printed.Memory)) → IsLineTold book pass pass names t number asked names t answer
line_refused book pass names t number asked e answer is given = record {
  left = transaction_in t;
  told = told_without book pass (session_state names (length pass.seen) t) number asked answer (form_answered names t asked e answer is given);
  stands = λ other. refl;
}
