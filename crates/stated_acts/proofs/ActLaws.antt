-- What a line does, by what was found of it.
use Rattle.std.proofs.Common.{◌≡◌, ◌≢◌, ◌∙◌, inl, inr, ℕ, List, Bool, true, false, cond, Option, Some, None, Ok, Err, refl, sym, ap, subst}
use Rattle.std.specs.Prelude.{is_some}
use Rattle.history.specs.Acts.{Act as ActOf, Asked, form_body, without}
use Rattle.history.specs.Answers as old
use Rattle.history.specs.Commit.{Transaction}
use Rattle.history.specs.Lines.{FormError, Line}
use Rattle.history.specs.Viewing.{cell_fault}
use Rattle.line_acts.specs.Form.{form_of, IsSound, IsSoundOther}
use Rattle.line_acts.specs.Meanings.{line_of, line_in, line_of_bytes, refused_by}
use Rattle.line_acts.specs.Refused.{IsAnswerTo}
use Rattle.line_acts.specs.Refusals.{refusal_body, form_error, spec_form, spec_body, steps_form, steps_body}
use Rattle.line_acts.specs.declared.Body.{Body}
use Rattle.line_acts.specs.declared.Body.TheVariants as body
use Rattle.line_acts.proofs.Laws.{refusal_told}
use Rattle.stated_arrays.specs.declared.OpenPlan.{OpenPlan}
use Rattle.stated_arrays.specs.declared.SpecError.{SpecError}
use Rattle.stated_arrays.specs.declared.SpecError.TheVariants as spec
use Rattle.stack_driver.specs.declared.view.View.{View}
use Rattle.stated_arrays.specs.CommandLines.{command_of_line}
use Rattle.stated_arrays.specs.declared.Command.{Command}
use Rattle.stated_arrays.specs.declared.Command.TheVariants as command
use Rattle.stated_arrays.specs.declared.LineError.{LineError}
use Rattle.stated_arrays.specs.declared.LineError.TheVariants as line
use Rattle.step_forms.specs.declared.error.StepsError.{StepsError}
use Rattle.step_forms.specs.declared.error.StepsError.TheVariants as steps
use Rattle.step_forms.specs.declared.act.Step.{Step}
use Rattle.line_acts.specs.declared.DownWant.{DownWant}
use Rattle.stated_arrays.specs.Unchecked.{is_unchecked_form}
use Rattle.stated_acts.specs.Acts.{IsActBy, IsActAt, IsActAmong, IsActOfView, IsRefusedBy, IsSoundAct}
use Rattle.stated_acts.specs.Standings.{transaction_of, transaction_in, standing_of}
use Rattle.stated_acts.specs.declared.acts.Act.{Act}
use Rattle.stated_acts.specs.declared.acts.Act.TheVariants.{Refused, Opens, Begins, Commits, Aborts}
use Rattle.stated_acts.specs.declared.standing.Ongoing.{Ongoing}
use Rattle.stated_acts.specs.declared.standing.Standing.{Standing}

-- what has no form is want of memory
spec_formless : (e : SpecError) → spec_form e ≡ None → spec_body e ≡ body.Memory
spec_formless (spec.BadSpec path) none = let no : ⊥ = cc in absurd no
spec_formless (spec.Unsupported path) none = let no : ⊥ = cc in absurd no
spec_formless spec.Memory none = refl

steps_formless : (e : StepsError) → steps_form e ≡ None → steps_body e ≡ body.Memory
steps_formless (steps.BadStep step) none = let no : ⊥ = cc in absurd no
steps_formless steps.Memory none = refl

formless : (e : LineError) → form_error e ≡ None → refusal_body e ≡ body.Memory
formless line.NotJson none = let no : ⊥ = cc in absurd no
formless line.NotCommand none = let no : ⊥ = cc in absurd no
formless (line.Member path) none = let no : ⊥ = cc in absurd no
formless (line.Spec cause) none = spec_formless cause none
formless (line.Steps cause) none = steps_formless cause none
formless line.Memory none = refl

-- so it is no fault of a line
memory_said : (e : LineError) → e ≡ line.Memory → refusal_body e ≡ body.Memory
memory_said e is = ap refusal_body is

-- a line that is no command is refused by its form
pub refused_at : (names : List (List ℕ)) (bytes : List ℕ) (e : LineError) (s : Standing) (act : Act) → (e ≢ line.Memory → command_of_line names bytes ≡ Err e) → IsRefusedBy (refusal_body e) act
    → IsActAt (standing_of s) (line_of_bytes names bytes) act
refused_at names bytes e s act is told =
    subst (IsActAt (standing_of s) (line_of_bytes names bytes)) (sym told.0)
    (subst (λ l. IsActAt (standing_of s) l (Refused (refusal_body e))) (sym (ap line_in (is (λ same. told.1 (memory_said e same))))) (by (form_error e) refl))
  where
    by : (o : Option FormError) → form_error e ≡ o → IsActAt (standing_of s) (refused_by (form_error e)) (Refused (refusal_body e))
    by None none = absurd (told.1 (formless e none))
    by (Some form) some = subst (λ (o : Option FormError). IsActAt (standing_of s) (refused_by o) (Refused (refusal_body e))) (sym some) (form_body form, refl, refusal_told e form some)

-- an answer that isn't want of memory is a refusal
pub refused_asked : (asked : Asked) (b : Body) (t : Option Transaction) (act : Act) → IsRefusedBy b act → IsAnswerTo asked b → IsActBy t asked act
refused_asked asked b t act told (inl memory) = absurd (told.1 memory)
refused_asked asked b t act told (inr answer) = subst (IsActBy t asked) (sym told.0) answer

pub refused_sound : (b : Body) (act : Act) → IsRefusedBy b act → IsSoundAct act
refused_sound b act told = subst IsSoundAct (sym told.0) tt

-- a view all of whose cells have targets
pub found_view : (v : View) (wanted : ActOf) (t : Option Transaction) (act : Act) → cell_fault v ≡ None → IsActBy t (Ok wanted) act → IsActOfView v wanted t act
found_view v wanted t act found is asked same = subst (λ (a : Asked). IsActBy t a act) (sym (same ∙ ap (λ o. without o (Ok wanted)) found)) is

-- and one with a cell that has none
pub faulty_view : (v : View) (wanted : ActOf) (t : Option Transaction) (act : Act) (b : Body) → IsRefusedBy b act → ((next : Asked) → IsAnswerTo (without (cell_fault v) next) b) → IsActOfView v wanted t act
faulty_view v wanted t act b told answer asked same = subst (λ (a : Asked). IsActBy t a act) (sym same) (refused_asked (without (cell_fault v) (Ok wanted)) b t act told (answer (Ok wanted)))

-- a command's act
abbrev pub IsActOfCommand : Standing → Command → Act → Type 0
IsActOfCommand s k act = IsActAt (standing_of s) (line_of (form_of k)) act

-- of lines that only go by whether a transaction stands
module _ (s : Standing) (k : Command) (inside outside act : Act) (is : act ≡ cond (is_some s.transaction) inside outside) where
  abbrev pub IsActWith : Option Ongoing → Act → Type 0
  IsActWith t a = IsActAt (record { names = (standing_of s).names; transaction = transaction_in t }) (line_of (form_of k)) a

  pub by_stands : IsActWith None outside → ((u : Ongoing) → IsActWith (Some u) inside) → IsActOfCommand s k act
  by_stands none some = by s.transaction refl
    where
      by : (t : Option Ongoing) → s.transaction ≡ t → IsActOfCommand s k act
      by None is_none = subst (λ t. IsActWith t act) (sym is_none) (subst (IsActWith None) (sym (is ∙ ap (λ (t : Option Ongoing). cond (is_some t) inside outside) is_none)) none)
      by (Some u) is_some_u = subst (λ t. IsActWith t act) (sym is_some_u) (subst (IsActWith (Some u)) (sym (is ∙ ap (λ (t : Option Ongoing). cond (is_some t) inside outside) is_some_u)) (some u))

pub opens_outside : (s : Standing) (name : List ℕ) (plan : OpenPlan) (act : Act) → act ≡ cond (is_some s.transaction) (Refused body.InTransaction) (Opens name plan) → IsActOfCommand s (command.Open name plan) act
opens_outside s name plan act is = by_stands s (command.Open name plan) (Refused body.InTransaction) (Opens name plan) act is refl (λ u. (old.in_transaction, refl, refl))

pub begins_outside : (s : Standing) (atomic repeatable_read : Bool) (act : Act)
    → act ≡ cond (is_some s.transaction) (Refused body.InTransaction) (Begins (record { atomic = atomic; repeatable_read = repeatable_read })) → IsActOfCommand s (command.Begin atomic repeatable_read) act
begins_outside s atomic repeatable_read act is =
    by_stands s (command.Begin atomic repeatable_read) (Refused body.InTransaction) (Begins (record { atomic = atomic; repeatable_read = repeatable_read })) act is (refl, refl) (λ u. (old.in_transaction, refl, refl))

pub commits_inside : (s : Standing) (act : Act) → act ≡ cond (is_some s.transaction) Commits (Refused body.NoTransaction) → IsActOfCommand s command.Commit act
commits_inside s act is = by_stands s command.Commit Commits (Refused body.NoTransaction) act is (old.no_transaction, refl, refl) (λ u. (transaction_of u, refl, refl))

pub aborts_inside : (s : Standing) (act : Act) → act ≡ cond (is_some s.transaction) Aborts (Refused body.NoTransaction) → IsActOfCommand s command.Abort act
aborts_inside s act is = by_stands s command.Abort Aborts (Refused body.NoTransaction) act is (old.no_transaction, refl, refl) (λ u. refl)

pub opened_sound : (stands : Bool) (name : List ℕ) (plan : OpenPlan) (act : Act) → act ≡ cond stands (Refused body.InTransaction) (Opens name plan) → IsSoundAct (Opens name plan) → IsSoundAct act
opened_sound true name plan act is sound = subst IsSoundAct (sym is) tt
opened_sound false name plan act is sound = subst IsSoundAct (sym is) sound

pub begun_sound : (stands : Bool) (atomic repeatable_read : Bool) (act : Act) → act ≡ cond stands (Refused body.InTransaction) (Begins (record { atomic = atomic; repeatable_read = repeatable_read })) → IsSoundAct act
begun_sound true atomic repeatable_read act is = subst IsSoundAct (sym is) tt
begun_sound false atomic repeatable_read act is = subst IsSoundAct (sym is) tt

pub commits_sound : (stands : Bool) (act : Act) → act ≡ cond stands Commits (Refused body.NoTransaction) → IsSoundAct act
commits_sound true act is = subst IsSoundAct (sym is) tt
commits_sound false act is = subst IsSoundAct (sym is) tt

pub aborts_sound : (stands : Bool) (act : Act) → act ≡ cond stands Aborts (Refused body.NoTransaction) → IsSoundAct act
aborts_sound true act is = subst IsSoundAct (sym is) tt
aborts_sound false act is = subst IsSoundAct (sym is) tt

-- a command that is checked
pub checked_not : (k other : Command) → k ≡ other → is_unchecked_form (form_of other) ≡ true → is_unchecked_form (form_of k) ≡ false → ⊥
checked_not k other is unchecked checked = let no : true ≡ false = sym unchecked ∙ sym (ap (λ c. is_unchecked_form (form_of c)) is) ∙ checked in let never : ⊥ = cc in never

pub plain_down : (k : Command) (name : List ℕ) (steps : List Step) (down : Option DownWant) → k ≡ command.Read name steps down → is_unchecked_form (form_of k) ≡ false → down ≡ None
plain_down k name steps None is checked = refl
plain_down k name steps (Some d) is checked = absurd (checked_not k (command.Read name steps (Some d)) is refl checked)

-- what any transaction leaves as it is
pub act_among : (s : Standing) (l : Line) (act : Act) → IsActAmong (standing_of s).names l act → IsActAt (standing_of s) l act
act_among s l act each = each (standing_of s).transaction

-- a command that opens nothing is sound whatever the mounts are
pub sound_other : (names : List (List ℕ)) (k : Command) → IsSoundOther k → IsSound names k
sound_other names (command.Open name plan) is = absurd is
sound_other names (command.View name of transform steps) is = is
sound_other names (command.Join name form layers transform steps) is = is
sound_other names (command.Read name steps down) is = is
sound_other names (command.Write name steps values) is = is
sound_other names (command.Begin atomic repeatable_read) is = is
sound_other names command.Commit is = is
sound_other names command.Abort is = is
sound_other names (command.Resize name shape) is = is
sound_other names (command.Resolve name) is = is
