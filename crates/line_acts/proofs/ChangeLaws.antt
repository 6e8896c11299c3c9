-- What refuses a transform, steps or a join, and how it is answered.
use Rattle.std.proofs.Common.{◌≡◌, ◌≢◌, ◌∙◌, ℕ, List, [], ◌∷◌, Option, Some, None, Result, Ok, Err, refl, sym, ap, subst}
use Rattle.std.specs.Prelude.{IfErr}
use Rattle.line_meanings.specs.declared.Body.{Body}
use Rattle.line_meanings.specs.declared.Body.TheVariants as body
use Rattle.dim_changes.specs.declared.cause.Cause.{Cause}
use Rattle.dim_changes.specs.declared.cause.Cause.TheVariants as cause
use Rattle.line_meanings.specs.Applying.{applied}
use Rattle.line_meanings.specs.declared.ApplyError.{ApplyError}
use Rattle.line_meanings.specs.declared.ApplyError.TheVariants as apply
use Rattle.history.specs.Acts.{Asked, changed, with_changes, binds, act_of}
use Rattle.history.specs.Answers as old
use Rattle.history.specs.Answers.{Text}
use Rattle.history.specs.Bound.{AreKnownNames, IsLineWithin}
use Rattle.history.specs.History.{History}
use Rattle.history.specs.Lines.{Change, ChangeError, Line}
use Rattle.history.specs.Refs.{HasKnownRefs}
use Rattle.history.specs.Sessions.{Names}
use Rattle.history.proofs.Asking.{IsAskedBy}
use Rattle.history.proofs.StepsKnown.{IsActKnown, act_of-known}
use Rattle.index_transform.specs.Transforms.{DomainAndMaps}
use Rattle.line_meanings.specs.Causes.{step_cause}
use Rattle.line_meanings.specs.Changes.{cause_of, by_view, by_transform, under_steps, by_steps, steps_of, changes_of}
use Rattle.line_acts.specs.Refused.{IsAnswerTo}
use Rattle.line_acts.proofs.RefusalLaws.{refusal}
use Rattle.stack_driver.specs.Views.{own_transform}
use Rattle.stack_driver.specs.declared.view.View.{View}
use Rattle.step_forms.specs.declared.act.Step.{Step}
use Rattle.transform_composition.specs.declared.error.ComposeError.{ComposeError}
use Rattle.transform_composition.specs.declared.error.ComposeError.TheVariants as compose

-- steps
pub told_unknown : (e : ApplyError) (step : ℕ) → e ≡ apply.UnknownDim step → (view : View) (answer : Result DomainAndMaps ApplyError) (next : View → Asked) → (e ≢ apply.Memory → answer ≡ Err e)
    → IsAnswerTo (with_changes (under_steps view answer) next) (body.UnknownDim step)
told_unknown e step same view answer next is =
    refusal _ _ (old.unknown_dim step) (ap (λ r. with_changes (under_steps view r) next) (is (λ m. let clash = sym same ∙ m in cc) ∙ ap Err same)) refl

pub told_repeated : (e : ApplyError) (step : ℕ) → e ≡ apply.RepeatedDim step → (view : View) (answer : Result DomainAndMaps ApplyError) (next : View → Asked) → (e ≢ apply.Memory → answer ≡ Err e)
    → IsAnswerTo (with_changes (under_steps view answer) next) (body.RepeatedDim step)
told_repeated e step same view answer next is =
    refusal _ _ (old.repeated_dim step) (ap (λ r. with_changes (under_steps view r) next) (is (λ m. let clash = sym same ∙ m in cc) ∙ ap Err same)) refl

same_cause : (c : Cause) → step_cause (cause_of c) ≡ c
same_cause cause.Count = refl
same_cause cause.Rank = refl
same_cause cause.Target = refl
same_cause cause.Label = refl
same_cause cause.ZeroStep = refl
same_cause cause.Unbounded = refl
same_cause cause.BadOrder = refl
same_cause (cause.OutOfRange lo hi) = refl
same_cause cause.IndexDim = refl
same_cause cause.Overflow = refl
same_cause cause.TooLarge = refl

pub told_step : (e : ApplyError) (step : ℕ) (c : Cause) → e ≡ apply.Refused step c → (view : View) (answer : Result DomainAndMaps ApplyError) (next : View → Asked) → (e ≢ apply.Memory → answer ≡ Err e)
    → IsAnswerTo (with_changes (under_steps view answer) next) (body.RefusedStep step c)
told_step e step c same view answer next is =
    refusal _ _ (old.refused_step step (cause_of c)) (ap (λ r. with_changes (under_steps view r) next) (is (λ m. let clash = sym same ∙ m in cc) ∙ ap Err same)) (ap (body.RefusedStep step) (sym (same_cause c)))

-- a transform
pub told_composed : (e : ComposeError) → e ≢ compose.Memory → (answer : Result View ComposeError) (next : View → Asked) → (e ≢ compose.Memory → answer ≡ Err e) → IsAnswerTo (with_changes (by_view answer) next) (body.RefusedView e)
told_composed e other answer next is = refusal _ _ (old.refused_view e) (ap (λ r. with_changes (by_view r) next) (is other)) refl

-- changes one after another
changed_none : (r : Result View ChangeError) → changed r [] ≡ r
changed_none (Ok v) = refl
changed_none (Err e) = refl

pub stepped_told : (view : View) (steps : List Step) (next : View → Asked) (answer : Body) → steps ≢ [] → IsAnswerTo (with_changes (under_steps view (applied (own_transform view) steps)) next) answer
    → IsAnswerTo (with_changes (changed (Ok view) (steps_of steps)) next) answer
stepped_told view [] next answer some told = absurd (some refl)
stepped_told view (s ∷ ss) next answer some told = subst (λ r. IsAnswerTo (with_changes r next) answer) (sym (changed_none (by_steps (s ∷ ss) view))) told

changed_then : (r : Result View ChangeError) (changes : List Change) (next : View → Asked) → with_changes (changed r changes) next ≡ with_changes r (λ v. with_changes (changed (Ok v) changes) next)
changed_then (Ok v) changes next = refl
changed_then (Err e) changes next = refl

-- the transform refuses the view
pub refused_first : (view : View) (transform : Option DomainAndMaps) (t : DomainAndMaps) (steps : List Step) (answer : Body) → transform ≡ Some t → ((next : View → Asked) → IsAnswerTo (with_changes (by_transform t view) next) answer)
    → (next : View → Asked) → IsAnswerTo (with_changes (changed (Ok view) (changes_of transform steps)) next) answer
refused_first view transform t steps answer is told next =
    subst (λ o. IsAnswerTo (with_changes (changed (Ok view) (changes_of o steps)) next) answer) (sym is)
    (subst (λ a. IsAnswerTo a answer) (sym (changed_then (by_transform t view) (steps_of steps) next)) (told (λ v. with_changes (changed (Ok v) (steps_of steps)) next)))

-- a step refuses what the transform gave
pub refused_then : {A : Type 0} (view w : View) (transform : Option DomainAndMaps) (t : DomainAndMaps) (steps : List Step) (r : Result A Body) → transform ≡ Some t → by_transform t view ≡ Ok w
    → IfErr r (λ b. (next : View → Asked) → IsAnswerTo (with_changes (changed (Ok w) (steps_of steps)) next) b) → IfErr r (λ b. (next : View → Asked) → IsAnswerTo (with_changes (changed (Ok view) (changes_of transform steps)) next) b)
refused_then view w transform t steps (Ok a) is made told = tt
refused_then view w transform t steps (Err b) is made told = λ next.
    subst (λ o. IsAnswerTo (with_changes (changed (Ok view) (changes_of o steps)) next) b) (sym is)
    (subst (λ r. IsAnswerTo (with_changes (changed r (steps_of steps)) next) b) (sym made) (told next))

-- there is no transform
pub refused_alone : {A : Type 0} (view : View) (transform : Option DomainAndMaps) (steps : List Step) (r : Result A Body) → transform ≡ None
    → IfErr r (λ b. (next : View → Asked) → IsAnswerTo (with_changes (changed (Ok view) (steps_of steps)) next) b) → IfErr r (λ b. (next : View → Asked) → IsAnswerTo (with_changes (changed (Ok view) (changes_of transform steps)) next) b)
refused_alone view transform steps r is told = subst (λ o. IfErr r (λ b. (next : View → Asked) → IsAnswerTo (with_changes (changed (Ok view) (changes_of o steps)) next) b)) (sym is) told

pub if_err_map : {A : Type 0} (P Q : Body → Type 0) (r : Result A Body) → ((b : Body) → P b → Q b) → IfErr r P → IfErr r Q
if_err_map P Q (Ok a) f p = tt
if_err_map P Q (Err b) f p = f b p

-- a view that a line binds is of known arrays, where the names are
pub binds_known : (events : History) (names : Names) (line : Line) (name : Text) (view : View) → IsLineWithin line → act_of names None line ≡ Ok (binds name view) → AreKnownNames events names → HasKnownRefs events view
binds_known events names line name view within is known = subst (IsAskedBy (IsActKnown events)) is (act_of-known events names None line known within)
