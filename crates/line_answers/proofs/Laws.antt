-- A line that is no command is answered as the history says of its form.
use Rattle.std.proofs.Common.{◌≡◌, Some, ap}
use Rattle.history.specs.Acts.{form_body}
use Rattle.history.specs.Lines.{FormError}
use Rattle.line_answers.specs.Bodies.{body_of}
use Rattle.line_answers.specs.Refusals.{refusal_body, form_error, spec_form, spec_body, steps_form, steps_body}
use Rattle.line_parts.specs.declared.error.LineError.{LineError}
use Rattle.line_parts.specs.declared.error.LineError.TheVariants as line
use Rattle.line_parts.specs.declared.SpecError.{SpecError}
use Rattle.line_parts.specs.declared.SpecError.TheVariants as spec
use Rattle.step_forms.specs.declared.error.StepsError.{StepsError}
use Rattle.step_forms.specs.declared.error.StepsError.TheVariants as steps
-- laws of crates below, given on to those above
pub use Rattle.history.proofs.Laws.{n5_rules, zarr3_rules, zarr_rules}

told : (given form : FormError) → Some given ≡ Some form → body_of (form_body given) ≡ body_of (form_body form)
told given form e = let same : given ≡ form = cc in ap (λ f. body_of (form_body f)) same

spec-told : (e : SpecError) (form : FormError) → spec_form e ≡ Some form → spec_body e ≡ body_of (form_body form)
spec-told (spec.BadSpec path) form is = told _ form is
spec-told (spec.Unsupported path) form is = told _ form is
spec-told spec.Memory form is = absurd cc

steps-told : (e : StepsError) (form : FormError) → steps_form e ≡ Some form → steps_body e ≡ body_of (form_body form)
steps-told (steps.BadStep step) form is = told _ form is
steps-told steps.Memory form is = absurd cc

-- a refused line is answered by its form's body
pub refusal_told : (e : LineError) (form : FormError) → form_error e ≡ Some form → refusal_body e ≡ body_of (form_body form)
refusal_told line.NotJson form is = told _ form is
refusal_told line.NotCommand form is = told _ form is
refusal_told (line.Member path) form is = told _ form is
refusal_told (line.Spec cause) form is = spec-told cause form is
refusal_told (line.Steps cause) form is = steps-told cause form is
refusal_told line.Memory form is = absurd cc
