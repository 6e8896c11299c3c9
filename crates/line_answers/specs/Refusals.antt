-- What a line is answered that is no command.
use Rattle.std.specs.Prelude.{ℕ, List, ◌++◌, codes, Option, Some, None}
use Rattle.answer_text.specs.declared.answer.Body.{Body}
use Rattle.answer_text.specs.declared.answer.Body.TheVariants as body
use Rattle.history.specs.Lines.{FormError, bad_line, bad_spec, unsupported, bad_step}
use Rattle.line_parts.specs.declared.error.LineError.{LineError}
use Rattle.line_parts.specs.declared.error.LineError.TheVariants as line
use Rattle.line_parts.specs.declared.SpecError.{SpecError}
use Rattle.line_parts.specs.declared.SpecError.TheVariants as spec
use Rattle.step_forms.specs.declared.error.StepsError.{StepsError}
use Rattle.step_forms.specs.declared.error.StepsError.TheVariants as steps

-- a member at fault, by its path
abbrev pub member_text : List ℕ → List ℕ
member_text path = codes "member:" ++ path

-- a Spec of a wrong form adds no event, and none is told
abbrev pub spec_body : SpecError → Body
spec_body (spec.BadSpec path) = body.BadSpec path None
spec_body (spec.Unsupported path) = body.Unsupported path
spec_body spec.Memory = body.Memory

-- the same of steps
abbrev pub steps_body : StepsError → Body
steps_body (steps.BadStep step) = body.BadStep step
steps_body steps.Memory = body.Memory

-- the answer to a line that is no command
abbrev pub refusal_body : LineError → Body
refusal_body line.NotJson = body.BadLine (codes "json")
refusal_body line.NotCommand = body.BadLine (codes "command")
refusal_body (line.Member path) = body.BadLine (member_text path)
refusal_body (line.Spec cause) = spec_body cause
refusal_body (line.Steps cause) = steps_body cause
refusal_body line.Memory = body.Memory

-- what the history's lines call a Spec's fault
abbrev pub spec_form : SpecError → Option FormError
spec_form (spec.BadSpec path) = Some (bad_spec path)
spec_form (spec.Unsupported path) = Some (unsupported path)
spec_form spec.Memory = None

-- the same of steps
abbrev pub steps_form : StepsError → Option FormError
steps_form (steps.BadStep step) = Some (bad_step step)
steps_form steps.Memory = None

-- what the history's lines call it, but for want of memory, which isn't a line's form
abbrev pub form_error : LineError → Option FormError
form_error line.NotJson = Some (bad_line (codes "json"))
form_error line.NotCommand = Some (bad_line (codes "command"))
form_error (line.Member path) = Some (bad_line (member_text path))
form_error (line.Spec cause) = spec_form cause
form_error (line.Steps cause) = steps_form cause
form_error line.Memory = None
