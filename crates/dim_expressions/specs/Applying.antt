-- Steps one after another.
use Rattle.std.specs.Prelude.{◌≡◌, ℕ, ◌+◌, List, [], ◌∷◌, Result, Ok, Err}
use Rattle.index_transform.specs.Transforms.{DomainAndMaps}
use Rattle.step_forms.specs.declared.act.Step.{Step}
use Rattle.dim_changes.specs.declared.cause.Cause.{Cause}
use Rattle.dim_expressions.specs.declared.error.ApplyError.{ApplyError}
use Rattle.dim_expressions.specs.declared.error.ApplyError.TheVariants.{UnknownDim, RepeatedDim, Refused, Memory}
use Rattle.step_forms.specs.declared.selection.SelectError.{SelectError}
use Rattle.step_forms.specs.Selection.{selected_of}
use Rattle.dim_expressions.specs.Answers.{step_answer, IsStepped}
use Rattle.step_forms.specs.declared.selection.SelectError.TheVariants as select

-- why a step selects no dimensions, with its number
abbrev pub select_error : ℕ → SelectError → ApplyError
select_error number select.Unknown = UnknownDim number
select_error number select.Repeated = RepeatedDim number
select_error number select.Memory = Memory

-- what a step gives, or why it can't be done, with its number
abbrev pub numbered : ℕ → Result DomainAndMaps Cause → Result DomainAndMaps ApplyError
numbered number (Ok t) = Ok t
numbered number (Err cause) = Err (Refused number cause)

abbrev pub answer_on : ℕ → DomainAndMaps → Step → Result (List ℕ) SelectError → Result DomainAndMaps ApplyError
answer_on number u step (Ok dims) = numbered number (step_answer u dims step.act)
answer_on number u step (Err e) = Err (select_error number e)

abbrev pub after_step : ℕ → DomainAndMaps → Step → Result DomainAndMaps ApplyError
after_step number u step = answer_on number u step (selected_of step u.domain)

-- the transform after the last of the steps, which are numbered from this number on, or why the first that fails does
abbrev pub applied_from : ℕ → DomainAndMaps → List Step → Result DomainAndMaps ApplyError
applied_from number u [] = Ok u
applied_from number u (step ∷ steps) = elim (after_step number u step) [ Ok t ↦ applied_from (number + 1) t steps | Err e ↦ Err e ]

abbrev pub applied : DomainAndMaps → List Step → Result DomainAndMaps ApplyError
applied u steps = applied_from 0 u steps

-- a step on the dimensions that it selects
pub record IsAfter (u : DomainAndMaps) (step : Step) (t : DomainAndMaps) : Type 0 where
  pub dims : List ℕ
  pub selected : selected_of step u.domain ≡ Ok dims
  pub stepped : IsStepped u dims step.act t

-- the result after the last of the steps: each step's result has at each index vector between its bounds the value that the
-- transform before it has at the step's old index vector
abbrev pub IsAfterAll : DomainAndMaps → List Step → DomainAndMaps → Type 0
IsAfterAll u [] t = u ≡ t
IsAfterAll u (step ∷ steps) t = (v : DomainAndMaps) × IsAfter u step v × IsAfterAll v steps t
