-- What a line's transform and its steps make of a view.
use Rattle.std.specs.Prelude.{List, [], ◌∷◌, Option, Some, None, Result, Ok, Err}
use Rattle.index_transform.specs.Transforms.{DomainAndMaps}
use Rattle.transform_composition.specs.declared.error.ComposeError.{ComposeError}
use Rattle.transform_composition.specs.declared.error.ComposeError.TheVariants as compose
use Rattle.step_forms.specs.declared.act.Step.{Step}
use Rattle.dim_changes.specs.declared.cause.Cause.{Cause}
use Rattle.dim_changes.specs.declared.cause.Cause.TheVariants as step
use Rattle.dim_expressions.specs.Applying.{applied}
use Rattle.dim_expressions.specs.declared.error.ApplyError.{ApplyError}
use Rattle.dim_expressions.specs.declared.error.ApplyError.TheVariants as apply
use Rattle.stack_driver.specs.Changes.{under, moved}
use Rattle.stack_driver.specs.Views.{own_transform}
use Rattle.stack_driver.specs.declared.view.View.{View}
use Rattle.line_answers.specs.Answers.{StepCause, count, rank, target, label, zero_step, unbounded_step, bad_order, out_of_bounds, index_dim, step_overflow, too_large}
use Rattle.line_answers.specs.Lines.{ChangeError, unknown_dim, repeated_dim, refused_step, refused_view, Change}

-- why a step isn't done
abbrev pub cause_of : Cause → StepCause
cause_of step.Count = count
cause_of step.Rank = rank
cause_of step.Target = target
cause_of step.Label = label
cause_of step.ZeroStep = zero_step
cause_of step.Unbounded = unbounded_step
cause_of step.BadOrder = bad_order
cause_of (step.OutOfRange lo hi) = out_of_bounds lo hi
cause_of step.IndexDim = index_dim
cause_of step.Overflow = step_overflow
cause_of step.TooLarge = too_large

-- why steps aren't done; no steps are refused for want of memory
abbrev pub change_error : ApplyError → ChangeError
change_error (apply.UnknownDim number) = unknown_dim number
change_error (apply.RepeatedDim number) = repeated_dim number
change_error (apply.Refused number cause) = refused_step number (cause_of cause)
change_error apply.Memory = refused_view compose.Memory

abbrev pub by_view : Result View ComposeError → Result View ChangeError
by_view (Ok view) = Ok view
by_view (Err cause) = Err (refused_view cause)

-- a view seen through a transform
abbrev pub by_transform : DomainAndMaps → Change
by_transform t view = by_view (moved view t)

abbrev pub under_steps : View → Result DomainAndMaps ApplyError → Result View ChangeError
under_steps view (Ok t) = Ok (under t view)
under_steps view (Err e) = Err (change_error e)

-- a view after steps on its own transform, one after another
abbrev pub by_steps : List Step → Change
by_steps steps view = under_steps view (applied (own_transform view) steps)

-- no steps change nothing
abbrev pub steps_of : List Step → List Change
steps_of [] = []
steps_of (first ∷ steps) = by_steps (first ∷ steps) ∷ []

-- the transform comes first
abbrev pub changes_of : Option DomainAndMaps → List Step → List Change
changes_of None steps = steps_of steps
changes_of (Some t) steps = by_transform t ∷ steps_of steps
