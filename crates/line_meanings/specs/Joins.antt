-- How the views of a line are joined.
use Rattle.std.specs.Prelude.{Result, Ok, Err}
use Rattle.stack_driver.specs.declared.view.View.{View}
use Rattle.layer_join.specs.Joins as joins
use Rattle.layer_join.specs.declared.error.JoinError.{JoinError}
use Rattle.layer_join.specs.declared.error.JoinError.TheVariants as join
use Rattle.line_forms.specs.declared.command.JoinForm.{JoinForm}
use Rattle.line_forms.specs.declared.command.JoinForm.TheVariants as form
use Rattle.line_answers.specs.Answers.{JoinCause, depth, join_layers, axis, join_rank, join_unbounded, join_overflow}
use Rattle.line_answers.specs.Lines.{Join}

abbrev pub form_of : JoinForm → joins.Join
form_of form.Overlay = joins.overlay
form_of (form.Concat along) = joins.concat along
form_of (form.Stack along) = joins.stack along

-- why views aren't joined; none are refused for want of memory
abbrev pub join_cause_of : JoinError → JoinCause
join_cause_of join.Depth = depth
join_cause_of (join.Layers layer) = join_layers layer
join_cause_of join.Axis = axis
join_cause_of join.Rank = join_rank
join_cause_of (join.Unbounded layer) = join_unbounded layer
join_cause_of (join.Overflow layer) = join_overflow layer
join_cause_of join.Memory = depth

abbrev pub by_join : Result View JoinError → Result View JoinCause
by_join (Ok view) = Ok view
by_join (Err e) = Err (join_cause_of e)

-- the view that views are joined to
abbrev pub join_of : JoinForm → Join
join_of kind views = by_join (joins.join_answer (form_of kind) views)
