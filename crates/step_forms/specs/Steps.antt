-- Which steps a JSON value is.
use Rattle.std.specs.Prelude.{ℕ, ◌+◌, List, [], ◌∷◌, codes, Bool, true, false, not, ◌&&◌, ◌==◌, Option, Some, None, option_map, count_by, Result, Ok, Err}
use Rattle.serde_json.specs.Data.{Data}
use Rattle.serde_json.specs.Find.{get}
use Rattle.json_forms.specs.Lists.{list_items}
use Rattle.step_forms.specs.Forms.{◌>>=◌, where_so, has, index_of, list_by}
use Rattle.step_forms.specs.declared.act.Step.{Step}
use Rattle.step_forms.specs.declared.act.Select.{Select}
use Rattle.step_forms.specs.declared.act.Act.{Act}
use Rattle.step_forms.specs.declared.error.StepsError.{StepsError}
use Rattle.step_forms.specs.declared.error.StepsError.TheVariants.{BadStep}
use Rattle.step_forms.specs.declared.act.Select.TheVariants as select
use Rattle.step_forms.specs.declared.act.Act.TheVariants as act
use Rattle.step_forms.specs.Acts.{has_only, selector_of, act_of}

-- the step adds dimensions
abbrev pub is_newaxis : Act → Bool
is_newaxis (act.Label labels) = false
is_newaxis (act.TranslateTo by) = false
is_newaxis (act.TranslateBy by) = false
is_newaxis (act.TranslateBackwardBy by) = false
is_newaxis (act.Stride by) = false
is_newaxis (act.Transpose targets) = false
is_newaxis act.Diagonal = false
is_newaxis (act.At by) = false
is_newaxis (act.Slice by) = false
is_newaxis (act.Oindex arrays) = false
is_newaxis (act.Vindex arrays) = false
is_newaxis act.Newaxis = true
is_newaxis (act.MarkBoundsImplicit lower upper) = false

-- the selectors of a list: for new dimensions positions alone
abbrev pub dims_of : Bool → Data → Option (List Select)
dims_of true d = list_by (λ x. option_map select.Position (index_of x)) d
dims_of false d = list_by selector_of d

-- the dimensions of a step: those that its list selects, or all, which new ones can't be
abbrev pub step_on : Act → Option Data → Option Step
step_on a None = where_so (not (is_newaxis a)) (Some (record { dims = []; all = true; act = a }))
step_on a (Some d) = option_map (λ dims. record { dims = dims; all = false; act = a }) (dims_of (is_newaxis a) d)

-- the names of steps
abbrev pub step_names : List (List ℕ)
step_names =
    codes "label" ∷ codes "translate_to" ∷ codes "translate_by" ∷ codes "translate_backward_by" ∷ codes "stride" ∷ codes "transpose" ∷ codes "diagonal"
    ∷ codes "at" ∷ codes "slice" ∷ codes "oindex" ∷ codes "vindex" ∷ codes "newaxis" ∷ codes "mark_bounds_implicit" ∷ []

-- an object with exactly one step name, and maybe `dims`
abbrev pub names_step : Data → Bool
names_step d = has_only (codes "dims" ∷ step_names) d && count_by (λ name. has name d) step_names == 1

abbrev pub step_of_json : Data → Option Step
step_of_json d = where_so (names_step d) (do
  a ← act_of d
  step_on a (get (codes "dims") d))

-- one step more before others
abbrev pub before : Step → Result (List Step) StepsError → Result (List Step) StepsError
before step (Ok steps) = Ok (step ∷ steps)
before step (Err e) = Err e

-- the steps one after another, or the number of the first that has no form
abbrev pub steps_from : ℕ → List Data → Result (List Step) StepsError
steps_from n [] = Ok []
steps_from n (d ∷ ds) = elim (step_of_json d) [ None ↦ Err (BadStep n) | Some step ↦ before step (steps_from (n + 1) ds) ]

-- the steps of a list, or the number of the first that has no form; a value that is no list is faulty at step 0
abbrev pub steps_of_json : Data → Result (List Step) StepsError
steps_of_json d = elim (list_items d) [ None ↦ Err (BadStep 0) | Some items ↦ steps_from 0 items ]
