-- What a line is answered.
use Rattle.std.specs.Prelude.{ℕ, ℤ, List, Option}
use Rattle.cells.specs.declared.dtype.Dtype.{Dtype}
use Rattle.stack_driver.specs.declared.Domain.{Domain}
use Rattle.stack_driver.specs.Transforms.{DomainAndMaps}
use Rattle.stack_driver.specs.declared.ComposeError.{ComposeError}
use Rattle.chunk_forms.specs.declared.MetaError.{MetaError}
use Rattle.chunk_forms.specs.declared.form.Damage.{Damage}
use Rattle.history.specs.Commit.{Key}

-- a name, a path or a text, as bytes
abbrev pub Text : Type 0
Text = List ℕ

-- why a step isn't done
pub data StepCause : Type 0 where
  count : StepCause
  rank : StepCause
  target : StepCause
  label : StepCause
  zero_step : StepCause
  unbounded_step : StepCause
  bad_order : StepCause
  out_of_bounds : (lo hi : ℤ) → StepCause
  index_dim : StepCause
  step_overflow : StepCause
  too_large : StepCause

-- why a node of a Spec isn't built
pub data BuildCause : Type 0 where
  by_transform : (cause : ComposeError) → BuildCause
  layers : BuildCause

-- why views aren't joined
pub data JoinCause : Type 0 where
  depth : JoinCause
  join_layers : (layer : ℕ) → JoinCause
  axis : JoinCause
  join_rank : JoinCause
  join_unbounded : (layer : ℕ) → JoinCause
  join_overflow : (layer : ℕ) → JoinCause

-- an answer: what the line did or shows, or why it was refused or failed
pub data Body : Type 0 where
  opened : (name : Text) → (dtype : Dtype) → (domain : Domain) → (events : List ℕ) → Body
  viewed : (name : Text) → (dtype : Dtype) → (transform : DomainAndMaps) → Body
  values : (origin : List ℤ) → (shape : List ℕ) → (dtype : Dtype) → (words : List ℕ) → Body
  staged : (cells : ℕ) → Body
  written : (cells : ℕ) → (events : List ℕ) → Body
  begun : Body
  committed : (events : List ℕ) → Body
  aborted : Body
  resized : (event : ℕ) → Body
  resolved : (name : Text) → (dtype : Dtype) → (transform : DomainAndMaps) → Body
  bad_line : (text : Text) → Body
  bad_spec : (path : Text) → (events : Option (List ℕ)) → Body
  unsupported : (path : Text) → Body
  bad_step : (step : ℕ) → Body
  unknown_name : (name : Text) → Body
  in_transaction : Body
  no_transaction : Body
  unknown_dim : (step : ℕ) → Body
  repeated_dim : (step : ℕ) → Body
  refused_step : (step : ℕ) → (cause : StepCause) → Body
  refused_view : (cause : ComposeError) → Body
  refused_join : (cause : JoinCause) → Body
  refused_spec : (path : Text) → (cause : BuildCause) → (events : List ℕ) → Body
  not_found : (at : ℕ) → (path : Text) → (events : List ℕ) → Body
  exists : (at : ℕ) → (path : Text) → (events : List ℕ) → Body
  path_taken : (at : ℕ) → (path : Text) → (events : List ℕ) → Body
  mismatch : (at : ℕ) → (member path : Text) → (events : List ℕ) → Body
  bad_metadata : (key : Key) → (why : MetaError) → (events : List ℕ) → Body
  unbounded : (dim : ℕ) → Body
  too_many : (dim : ℕ) → Body
  out_of_range : (cell : List ℤ) → (dim : ℕ) → Body
  uncovered : (cell : List ℤ) → Body
  bad_values : (path : List ℕ) → Body
  conflict : (key : Key) → (read now : ℕ) → Body
  shrunk : (key : Key) → (now : ℕ) → Body
  not_atomic : (keys : ℕ) → Body
  not_array : Body
  too_many_chunks : (at : ℕ) → Body
  store_failed : (event : ℕ) → (done : List ℕ) → (events : Option (List ℕ)) → Body
  damaged : (key : Key) → (cause : Damage) → Body
  memory : Body

-- the answer to the line of a number
pub record Answer : Type 0 where
  pub line : ℕ
  pub body : Body
