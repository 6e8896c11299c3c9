-- A command, with what its parts are.
use Rattle.std.specs.Prelude.{◌<◌, ◌≤◌, ℕ, List, length, Bool, Option, Some, None}
use Rattle.std.specs.List.{All, AllByRecursion}
use Rattle.serde_json.specs.Data.{Data}
use Rattle.serde_json.specs.View.{view}
use Rattle.cells.specs.Shapes.{IsShape}
use Rattle.index_transform.specs.Transforms.{DomainAndMaps}
use Rattle.step_forms.specs.Given.{IsGiven}
use Rattle.step_forms.specs.declared.act.Step.{Step}
use Rattle.spec_open.specs.Conditions.{IsSoundPlan}
use Rattle.spec_open.specs.declared.plan.OpenPlan.{OpenPlan}
use Rattle.downsample_view.specs.Groups.{IsFactor}
use Rattle.line_forms.specs.declared.command.Command.{Command}
use Rattle.line_forms.specs.declared.command.Command.TheVariants.{Open, View, Join, Read, Write, Begin, Commit, Abort, Resize, Resolve}
use Rattle.line_forms.specs.declared.command.DownWant.{DownWant}
use Rattle.line_forms.specs.declared.command.JoinForm.{JoinForm}

-- what a line asks for
pub data Form : Type 0 where
  opening : (name : List ℕ) → (plan : OpenPlan) → Form
  viewing : (name of : List ℕ) → (transform : Option DomainAndMaps) → (steps : List Step) → Form
  joining : (name : List ℕ) → (form : JoinForm) → (layers : List (List ℕ)) → (transform : Option DomainAndMaps) → (steps : List Step) → Form
  reading : (name : List ℕ) → (steps : List Step) → (down : Option DownWant) → Form
  writing : (name : List ℕ) → (steps : List Step) → (values : Data) → Form
  beginning : (atomic repeatable_read : Bool) → Form
  committing : Form
  aborting : Form
  resizing : (name shape : List ℕ) → Form
  resolving : (name : List ℕ) → Form

-- a command as a form: its values as data
abbrev pub form_of : Command → Form
form_of (Open name plan) = opening name plan
form_of (View name of transform steps) = viewing name of transform steps
form_of (Join name form layers transform steps) = joining name form layers transform steps
form_of (Read name steps down) = reading name steps down
form_of (Write name steps values) = writing name steps (view values)
form_of (Begin atomic repeatable_read) = beginning atomic repeatable_read
form_of Commit = committing
form_of Abort = aborting
form_of (Resize name shape) = resizing name shape
form_of (Resolve name) = resolving name

-- 1 to 256 views
abbrev pub AreLayers : List (List ℕ) → Type 0
AreLayers layers = (0 < length layers) × (length layers ≤ 256)

-- each factor may be one of a downsampled read
abbrev pub HasFactors : DownWant → Type 0
HasFactors down = AllByRecursion IsFactor down.factors

-- the same, where a read is downsampled
abbrev pub MayHaveFactors : Option DownWant → Type 0
MayHaveFactors None = Unit {0}
MayHaveFactors (Some down) = HasFactors down

-- of a command that opens nothing: what is done with it may rest on this
abbrev pub IsSoundOther : Command → Type 0
IsSoundOther (Open name plan) = ⊥
IsSoundOther (View name of transform steps) = All IsGiven steps
IsSoundOther (Join name form layers transform steps) = All IsGiven steps × AreLayers layers
IsSoundOther (Read name steps down) = All IsGiven steps × MayHaveFactors down
IsSoundOther (Write name steps values) = All IsGiven steps
IsSoundOther (Begin atomic repeatable_read) = Unit {0}
IsSoundOther Commit = Unit {0}
IsSoundOther Abort = Unit {0}
IsSoundOther (Resize name shape) = IsShape shape
IsSoundOther (Resolve name) = Unit {0}

-- what is done with a command may rest on this, where these are the names of mounts
abbrev pub IsSound : List (List ℕ) → Command → Type 0
IsSound names (Open name plan) = IsSoundPlan names plan
IsSound names other = IsSoundOther other
