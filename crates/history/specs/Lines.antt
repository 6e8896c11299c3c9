-- A line of a script whose form was read. What a part of it means stands for the part: a step is what it makes of a view.
use Rattle.std.specs.Prelude.{ℕ, ℤ, List, [], ◌∷◌, ◌++◌, codes, Option, Result, if◌then◌else◌}
use Rattle.std.specs.Str.{bytes_eq}
use Rattle.cells.specs.Dense.{DenseCells}
use Rattle.cells.specs.declared.dtype.Dtype.{Dtype}
use Rattle.stack_driver.specs.Bounds.{Bounds}
use Rattle.stack_driver.specs.declared.ComposeError.{ComposeError}
use Rattle.stack_driver.specs.References.{Reference}
use Rattle.stack_driver.specs.declared.view.View.{View}
use Rattle.history.specs.declared.event.Mode.{Mode}
use Rattle.history.specs.Answers.{Text, StepCause, BuildCause, JoinCause}
use Rattle.history.specs.Leaves.{Leaf}

-- why a line has no form
pub data FormError : Type 0 where
  bad_line : (text : Text) → FormError
  bad_spec : (path : Text) → FormError
  unsupported : (path : Text) → FormError
  bad_step : (step : ℕ) → FormError

-- why a transform or a step doesn't go with a view
pub data ChangeError : Type 0 where
  unknown_dim : (step : ℕ) → ChangeError
  repeated_dim : (step : ℕ) → ChangeError
  refused_step : (step : ℕ) → (cause : StepCause) → ChangeError
  refused_view : (cause : ComposeError) → ChangeError

-- a line's transform, or one of its steps: the view that it makes of a view, or why it refuses it
abbrev pub Change : Type 0
Change = View → Result View ChangeError

-- the values of a write: a word for each cell of a shape, in C order, or the path of the first that doesn't fit
abbrev pub Values : Type 0
Values = Dtype → List ℕ → Result (List ℕ) (List ℕ)

-- numbers as they are printed: where they begin, along how many indices, and a word for each
pub record Printed : Type 0 where
  pub origin : List ℤ
  pub shape : List ℕ
  pub words : List ℕ

-- how a read is downsampled: for so many dimensions, and what is printed of a domain's words
pub record Downsampling : Type 0 where
  pub rank : ℕ
  pub printed : List Bounds → Dtype → List ℕ → Printed

-- a leaf of a Spec: an array with numbers of its own, or a stored one, which the node at a path of the Spec asks for
pub data SpecLeaf : Type 0 where
  given : (numbers : DenseCells) → SpecLeaf
  stored : (node : Text) → (leaf : Leaf) → SpecLeaf

-- where a Spec names a member of an array: its dtype by itself, each other below the metadata
abbrev pub named_at : Text → Text
named_at member = if bytes_eq member (codes "dtype") then member else codes "metadata/" ++ member

-- the same behind the path of the Spec's node
abbrev pub member_of_node : Text → Text → Text
member_of_node [] member = named_at member
member_of_node (c ∷ node) member = c ∷ node ++ 47 ∷ named_at member

-- the view over the arrays of a Spec's leaves, or the node that is refused
abbrev pub Build : Type 0
Build = List Reference → Result View (Text × BuildCause)

-- the view that some views are joined to, or why they aren't
abbrev pub Join : Type 0
Join = List View → Result View JoinCause

-- what a line asks for, by its command, or why it has no form
pub data Line : Type 0 where
  refused : (error : FormError) → Line
  opening : (name : Text) → (leaves : List SpecLeaf) → (build : Build) → Line
  viewing : (name of : Text) → (changes : List Change) → Line
  joining : (name : Text) → (of : List Text) → (join : Join) → (changes : List Change) → Line
  reading : (name : Text) → (changes : List Change) → (down : Option Downsampling) → Line
  writing : (name : Text) → (changes : List Change) → (values : Values) → Line
  beginning : (mode : Mode) → Line
  committing : Line
  aborting : Line
  resizing : (name : Text) → (shape : List ℕ) → Line
  resolving : (name : Text) → Line
