-- The view of a plan's tree over arrays.
use Rattle.std.specs.Prelude.{ℕ, List, [], ◌∷◌, codes, slice_index_or, true, Option, Some, None, Result, Ok, Err, if◌then◌else◌}
use Rattle.cells.specs.declared.dtype.Dtype.{Dtype}
use Rattle.cells.specs.declared.dtype.Dtype.TheVariants.{I32}
use Rattle.spec_forms.specs.FormWants.{same_dtype}
use Rattle.index_transform.specs.Transforms.{DomainAndMaps}
use Rattle.transform_composition.specs.declared.error.ComposeError.{ComposeError}
use Rattle.stack_driver.specs.Arrays.{whole_view}
use Rattle.stack_driver.specs.Changes.{moved}
use Rattle.stack_driver.specs.References.{Reference}
use Rattle.stack_driver.specs.Stacks.{stack_answer}
use Rattle.stack_driver.specs.Views.{look_of}
use Rattle.stack_driver.specs.declared.error.StackError.{StackError}
use Rattle.stack_driver.specs.declared.view.View.{View}
use Rattle.stack_driver.specs.declared.view.View.TheVariants as view
use Rattle.spec_open.specs.declared.error.BuildCause.TheVariants.{Transform, Layers}
use Rattle.spec_open.specs.declared.error.BuildError.{BuildError}
use Rattle.spec_open.specs.declared.error.BuildError.TheVariants.{Refused}
use Rattle.spec_open.specs.declared.tree.Tree.{Tree, fold-Tree}
use Rattle.spec_open.specs.declared.tree.Tree.TheOpen.{Tree-F}
use Rattle.spec_forms.specs.Faults.{joined}

abbrev pub composed_at : List ℕ → Result View ComposeError → Result View BuildError
composed_at at (Ok v) = Ok v
composed_at at (Err cause) = Err (Refused (joined at (codes "transform")) (Transform cause))

-- a view seen through the transform of the node at a path, if it has one
abbrev pub through : List ℕ → Option DomainAndMaps → View → Result View BuildError
through at None v = Ok v
through at (Some t) v = composed_at at (moved v t)

abbrev pub through_if : List ℕ → Option DomainAndMaps → Result View BuildError → Result View BuildError
through_if at transform (Ok v) = through at transform v
through_if at transform (Err e) = Err e

abbrev pub cast_if : Dtype → Result View BuildError → Result View BuildError
cast_if to (Ok v) = Ok (view.Cast to v)
cast_if to (Err e) = Err e

abbrev pub before : View → Result (List View) BuildError → Result (List View) BuildError
before v (Ok vs) = Ok (v ∷ vs)
before v (Err e) = Err e

-- all of some views, or the first refusal
abbrev pub all_built : List (Result View BuildError) → Result (List View) BuildError
all_built [] = Ok []
all_built (Ok v ∷ rest) = before v (all_built rest)
all_built (Err e ∷ rest) = Err e

-- a view of the dtype that its Spec names, if it names one
abbrev pub of_dtype : List ℕ → Option Dtype → View → Result View BuildError
of_dtype at None v = Ok v
of_dtype at (Some dtype) v = if same_dtype dtype (look_of v).dtype then Ok v else Err (Refused at Layers)

abbrev pub stacked_at : List ℕ → Option Dtype → Result View StackError → Result View BuildError
stacked_at at dtype (Ok v) = of_dtype at dtype v
stacked_at at dtype (Err e) = Err (Refused at Layers)

abbrev pub stacked_if : List ℕ → Option Dtype → Result (List View) BuildError → Result View BuildError
stacked_if at dtype (Ok views) = stacked_at at dtype (stack_answer views)
stacked_if at dtype (Err e) = Err e

-- what stands where there is no array
abbrev pub no_array : Reference
no_array = record { number = 0; dtype = I32; shape = []; chunk = []; local = true }

abbrev pub built_step : List Reference → Tree-F (Result View BuildError) → Result View BuildError
built_step arrays (Tree-F.Leaf leaf transform at) = through at transform (whole_view (slice_index_or arrays leaf no_array))
built_step arrays (Tree-F.Cast to base transform at) = through_if at transform (cast_if to base)
built_step arrays (Tree-F.Stack layers dtype transform at) = through_if at transform (stacked_if at dtype (all_built layers))

-- the view of a tree over the arrays of its leaves, or the first node that is refused, from the leaves up and from left to right
abbrev pub built : List Reference → Tree → Result View BuildError
built arrays = fold-Tree (Result View BuildError) (built_step arrays)
