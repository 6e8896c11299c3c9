-- What a Spec asks to be opened.
use Rattle.std.specs.Prelude.{ℕ, suc, List, [], ◌∷◌, nat_le, nat_eq, length, Option, Some, None, unwrap_or, Result, Ok, Err, if◌then◌else◌}
use Rattle.line_answers.specs.declared.Want.TheVariants as want
use Rattle.stack_driver.specs.declared.view.View.{View}
use Rattle.line_forms.specs.declared.SpecLeaf as spec_leaf
use Rattle.line_forms.specs.declared.SpecLeaf.TheVariants as spec
use Rattle.line_forms.specs.Built.{built}
use Rattle.line_forms.specs.declared.BuildCause as build_causes
use Rattle.line_forms.specs.declared.BuildCause.TheVariants as build
use Rattle.line_forms.specs.declared.BuildError.{BuildError}
use Rattle.line_forms.specs.declared.BuildError.TheVariants as error
use Rattle.line_forms.specs.declared.OpenPlan.{OpenPlan}
use Rattle.line_forms.specs.declared.Tree.{Tree, fold-Tree}
use Rattle.line_forms.specs.declared.Tree.TheOpen.{Tree-F}
use Rattle.line_answers.specs.Answers.{Text, BuildCause, by_transform, layers}
use Rattle.line_answers.specs.Lines.{SpecLeaf, given, stored, Build}

-- a leaf of the node at a path: numbers of its own, or an array that is asked of a store
abbrev pub leaf_of : Text → spec_leaf.SpecLeaf → SpecLeaf
leaf_of node (spec.Zarr mount path asked may_open may_create) = stored node (record { mount = mount; path = path; want = want.Zarr asked; may_open = may_open; may_create = may_create })
leaf_of node (spec.N5 mount path asked may_open may_create) = stored node (record { mount = mount; path = path; want = want.N5 asked; may_open = may_open; may_create = may_create })
leaf_of node (spec.Zarr3 mount path asked may_open may_create) = stored node (record { mount = mount; path = path; want = want.Zarr3 asked; may_open = may_open; may_create = may_create })
leaf_of node (spec.Given numbers) = given numbers

-- the first path that there is
abbrev pub first_path : List (Option Text) → Option Text
first_path [] = None
first_path (Some path ∷ paths) = Some path
first_path (None ∷ paths) = first_path paths

-- the same for one node, from its parts
abbrev pub node_step : ℕ → Tree-F (Option Text) → Option Text
node_step number (Tree-F.Leaf leaf transform at) = if nat_eq leaf number then Some at else None
node_step number (Tree-F.Cast to base transform at) = base
node_step number (Tree-F.Stack paths dtype transform at) = first_path paths

-- the path of the node whose leaf has a number, if there is one
abbrev pub node_of : ℕ → Tree → Option Text
node_of number = fold-Tree (Option Text) (node_step number)

-- leaves from this number on, each of its node
abbrev pub leaves_from : Tree → ℕ → List spec_leaf.SpecLeaf → List SpecLeaf
leaves_from tree number [] = []
leaves_from tree number (leaf ∷ leaves) = leaf_of (unwrap_or (node_of number tree) []) leaf ∷ leaves_from tree (suc number) leaves

-- what a plan asks to be opened, from left to right
abbrev pub leaves_of : OpenPlan → List SpecLeaf
leaves_of plan = leaves_from plan.tree 0 plan.leaves

-- why a node isn't built
abbrev pub build_cause_of : build_causes.BuildCause → BuildCause
build_cause_of (build.Transform cause) = by_transform cause
build_cause_of build.Layers = layers

-- no node is refused for want of memory
abbrev pub refusal_of : BuildError → Text × BuildCause
refusal_of (error.Refused path cause) = (path, build_cause_of cause)
refusal_of error.Memory = ([], layers)

abbrev pub by_built : Result View BuildError → Result View (Text × BuildCause)
by_built (Ok view) = Ok view
by_built (Err e) = Err (refusal_of e)

-- the view of a plan's tree, where there is an array for each leaf
abbrev pub build_of : OpenPlan → Build
build_of plan arrays = if nat_le (length plan.leaves) (length arrays) then by_built (built arrays plan.tree) else Err ([], layers)
