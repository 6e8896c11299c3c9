-- The leaves of a Spec as they are asked of the state.
use Rattle.std.specs.Prelude.{◌≡◌, ◌≤◌, ◌^◌, ◌⊎◌, ℕ, List, map, max, Option}
use Rattle.std.specs.List.{AllByRecursion}
use Rattle.array_homes.specs.declared.read.MetaCause.{MetaCause}
use Rattle.array_homes.specs.declared.read.MetaCause.TheVariants as cause
use Rattle.cells.specs.Places.{cell_count}
use Rattle.history.specs.Answers.{Text}
use Rattle.history.specs.Legal.{IsMount}
use Rattle.history.specs.Lines.{SpecLeaf, given, stored}
use Rattle.meta_forms.specs.declared.error.MetaError.{MetaError}
use Rattle.session_openings.specs.declared.leaves.Wanted.{Wanted}
use Rattle.session_openings.specs.declared.leaves.Wanted.TheVariants.{Stored, Given}
use Rattle.sessions.specs.Asked.{asked_leaf}
use Rattle.spec_open.specs.Conditions.{IsSoundPlan}
use Rattle.spec_open.specs.declared.plan.OpenPlan.{OpenPlan}
use Rattle.sessions.specs.Agreement.{TakesMount}

-- it as a leaf of the node at a path
abbrev pub wanted_leaf : Text → Wanted → SpecLeaf
wanted_leaf node (Stored asked) = stored node (asked_leaf asked)
wanted_leaf node (Given start) = given start

-- why bytes are no metadata, whatever the format
abbrev pub cause_in : MetaCause → MetaError
cause_in (cause.Zarr why) = why
cause_in (cause.N5 why) = why

-- a leaf that the state may be asked to open: on a mount whose keys the store takes, or with few numbers
abbrev pub MayBeAsked : Option (List (List ℕ)) → SpecLeaf → Type 0
MayBeAsked names (stored node leaf) = IsMount leaf.mount × TakesMount names leaf.mount
MayBeAsked names (given numbers) = cell_count (map (max 1) numbers.shape) ≤ 2 ^ 22

-- a plan whose mounts have valid names, and keys that the store takes
pub record MayOpen (names : Option (List (List ℕ))) (plan : OpenPlan) : Type 0 where
  pub mounts : List Text
  pub sound : IsSoundPlan mounts plan
  pub valid : AllByRecursion IsMount mounts
  pub taken : AllByRecursion (TakesMount names) mounts
