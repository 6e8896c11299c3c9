-- Views joined: laid over one another, put behind one another along an axis, or beside one another along a new dimension.
use Rattle.std.specs.Prelude.{◌≡◌, ◌<◌, Bool, true, false, ℕ, ℤ, pos, negsuc, List, length, map, slice_get, slice_index_or, Option, Some, None, Result, Ok, Err, if◌then◌else◌}
use Rattle.std.specs.List.{zip, remove}
use Rattle.index_intervals.specs.Bounds.{are_bounds}
use Rattle.index_transform.specs.Identity.{identity_over}
use Rattle.index_transform.specs.declared.domain.Domain.{Domain}
use Rattle.stack_driver.specs.Stacks.{stacked_domain}
use Rattle.stack_driver.specs.Targets.{Target, has_index}
use Rattle.stack_driver.specs.Views.{Look, look_of, last_target, own_transform, target_of}
use Rattle.stack_driver.specs.declared.error.TargetError.{TargetError}
use Rattle.stack_driver.specs.declared.error.TargetError.TheVariants.{Uncovered}
use Rattle.stack_driver.specs.declared.view.View.{View}
use Rattle.stack_driver.specs.declared.view.View.TheVariants as view
use Rattle.layer_join.specs.Slid.{along, slid_look, slid_view, shifts}
use Rattle.layer_join.specs.Placed.{from_on, with_axis, placed_from}
use Rattle.layer_join.specs.Refusals.{unlike_refusal, concat_refusal, stack_refusal}
use Rattle.layer_join.specs.declared.error.JoinError.{JoinError}

-- how views are joined
pub data Join : Type 0 where
  overlay : Join
  concat : (axis : ℕ) → Join
  stack : (axis : ℕ) → Join

-- the views, each moved by its shift along the axis
abbrev pub moved_layers : ℕ → List View → List View
moved_layers axis layers = map (λ p. slid_view axis p.0 p.1) (zip (shifts axis layers) layers)

-- the same from outside
abbrev pub moved_looks : ℕ → List View → List Look
moved_looks axis layers = map (λ p. slid_look axis p.0 (look_of p.1)) (zip (shifts axis layers) layers)

-- the domain of joined views: the least around theirs, around those of the moved ones, or with a new dimension that has an
-- index for each view
abbrev pub joined_domain : Join → List View → Domain
joined_domain overlay layers = stacked_domain layers
joined_domain (concat axis) layers = stacked_domain (moved_layers axis layers)
joined_domain (stack axis) layers = with_axis axis (from_on (pos 0) (length layers)) (stacked_domain layers)

-- the target in a view, where its domain has the index vector
abbrev pub target_within : Option View → List ℤ → Result Target TargetError
target_within None index = Err Uncovered
target_within (Some v) index = if has_index (look_of v).dims index then target_of v index else Err Uncovered

-- the view at a place, if there is one
abbrev pub view_at : List View → ℤ → Option View
view_at layers (pos place) = slice_get layers place
view_at layers (negsuc place) = None

-- where a cell of joined views lies: in the last view that has it; in the moved view that has it, with the shift taken off; or
-- in the view that the index along the new dimension numbers, at the other indices
abbrev pub joined_target : Join → List View → List ℤ → Result Target TargetError
joined_target overlay layers index = last_target (map look_of layers) index (Err Uncovered)
joined_target (concat axis) layers index = last_target (moved_looks axis layers) index (Err Uncovered)
joined_target (stack axis) layers index = target_within (view_at layers (slice_index_or index axis (pos 0))) (remove index axis)

-- the views that a join stacks
abbrev pub joined_layers : Join → List View → List View
joined_layers overlay layers = layers
joined_layers (concat axis) layers = moved_layers axis layers
joined_layers (stack axis) layers = placed_from 0 axis layers

-- why the views aren't joined
abbrev pub join_refusal : Join → List View → Option JoinError
join_refusal overlay layers = unlike_refusal layers
join_refusal (concat axis) layers = concat_refusal axis layers
join_refusal (stack axis) layers = stack_refusal axis layers

abbrev pub unless_refused : Option JoinError → View → Result View JoinError
unless_refused None v = Ok v
unless_refused (Some e) v = Err e

-- the joined views, or why they aren't joined
abbrev pub join_answer : Join → List View → Result View JoinError
join_answer form layers = unless_refused (join_refusal form layers) (view.Stack (joined_layers form layers) (identity_over (joined_domain form layers)))

-- a view has the domain of joined views, and each index vector of its rank has their target
pub record IsJoined (form : Join) (layers : List View) (v : View) : Type 0 where
  pub domain : (own_transform v).domain ≡ joined_domain form layers
  pub targets : (index : List ℤ) → length index ≡ length (joined_domain form layers).dims → target_of v index ≡ joined_target form layers index

-- the bounds of the view's interval on the axis are in order
abbrev pub is_ordered_along : ℕ → View → Bool
is_ordered_along axis v = are_bounds (along axis v)

-- no two of the moved views have a cell in common
abbrev pub AreApart : ℕ → List View → Type 0
AreApart axis layers =
    (j k : ℕ) → j < k → k < length layers → (index : List ℤ) (d : Look)
    → has_index (slice_index_or (moved_looks axis layers) j d).dims index ≡ true
    → has_index (slice_index_or (moved_looks axis layers) k d).dims index ≡ false
