-- Stacks of views: their domain, and which views stack.
use Rattle.std.specs.Prelude.{ℕ, ◌+◌, ◌==◌, not, ◌&&◌, Bool, List, [], ◌∷◌, length, map, slice_index_or, Option, Some, None, Result, Ok, Err, if◌then◌else◌, ◌≡◌, ℤ}
use Rattle.std.specs.List.{list_all, position_from}
use Rattle.std.specs.Str.{bytes_eq}
use Rattle.cast_driver.specs.DtypeNames.{dtype_name}
use Rattle.transform_composition.specs.Bounds.{Bounds}
use Rattle.transform_composition.specs.Around.{around_all}
use Rattle.transform_composition.specs.Identity.{identity_over}
use Rattle.transform_composition.specs.declared.Domain.{Domain}
use Rattle.stack_driver.specs.Views.{look_of, own_transform, target_of, last_target}
use Rattle.stack_driver.specs.declared.error.TargetError.TheVariants.{Uncovered}
use Rattle.stack_driver.specs.declared.error.StackError.{StackError}
use Rattle.stack_driver.specs.declared.error.StackError.TheVariants.{Layers}
use Rattle.stack_driver.specs.declared.view.View.{View}
use Rattle.stack_driver.specs.declared.view.View.TheVariants as view

-- the views' intervals along a dimension, in which the first one's stands where a view has no such dimension
abbrev pub column : ℕ → Bounds → List View → List Bounds
column k dim layers = map (λ v. slice_index_or (look_of v).dims k dim) layers

-- along each dimension of the first view, the least interval around those of all
abbrev pub stacked_dims : ℕ → List Bounds → List View → List Bounds
stacked_dims k [] layers = []
stacked_dims k (dim ∷ dims) layers = around_all (column k dim layers) ∷ stacked_dims (k + 1) dims layers

-- the view has this label along a dimension
abbrev pub has_label : ℕ → List ℕ → View → Bool
has_label k label v = bytes_eq (slice_index_or (own_transform v).domain.labels k []) label

-- along each dimension the first view's label, where all views have it, else none
abbrev pub stacked_labels : ℕ → List (List ℕ) → List View → List (List ℕ)
stacked_labels k [] layers = []
stacked_labels k (label ∷ labels) layers = (if list_all (has_label k label) layers then label else []) ∷ stacked_labels (k + 1) labels layers

abbrev pub stacked_domain : List View → Domain
stacked_domain [] = record { dims = []; labels = [] }
stacked_domain (v ∷ vs) = record { dims = stacked_dims 0 (look_of v).dims (v ∷ vs); labels = stacked_labels 0 (own_transform v).domain.labels (v ∷ vs) }

-- a view of another dtype or rank than the first
abbrev pub is_like : View → View → Bool
is_like v w = bytes_eq (dtype_name (look_of w).dtype) (dtype_name (look_of v).dtype) && length (look_of w).dims == length (look_of v).dims

abbrev pub first_unlike : List View → Option ℕ
first_unlike [] = None
first_unlike (v ∷ vs) = position_from (λ w. not (is_like v w)) 0 (v ∷ vs)

abbrev pub unless_unlike : Option ℕ → List View → Result View StackError
unless_unlike (Some layer) layers = Err (Layers layer)
unless_unlike None layers = Ok (view.Stack layers (identity_over (stacked_domain layers)))

-- the stack of the views over its own domain, or the first that isn't like the first one
abbrev pub stack_answer : List View → Result View StackError
stack_answer layers = unless_unlike (first_unlike layers) layers

-- the view's cell at an index vector is that of the last of some views whose domain has it
abbrev pub HasLastTargets : View → List View → Type 0
HasLastTargets v layers = (index : List ℤ) → length index ≡ length (look_of v).dims → target_of v index ≡ last_target (map look_of layers) index (Err Uncovered)
