-- The view of a whole array.
use Rattle.std.specs.Prelude.{ℕ, pos, ◌-ℤ◌, [], map, Bool, false, not}
use Rattle.transform_composition.specs.Bounds.{Bounds}
use Rattle.transform_composition.specs.Identity.{identity_over}
use Rattle.transform_composition.specs.declared.Domain.{Domain}
use Rattle.stack_driver.specs.References.{Reference}
use Rattle.stack_driver.specs.declared.view.View.{View}
use Rattle.stack_driver.specs.declared.view.View.TheVariants as view

-- the indices of a dimension of an array: from 0 on, and below the size; the upper bound is implicit where a store holds the array
abbrev pub array_dim : Bool → ℕ → Bounds
array_dim local size = record { lo = pos 0; hi = pos size -ℤ pos 1; lo_implicit = false; hi_implicit = not local }

-- an array's domain has no labels
abbrev pub array_domain : Reference → Domain
array_domain r = record { dims = map (array_dim r.local) r.shape; labels = map (λ size. []) r.shape }

-- an array seen as it is
abbrev pub whole_view : Reference → View
whole_view r = view.Leaf r (identity_over (array_domain r))
