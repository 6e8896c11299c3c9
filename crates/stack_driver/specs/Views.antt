-- A view from outside: its domain, its dtype, and the target of each of its cells.
use Rattle.std.specs.Prelude.{ℕ, ℤ, List, [], ◌∷◌, ◌++◌, map, Result, Ok, Err, if◌then◌else◌}
use Rattle.cast_driver.specs.declared.Dtype.{Dtype}
use Rattle.cast_driver.specs.declared.Dtype.TheVariants.{I32}
use Rattle.cast_driver.specs.declared.cast.Cast.{Cast}
use Rattle.transform_composition.specs.Bounds.{Bounds}
use Rattle.transform_composition.specs.Transforms.{DomainAndMaps}
use Rattle.transform_composition.specs.Values.{value_at}
use Rattle.transform_composition.specs.Cells.{cells_of}
use Rattle.stack_driver.specs.References.{Reference}
use Rattle.stack_driver.specs.Targets.{Target, in_shape, has_index}
use Rattle.stack_driver.specs.declared.error.TargetError.{TargetError}
use Rattle.stack_driver.specs.declared.error.TargetError.TheVariants.{OutOfRange, Uncovered}
use Rattle.stack_driver.specs.declared.view.View.{View, fold-View}
use Rattle.stack_driver.specs.declared.view.View.TheOpen.{View-F}

-- what is known of a view from outside
pub record Look : Type 0 where
  pub dims : List Bounds
  pub dtype : Dtype
  pub target : List ℤ → Result Target TargetError

-- a leaf's target is the array at the transform's value
abbrev pub leaf_target : Reference → Result (List ℕ) ℕ → Result Target TargetError
leaf_target array (Ok index) = Ok (record { cell = record { array = array.number; index = index }; casts = [] })
leaf_target array (Err dim) = Err (OutOfRange dim)

-- a cast's target is its base's with one cast more
abbrev pub cast_target : Cast → Result Target TargetError → Result Target TargetError
cast_target c (Ok t) = Ok (record t { casts = t.casts ++ c ∷ [] })
cast_target c (Err fault) = Err fault

-- a stack's target is that of the last layer whose domain has the index vector
abbrev pub last_target : List Look → List ℤ → Result Target TargetError → Result Target TargetError
last_target [] x found = found
last_target (l ∷ ls) x found = last_target ls x (if has_index l.dims x then l.target x else found)

abbrev pub layers_dtype : List Look → Dtype
layers_dtype [] = I32
layers_dtype (l ∷ ls) = l.dtype

abbrev pub look_step : View-F Look → Look
look_step (View-F.Leaf array t) = record { dims = t.domain.dims; dtype = array.dtype; target = λ x. leaf_target array (in_shape 0 (value_at t x) array.shape) }
look_step (View-F.Cast to base) = record { dims = base.dims; dtype = to; target = λ x. cast_target (record { from = base.dtype; to = to }) (base.target x) }
look_step (View-F.Stack layers t) = record { dims = t.domain.dims; dtype = layers_dtype layers; target = λ x. last_target layers (value_at t x) (Err Uncovered) }

abbrev pub look_of : View → Look
look_of = fold-View Look look_step

-- where a view's cell lies, or why it lies nowhere
abbrev pub target_of : View → List ℤ → Result Target TargetError
target_of v = (look_of v).target

abbrev pub targets_in : Look → List (Result Target TargetError)
targets_in l = map l.target (cells_of l.dims)

-- the targets of a view's cells, in C order of its domain
unfoldable pub targets_of : View → List (Result Target TargetError)
targets_of v = targets_in (look_of v)

abbrev pub own_transform_step : View-F DomainAndMaps → DomainAndMaps
own_transform_step (View-F.Leaf array t) = t
own_transform_step (View-F.Cast to base) = base
own_transform_step (View-F.Stack layers t) = t

-- a leaf's or a stack's own transform, a cast's base's
abbrev pub own_transform : View → DomainAndMaps
own_transform = fold-View DomainAndMaps own_transform_step
