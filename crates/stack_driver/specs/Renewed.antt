-- A view with the bounds that its array has when it takes a new shape.
use Rattle.std.specs.Prelude.{◌≡◌, ℕ, ◌+◌, ◌==◌, Bool, false, if◌then◌else◌, IsTrue, List, [], ◌∷◌, length, Option, Some, None, Result, Ok, Err}
use Rattle.std.specs.List.{list_any}
use Rattle.cast_driver.specs.Shapes.{IsShape}
use Rattle.cast_driver.specs.declared.Dtype.{Dtype}
use Rattle.transform_composition.specs.Bounds.{Bounds}
use Rattle.transform_composition.specs.Members.{effective_bounds}
use Rattle.transform_composition.specs.Transforms.{DomainAndMaps, on_dims}
use Rattle.transform_composition.specs.declared.OutMap.{OutMap}
use Rattle.transform_composition.specs.declared.OutMap.TheVariants.{Constant, Strided, Indexed}
use Rattle.transform_composition.specs.Tightening.{tighten_answer}
use Rattle.transform_composition.specs.declared.error.ComposeError.{ComposeError}
use Rattle.stack_driver.specs.Arrays.{array_domain}
use Rattle.stack_driver.specs.References.{Reference}
use Rattle.stack_driver.specs.declared.error.RenewError.{RenewError}
use Rattle.stack_driver.specs.declared.error.RenewError.TheVariants.{NotArray, Refused}
use Rattle.stack_driver.specs.declared.view.View.{View, fold-View}
use Rattle.stack_driver.specs.declared.view.View.TheOpen.{View-F}
use Rattle.stack_driver.specs.declared.view.View.TheVariants as view

-- the array of a leaf, through casts
abbrev pub array_step : View-F (Option Reference) → Option Reference
array_step (View-F.Leaf array t) = Some array
array_step (View-F.Cast to base) = base
array_step (View-F.Stack layers t) = None

abbrev pub array_of : View → Option Reference
array_of = fold-View (Option Reference) array_step

-- a shape that the array may take: of its rank, and its own where the run holds it
pub record IsNewShape (r : Reference) (shape : List ℕ) : Type 0 where
  pub sizes : IsShape shape
  pub ranks : length shape ≡ length r.shape
  pub same : IsTrue r.local → shape ≡ r.shape

-- the view is no leaf through casts, or its array may take the shape
abbrev pub MayRenew : View → List ℕ → Type 0
MayRenew v shape = (r : Reference) → array_of v ≡ Some r → IsNewShape r shape

abbrev pub reshaped : List ℕ → Reference → Reference
reshaped shape r = record r { shape = shape }

-- a strided map goes from the dimension
abbrev pub goes_from : ℕ → OutMap → Bool
goes_from dim (Constant offset) = false
goes_from dim (Strided offset stride from) = from == dim
goes_from dim (Indexed offset stride sizes entries) = false

-- each implicit bound of a dimension from which a strided map goes, made infinite
abbrev pub opened_dims : ℕ → List Bounds → List OutMap → List Bounds
opened_dims k [] maps = []
opened_dims k (dim ∷ dims) maps = (if list_any (goes_from k) maps then effective_bounds dim else dim) ∷ opened_dims (k + 1) dims maps

abbrev pub opened : DomainAndMaps → DomainAndMaps
opened t = on_dims t (opened_dims 0 t.domain.dims t.maps)

abbrev pub leaf_of : Reference → Result DomainAndMaps ComposeError → Result View RenewError
leaf_of r (Ok t) = Ok (view.Leaf r t)
leaf_of r (Err cause) = Err (Refused cause)

-- an array of another shape, under the transform that is opened and then tightened by the array's domain
abbrev pub leaf_renewed : List ℕ → Reference → DomainAndMaps → Result View RenewError
leaf_renewed shape r t = leaf_of (reshaped shape r) (tighten_answer (opened t) (array_domain (reshaped shape r)))

abbrev pub cast_renewed : Dtype → Result View RenewError → Result View RenewError
cast_renewed to (Ok base) = Ok (view.Cast to base)
cast_renewed to (Err e) = Err e

abbrev pub renew_step : List ℕ → View-F (Result View RenewError) → Result View RenewError
renew_step shape (View-F.Leaf array t) = leaf_renewed shape array t
renew_step shape (View-F.Cast to base) = cast_renewed to base
renew_step shape (View-F.Stack layers t) = Err NotArray

-- the view of an array that has another shape; what is no leaf through casts has none
abbrev pub renewed : List ℕ → View → Result View RenewError
renewed shape = fold-View (Result View RenewError) (renew_step shape)
