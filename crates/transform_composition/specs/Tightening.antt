-- A domain tightened by the intervals that its outputs go into.
use Rattle.std.specs.Prelude.{ℕ, ◌+◌, ◌==◌, ℤ, pos, ◌-ℤ◌, Bool, false, not, ◌&&◌, ◌||◌, if◌then◌else◌, List, [], ◌∷◌, length, Option, Some, None, unwrap_or, slice_index_or, Result, Ok, Err}
use Rattle.std.specs.Option.{option_map}
use Rattle.std.specs.List.{zip, position_from}
use Rattle.std.specs.Ordering.{int_eq}
use Rattle.index_transform.specs.Bounds.{Bounds, is_index}
use Rattle.index_transform.specs.declared.map.OutMap.{OutMap}
use Rattle.index_transform.specs.declared.map.OutMap.TheVariants.{Constant, Strided, Indexed}
use Rattle.index_transform.specs.declared.Edge.{Edge}
use Rattle.transform_composition.specs.declared.error.ComposeError.{ComposeError}
use Rattle.transform_composition.specs.declared.error.ComposeError.TheVariants.{Rank, Overflow, Outside}
use Rattle.index_transform.specs.declared.domain.Domain.{Domain}
pub use Rattle.index_transform.specs.Transforms.{DomainAndMaps, on_dims}
use Rattle.index_transform.specs.Edges.{lower_edge, upper_edge, preimage}
use Rattle.index_transform.specs.Meet.{bounds_met, cross, met_all}
use Rattle.index_transform.specs.declared.Ends.{Ends}
pub use Rattle.index_transform.specs.Bounds.{is_ordered, are_bounds}
pub use Rattle.index_transform.specs.Edges.{is_open, interval_of}
pub use Rattle.index_transform.specs.Meet.{greater_at, greater_edge, lesser_at, lesser_edge}
use Rattle.transform_composition.specs.Inside.{first_outside_by}

-- what the outer intervals are along one dimension, under the strided maps from it; with `preimage` their pre-images
abbrev pub preimages_at : {E : Type 0} → (Bounds → ℤ → ℤ → E) → ℕ → Bounds → OutMap → List E → List E
preimages_at side dim outer (Constant offset) more = more
preimages_at side dim outer (Strided offset stride from) more = if from == dim then side outer offset stride ∷ more else more
preimages_at side dim outer (Indexed offset stride sizes entries) more = more

abbrev pub preimages : {E : Type 0} → (Bounds → ℤ → ℤ → E) → ℕ → List Bounds → List OutMap → List E
preimages side dim [] maps = []
preimages side dim (outer ∷ outers) [] = []
preimages side dim (outer ∷ outers) (m ∷ maps) = preimages_at side dim outer m (preimages side dim outers maps)

-- the meet of all pre-images at once, where there are any
abbrev pub met : List Ends → Option Ends
met [] = None
met (ends ∷ more) = Some (met_all ends more)

-- a bound that is implicit or infinite takes that of the meet, where there is one; every other bound stays
abbrev pub takes : Edge → Option Edge → Edge
takes old edge = if is_open old then unwrap_or edge old else old

abbrev pub tight_lower : ℕ → Bounds → List Bounds → List OutMap → Edge
tight_lower dim inner outers maps =
    takes (lower_edge inner) (option_map (λ m. m.lower) (met (preimages preimage dim outers maps)))

abbrev pub tight_upper : ℕ → Bounds → List Bounds → List OutMap → Edge
tight_upper dim inner outers maps =
    takes (upper_edge inner) (option_map (λ m. m.upper) (met (preimages preimage dim outers maps)))

-- the tightened dimensions
abbrev pub tight_dims : ℕ → List Bounds → List Bounds → List OutMap → List Bounds
tight_dims dim [] outers maps = []
tight_dims dim (inner ∷ inners) outers maps =
    interval_of (tight_lower dim inner outers maps) (tight_upper dim inner outers maps) ∷ tight_dims (dim + 1) inners outers maps

-- the greatest lower and the least upper bound of all pre-images, where there are any; it goes on from those so far
abbrev pub gathered_from : Option Ends → List Ends → Option Ends
gathered_from None [] = None
gathered_from None (ends ∷ more) = Some (bounds_met ends more)
gathered_from (Some bounds) more = Some (bounds_met bounds more)

-- an edge is this finite bound, which is no finite index
abbrev pub passes_at : Option ℤ → Option ℤ → Bool
passes_at None tight = false
passes_at (Some x) None = false
passes_at (Some x) (Some y) = int_eq x y && not (is_index x)

-- an edge is this finite bound, and the number below it is no finite index
abbrev pub passes_below : Option ℤ → Option ℤ → Bool
passes_below None tight = false
passes_below (Some x) None = false
passes_below (Some x) (Some y) = int_eq x y && not (is_index (x -ℤ pos 1))

-- the meet's upper bound comes from this pre-image and is no finite index: where the bounds cross, it comes from the lower
-- one
abbrev pub upper_passes : Ends → Ends → Bool
upper_passes bounds ends =
    if cross bounds then passes_below ends.lower.at bounds.lower.at else passes_at ends.upper.at bounds.upper.at

-- a bound of the dimension takes from this pre-image a bound that comes from a finite one and is no finite index
abbrev pub overflows_at : Bounds → Option Ends → Ends → Bool
overflows_at inner None ends = false
overflows_at inner (Some bounds) ends =
    (is_open (lower_edge inner) && passes_at ends.lower.at bounds.lower.at)
    || (is_open (upper_edge inner) && upper_passes bounds ends)

-- some bound of the domain does by this output
abbrev pub overflows_by : List Bounds → List Bounds → List OutMap → Bounds → OutMap → Bool
overflows_by inners outers maps outer (Constant offset) = false
overflows_by inners outers maps outer (Strided offset stride dim) =
    overflows_at (slice_index_or inners dim outer) (gathered_from None (preimages preimage dim outers maps)) (preimage outer offset stride)
overflows_by inners outers maps outer (Indexed offset stride sizes entries) = false

abbrev pub first_overflow_by : List Bounds → List Bounds → List OutMap → Option ℕ
first_overflow_by inners outers maps = position_from (λ p. overflows_by inners outers maps p.0 p.1) 0 (zip outers maps)

-- the tightened dimensions, or the first reason against them
abbrev pub unless_overflow_by : Option ℕ → Result (List Bounds) ComposeError → Result (List Bounds) ComposeError
unless_overflow_by None answer = answer
unless_overflow_by (Some output) answer = Err (Overflow output)

abbrev pub unless_outside_by : Option ℕ → List Bounds → Result (List Bounds) ComposeError
unless_outside_by None dims = Ok dims
unless_outside_by (Some output) dims = Err (Outside output)

abbrev pub tightened : List Bounds → List Bounds → List OutMap → Result (List Bounds) ComposeError
tightened inners outers maps =
    let dims = tight_dims 0 inners outers maps in
    if not (length maps == length outers) then Err Rank
    else unless_overflow_by (first_overflow_by inners outers maps) (unless_outside_by (first_outside_by dims outers maps) dims)

-- the transform on the tightened domain, or the reason against it
abbrev pub on_result : DomainAndMaps → Result (List Bounds) ComposeError → Result DomainAndMaps ComposeError
on_result t (Ok dims) = Ok (on_dims t dims)
on_result t (Err e) = Err e

abbrev pub tighten_answer : DomainAndMaps → Domain → Result DomainAndMaps ComposeError
tighten_answer t outer = on_result t (tightened t.domain.dims outer.dims t.maps)
