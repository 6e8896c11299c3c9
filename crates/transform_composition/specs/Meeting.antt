-- What tightening makes of the bounds of one dimension.
use Rattle.std.specs.Prelude.{◌≡◌, ℕ, ◌<◌, ℤ, pos, ◌≤ℤ◌, ◌↔◌, IsTrue, true, false, List, [], ◌∷◌, length, slice_index_or, None}
use Rattle.std.specs.List.{All, list_any}
use Rattle.index_transform.specs.Bounds.{Bounds, IsIndex}
use Rattle.index_transform.specs.Members.{IsMember}
use Rattle.index_transform.specs.Edges.{lower_edge, upper_edge, is_open, preimage, IsBetween}
use Rattle.index_transform.specs.Meet.{uncrossed, met_all}
use Rattle.index_transform.specs.declared.Edge.{Edge}
use Rattle.index_transform.specs.declared.Ends.{Ends}
use Rattle.index_transform.specs.declared.map.OutMap.{OutMap}
use Rattle.index_transform.specs.Transforms.{DomainAndMaps}
use Rattle.index_transform.specs.Values.{value_at, first_outside}
use Rattle.transform_composition.specs.Reading.{has_array_along, point}
use Rattle.transform_composition.specs.Tightening.{preimages}

-- an upper bound beside a lower one: right below it where it would be further down
abbrev pub beside : Edge → Edge → Edge
beside lower upper = (uncrossed (record { lower = lower; upper = upper })).upper

-- each bound that was implicit or infinite is that of the meet of the pre-images, with the meet's flag, and every other
-- bound stays; where both were, an index is a member exactly where it lies between the ends of each pre-image
pub record TakesMeet (old new : Bounds) (ends : Ends) (more : List Ends) : Type 0 where
  pub lower_open : is_open (lower_edge old) ≡ true → lower_edge new ≡ (met_all ends more).lower
  pub lower_kept : is_open (lower_edge old) ≡ false → lower_edge new ≡ lower_edge old
  pub upper_open : is_open (upper_edge old) ≡ true → upper_edge new ≡ beside (lower_edge new) ((met_all ends more).upper)
  pub upper_kept : is_open (upper_edge old) ≡ false → upper_edge new ≡ beside (lower_edge new) (upper_edge old)
  pub members : is_open (lower_edge old) ≡ true → is_open (upper_edge old) ≡ true → (x : ℤ) → IsIndex x
      → IsMember new x ↔ All (λ e. IsBetween e x) (ends ∷ more)

-- the same where there may be no pre-image: then the interval stays
abbrev pub Follows : Bounds → Bounds → List Ends → Type 0
Follows old new [] = new ≡ old
Follows old new (ends ∷ more) = TakesMeet old new ends more

-- each dimension follows the pre-images along it
abbrev pub AreMet : List Bounds → List Bounds → List Bounds → List OutMap → Type 0
AreMet olds news outers maps =
    (k : ℕ) → k < length olds → Follows (slice_index_or olds k point) (slice_index_or news k point) (preimages preimage k outers maps)

-- no index vector of the old effective domain is lost that goes into the outer one
abbrev pub KeepsReached : DomainAndMaps → List Bounds → List Bounds → Type 0
KeepsReached t news outers =
    (index : List ℤ) → length index ≡ length t.domain.dims → first_outside t.domain.dims index ≡ None
    → first_outside outers (value_at t index) ≡ None → first_outside news index ≡ None

-- along each dimension on which an index array depends the index lies between the bounds, which are explicit there
abbrev pub IsUnderArrays : DomainAndMaps → List ℤ → Type 0
IsUnderArrays t index =
    (k : ℕ) → k < length t.domain.dims → IsTrue (list_any (has_array_along k) t.maps)
    → ((slice_index_or t.domain.dims k point).lo ≤ℤ slice_index_or index k (pos 0))
    × (slice_index_or index k (pos 0) ≤ℤ (slice_index_or t.domain.dims k point).hi)

-- a composition loses no index vector at which the outer transform has a value
abbrev pub KeepsComposed : DomainAndMaps → DomainAndMaps → List Bounds → Type 0
KeepsComposed t inner outers =
    (index : List ℤ) → length index ≡ length inner.domain.dims → IsUnderArrays t index
    → first_outside inner.domain.dims index ≡ None → first_outside outers (value_at inner index) ≡ None
    → first_outside t.domain.dims index ≡ None
