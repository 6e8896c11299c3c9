-- What is written has no float, so that its text is known.
use Rattle.std.proofs.Common.{◌≡◌, ℕ, ℤ, pos, ◌+ℤ◌, ◌*◌, Bool, true, false, cond, List, [], ◌∷◌, length, map, take, drop, get_or, refl}
use Rattle.std.specs.Prelude.{codes}
use Rattle.std.specs.List.{range_with_len}
use Rattle.std.specs.Ordering.{int_eq}
use Rattle.serde_json.specs.Data.{Data, Members, string, no_members, put}
use Rattle.serde_json.specs.Written.{has_float, members_have_float}
use Rattle.json_forms.specs.Numbers.{natural, integer}
use Rattle.json_forms.specs.Lists.{list_of}
use Rattle.json_forms.proofs.Laws.{has_float-integer, has_float-list_of, members_have_float-put}
use Rattle.cells.specs.Places.{cell_count}
use Rattle.index_intervals.specs.Bounds.{Bounds, minus_infinity, plus_infinity}
use Rattle.index_transform.specs.Transforms.{DomainAndMaps}
use Rattle.index_transform.specs.declared.domain.Domain.{Domain}
use Rattle.index_transform.specs.declared.map.OutMap.{OutMap}
use Rattle.index_transform.specs.declared.map.OutMap.TheVariants.{Constant, Strided, Indexed}
use Rattle.transform_json.specs.Written.{flagged, lower_data, upper_data, are_unlabelled, with_labels, domain_data, with_number, nested_data, map_data, transform_data}

flagged-plain : (implicit : Bool) (d : Data) → has_float d ≡ false → has_float (flagged implicit d) ≡ false
flagged-plain true d none = rw none refl
flagged-plain false d none = none

chosen-plain : (b : Bool) (x y : Data) → has_float x ≡ false → has_float y ≡ false → has_float (cond b x y) ≡ false
chosen-plain true x y none other = none
chosen-plain false x y none other = other

lower-plain : (dim : Bounds) → has_float (lower_data dim) ≡ false
lower-plain dim = flagged-plain dim.lo_implicit _ (chosen-plain (int_eq dim.lo minus_infinity) (string (codes "-inf")) (integer dim.lo) refl (has_float-integer dim.lo))

upper-plain : (dim : Bounds) → has_float (upper_data dim) ≡ false
upper-plain dim = flagged-plain dim.hi_implicit _ (chosen-plain (int_eq dim.hi plus_infinity) (string (codes "+inf")) (integer (dim.hi +ℤ pos 1)) refl (has_float-integer (dim.hi +ℤ pos 1)))

maybe-plain : (b : Bool) (name : List ℕ) (d : Data) (ms : Members) → has_float d ≡ false → members_have_float ms ≡ false → members_have_float (cond b ms (put name d ms)) ≡ false
maybe-plain true name d ms none nones = nones
maybe-plain false name d ms none nones = members_have_float-put name d ms none nones

labels-plain : (name : List ℕ) (labels : List (List ℕ)) (ms : Members) → members_have_float ms ≡ false → members_have_float (with_labels name labels ms) ≡ false
labels-plain name labels ms none = maybe-plain (are_unlabelled labels) name (list_of (map string labels)) ms (has_float-list_of string (λ label. refl) labels) none

number-plain : (name : List ℕ) (usual number : ℤ) (ms : Members) → members_have_float ms ≡ false → members_have_float (with_number name usual number ms) ≡ false
number-plain name usual number ms none = maybe-plain (int_eq number usual) name (integer number) ms (has_float-integer number) none

pub domain-plain : (domain : Domain) → has_float (domain_data domain) ≡ false
domain-plain domain =
    let bare = labels-plain (codes "labels") domain.labels no_members refl in
    members_have_float-put (codes "exclusive_max") (list_of (map upper_data domain.dims)) (put (codes "inclusive_min") (list_of (map lower_data domain.dims)) (with_labels (codes "labels") domain.labels no_members)) (has_float-list_of upper_data upper-plain domain.dims)
    (members_have_float-put (codes "inclusive_min") (list_of (map lower_data domain.dims)) (with_labels (codes "labels") domain.labels no_members) (has_float-list_of lower_data lower-plain domain.dims) bare)

nested-plain : (sizes : List ℕ) (entries : List ℤ) → has_float (nested_data sizes entries) ≡ false
nested-plain [] entries = has_float-integer (get_or entries 0 (pos 0))
nested-plain (size ∷ sizes) entries =
    has_float-list_of (λ i. nested_data sizes (take (cell_count sizes) (drop (i * cell_count sizes) entries))) (λ i. nested-plain sizes (take (cell_count sizes) (drop (i * cell_count sizes) entries))) (range_with_len 0 size)

numbers-plain : (offset stride : ℤ) → members_have_float (with_number (codes "offset") (pos 0) offset (with_number (codes "stride") (pos 1) stride no_members)) ≡ false
numbers-plain offset stride = number-plain (codes "offset") (pos 0) offset _ (number-plain (codes "stride") (pos 1) stride no_members refl)

map-plain : (m : OutMap) → has_float (map_data m) ≡ false
map-plain (Constant offset) = number-plain (codes "offset") (pos 0) offset no_members refl
map-plain (Strided offset stride dim) = members_have_float-put (codes "input_dimension") (natural dim) (with_number (codes "offset") (pos 0) offset (with_number (codes "stride") (pos 1) stride no_members)) refl (numbers-plain offset stride)
map-plain (Indexed offset stride sizes entries) = members_have_float-put (codes "index_array") (nested_data sizes entries) (with_number (codes "offset") (pos 0) offset (with_number (codes "stride") (pos 1) stride no_members)) (nested-plain sizes entries) (numbers-plain offset stride)

abbrev ranked : DomainAndMaps → Members
ranked t = put (codes "input_rank") (natural (length t.domain.dims)) (put (codes "output") (list_of (map map_data t.maps)) no_members)

abbrev labelled : DomainAndMaps → Members
labelled t = with_labels (codes "input_labels") t.domain.labels (ranked t)

pub transform-plain : (t : DomainAndMaps) → has_float (transform_data t) ≡ false
transform-plain t =
    let outputs = members_have_float-put (codes "output") (list_of (map map_data t.maps)) no_members (has_float-list_of map_data map-plain t.maps) refl in
    let rank = members_have_float-put (codes "input_rank") (natural (length t.domain.dims)) (put (codes "output") (list_of (map map_data t.maps)) no_members) refl outputs in
    members_have_float-put (codes "input_exclusive_max") (list_of (map upper_data t.domain.dims)) (put (codes "input_inclusive_min") (list_of (map lower_data t.domain.dims)) (labelled t))
    (has_float-list_of upper_data upper-plain t.domain.dims)
    (members_have_float-put (codes "input_inclusive_min") (list_of (map lower_data t.domain.dims)) (labelled t) (has_float-list_of lower_data lower-plain t.domain.dims)
    (labels-plain (codes "input_labels") t.domain.labels (ranked t) rank))
