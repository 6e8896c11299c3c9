-- A transform that was written is read again.
use Rattle.std.proofs.Common.{◌≡◌, ◌≤◌, ℕ, ◌&&◌, Bool, true, false, cond, List, [], length, map, replicate, Some, None, Ok, refl, sym, ap, ◌∙◌, arith}
use Rattle.std.specs.Prelude.{option_and_then, codes, nat_le, ◌==◌, is_some}
use Rattle.std.specs.List.{AllByRecursion, list_all}
use Rattle.std.proofs.lemmas.List.{length-map}
use Rattle.serde_json.specs.Data.{Data, Members, object, no_members, put, string}
use Rattle.serde_json.specs.Find.{as_object, as_str, get}
use Rattle.json_forms.specs.Numbers.{natural}
use Rattle.json_forms.specs.Lists.{list_of, list_items, all_of}
use Rattle.json_forms.specs.Members.{least_unknown}
use Rattle.index_intervals.specs.Bounds.{Bounds, AreBounds}
use Rattle.index_transform.specs.Maps.{are_labels, plain_map}
use Rattle.index_transform.specs.Transforms.{DomainAndMaps, IsTransform}
use Rattle.index_transform.specs.declared.map.OutMap.{OutMap}
use Rattle.transform_json.specs.declared.uppers.Upper.TheVariants.{Exclusive}
use Rattle.transform_json.specs.Bounds.{bound_of, lowers_of}
use Rattle.transform_json.specs.Faults.{◌>>=◌, found_at}
use Rattle.transform_json.specs.Input.{rank_of, labels_of, domain_of}
use Rattle.transform_json.specs.Members.{where_so}
use Rattle.transform_json.specs.Output.{maps_from, maps_of}
use Rattle.transform_json.specs.Transforms.{transform_members, transform_of}
use Rattle.transform_json.specs.Uppers.{dims_to, dims_of}
use Rattle.transform_json.specs.Written.{lower_data, upper_data, are_unlabelled, map_data, has_sizes, HasWords, transform_data}
use Rattle.transform_json.proofs.AgainArrays.{list_items-list_of}
use Rattle.transform_json.proofs.AgainBounds.{read_lower, lower_again, all_of-map, dims_again, labels_again, unlabelled_again}
use Rattle.transform_json.proofs.AgainMaps.{maps_again, plain_again}
use Rattle.transform_json.proofs.Told.{eqb-of, eqb-true, leb-of, leb-true}
use Rattle.cells.proofs.Laws.{both}

-- the members of a written transform, by whether no label has a byte
abbrev members : Bool → Data → Data → Data → Data → Data → Members
members bare upper lower labels rank output =
    put (codes "input_exclusive_max") upper (put (codes "input_inclusive_min") lower (cond bare (put (codes "input_rank") rank (put (codes "output") output no_members))
    (put (codes "input_labels") labels (put (codes "input_rank") rank (put (codes "output") output no_members)))))

-- what is found in it
record IsFound (bare : Bool) (as_upper as_lower as_labels as_rank as_output d : Data) : Type 0 where
  object : is_some (as_object d) ≡ true
  known : least_unknown transform_members d ≡ None
  rank : get (codes "input_rank") d ≡ Some as_rank
  lower : get (codes "input_inclusive_min") d ≡ Some as_lower
  upper : get (codes "input_exclusive_max") d ≡ Some as_upper
  inclusive : get (codes "input_inclusive_max") d ≡ None
  shape : get (codes "input_shape") d ≡ None
  labels : get (codes "input_labels") d ≡ cond bare None (Some as_labels)
  output : get (codes "output") d ≡ Some as_output

found : (bare : Bool) (upper lower labels rank output : Data) → IsFound bare upper lower labels rank output (object (members bare upper lower labels rank output))
unfolding least_unknown
found true upper lower labels rank output = record { object = refl; known = refl; rank = refl; lower = refl; upper = refl; inclusive = refl; shape = refl; labels = refl; output = refl }
found false upper lower labels rank output = record { object = refl; known = refl; rank = refl; lower = refl; upper = refl; inclusive = refl; shape = refl; labels = refl; output = refl }

-- the items of a list as long as the rank
as_long : (ds : List Data) (rank : ℕ) → length ds ≡ rank → option_and_then (λ items. where_so (length items == rank) (Some items)) (list_items (list_of ds)) ≡ Some ds
as_long ds rank long = ap (option_and_then (λ items. where_so (length items == rank) (Some items))) (list_items-list_of ds) ∙ ap (λ b. where_so b (Some ds)) (eqb-true (length ds) rank long)

rank_again : (d : Data) (n : ℕ) → get (codes "input_rank") d ≡ Some (natural n) → n ≤ 32 → rank_of d ≡ Ok n
rank_again d n is small = rw is (ap (λ b. found_at (codes "input_rank") (where_so b (Some n))) (leb-true n 32 small))

lowers_again : (d : Data) (dims : List Bounds) → get (codes "input_inclusive_min") d ≡ Some (list_of (map lower_data dims)) → lowers_of d (length dims) ≡ Ok (map read_lower dims)
lowers_again d dims is =
    rw is
    (ap (λ o. found_at (codes "input_inclusive_min") (option_and_then (all_of (bound_of (codes "-inf"))) o)) (as_long (map lower_data dims) (length dims) (length-map dims lower_data))
    ∙ ap (found_at (codes "input_inclusive_min")) (all_of-map (bound_of (codes "-inf")) lower_data read_lower lower_again dims))

uppers_again : (d : Data) (dims : List Bounds) → get (codes "input_exclusive_max") d ≡ Some (list_of (map upper_data dims)) → get (codes "input_inclusive_max") d ≡ None → get (codes "input_shape") d ≡ None
    → AllByRecursion AreBounds dims → dims_of d (map read_lower dims) ≡ Ok dims
uppers_again d dims is inclusive shape good =
    rw (is, inclusive, shape)
    (ap (λ o. found_at (codes "input_exclusive_max") (option_and_then (dims_to Exclusive (map read_lower dims)) o))
    (as_long (map upper_data dims) (length (map read_lower dims)) (length-map dims upper_data ∙ sym (length-map dims read_lower)))
    ∙ ap (found_at (codes "input_exclusive_max")) (dims_again dims good))

texts_again : (d : Data) (labels : List (List ℕ)) (rank : ℕ) (bare : Bool) → are_unlabelled labels ≡ bare → get (codes "input_labels") d ≡ cond bare None (Some (list_of (map string labels))) → length labels ≡ rank
    → are_labels labels ≡ true → labels_of d rank ≡ Ok labels
texts_again d labels rank true is found long good = rw found (ap Ok (ap (λ n. replicate n []) (sym long) ∙ unlabelled_again labels is))
texts_again d labels rank false is found long good =
    rw found
    (ap (λ o. found_at (codes "input_labels") (option_and_then (λ ls. where_so (are_labels ls) (Some ls)) (option_and_then (all_of as_str) o))) (as_long (map string labels) rank (length-map labels string ∙ long))
    ∙ ap (λ o. found_at (codes "input_labels") (option_and_then (λ ls. where_so (are_labels ls) (Some ls)) o)) (labels_again labels)
    ∙ ap (λ b. found_at (codes "input_labels") (where_so b (Some labels))) good)

outputs_again : (d : Data) (dims : List Bounds) (maps : List OutMap) → get (codes "output") d ≡ Some (list_of (map map_data maps)) → length maps ≤ 32 → maps_from 0 dims (map map_data maps) ≡ Ok maps → maps_of d dims ≡ Ok maps
outputs_again d dims maps is few again =
    rw is
    (ap (λ o. found_at (codes "output") (option_and_then (λ items. where_so (nat_le (length items) 32) (Some items)) o) >>= maps_from 0 dims) (list_items-list_of (map map_data maps))
    ∙ ap (λ b. found_at (codes "output") (where_so b (Some (map map_data maps))) >>= maps_from 0 dims) (leb-true (length (map map_data maps)) 32 (omega (arith, length-map maps map_data, few))) ∙ again)

domain_again : (t : DomainAndMaps) (d : Data) → IsFound (are_unlabelled t.domain.labels) (list_of (map upper_data t.domain.dims)) (list_of (map lower_data t.domain.dims)) (list_of (map string t.domain.labels)) (natural (length t.domain.dims)) (list_of (map map_data t.maps)) d
    → length t.domain.dims ≤ 32 → length t.domain.labels ≡ length t.domain.dims → are_labels t.domain.labels ≡ true → AllByRecursion AreBounds t.domain.dims → domain_of d ≡ Ok t.domain
domain_again t d is small long good bounds =
    let rank = rank_again d (length t.domain.dims) is.rank small in
    let lowers = lowers_again d t.domain.dims is.lower in
    let dims = uppers_again d t.domain.dims is.upper is.inclusive is.shape bounds in
    let labels = texts_again d t.domain.labels (length t.domain.dims) (are_unlabelled t.domain.labels) refl is.labels long good in
    ap (λ r. r >>= (λ n. lowers_of d n >>= (λ ls. dims_of d ls >>= (λ ds. labels_of d n >>= (λ texts. Ok (record { dims = ds; labels = texts })))))) rank
    ∙ ap (λ r. r >>= (λ ls. dims_of d ls >>= (λ ds. labels_of d (length t.domain.dims) >>= (λ texts. Ok (record { dims = ds; labels = texts }))))) lowers
    ∙ ap (λ r. r >>= (λ ds. labels_of d (length t.domain.dims) >>= (λ texts. Ok (record { dims = ds; labels = texts })))) dims
    ∙ ap (λ r. r >>= (λ texts. Ok (record { dims = t.domain.dims; labels = texts }))) labels

-- a transform whose index arrays have no size of 0 is what its written form is read as
pub transform_again : (t : DomainAndMaps) → IsTransform t → AllByRecursion AreBounds t.domain.dims → AllByRecursion HasWords t.maps → list_all has_sizes t.maps ≡ true → transform_of (transform_data t) ≡ Ok t
transform_again t keeps bounds words some =
    let d : Data = transform_data t in
    let is = found (are_unlabelled t.domain.labels) (list_of (map upper_data t.domain.dims)) (list_of (map lower_data t.domain.dims)) (list_of (map string t.domain.labels)) (natural (length t.domain.dims)) (list_of (map map_data t.maps)) in
    let ranks = both (nat_le (length t.domain.dims) 32 && (length t.domain.labels == length t.domain.dims)) (nat_le (length t.maps) 32) keeps.ranks in
    let rank = both (nat_le (length t.domain.dims) 32) (length t.domain.labels == length t.domain.dims) ranks.0 in
    let domain = domain_again t d is (leb-of (length t.domain.dims) 32 rank.0) (eqb-of (length t.domain.labels) (length t.domain.dims) rank.1) keeps.labels bounds in
    let maps = outputs_again d t.domain.dims t.maps is.output (leb-of (length t.maps) 32 ranks.1) (maps_again 0 t.domain.dims t.maps keeps.maps words some) in
    rw (is.object, is.known) (ap (λ r. r >>= (λ domain. maps_of d domain.dims >>= (λ maps. Ok (record { domain = domain; maps = map plain_map maps })))) domain
    ∙ ap (λ r. r >>= (λ maps. Ok (record { domain = t.domain; maps = map plain_map maps }))) maps ∙ ap (λ maps. Ok (record { domain = t.domain; maps = maps })) (plain_again t.maps keeps.plain))
