-- The domain and the maps that are read keep the rules of a transform.
use Rattle.std.proofs.Common.{◌≡◌, ◌≤◌, ℕ, zero, suc, ◌+◌, ℤ, pos, ◌&&◌, Bool, true, false, not, List, [], ◌∷◌, ◌++◌, map, length, replicate, Option, Some, None, Ok, Err, refl, sym, ap, ◌∙◌, arith, cond, subst}
use Rattle.std.specs.Prelude.{find, option_and_then, option_map, unwrap_or, codes, decimal, nat_le, nat_lt, ◌==◌, is_some}
use Rattle.std.specs.List.{list_all, position_from, zip}
use Rattle.std.proofs.lemmas.List.{length-replicate}
use Rattle.serde_json.specs.Data.{Data}
use Rattle.serde_json.specs.Find.{get, as_object, as_str, as_number, as_u64}
use Rattle.json_forms.specs.Lists.{list_items, all_of}
use Rattle.cells.specs.Places.{cell_count}
use Rattle.index_intervals.specs.Bounds.{Bounds, is_index}
use Rattle.index_transform.specs.Identity.{identity_maps}
use Rattle.index_transform.specs.Maps.{fits, are_entries, is_map, are_labels, has_ranks, plain_map}
use Rattle.index_transform.specs.Transforms.{checked}
use Rattle.index_transform.specs.declared.domain.Domain.{Domain}
use Rattle.index_transform.specs.declared.map.OutMap.{OutMap}
use Rattle.index_transform.specs.declared.map.OutMap.TheVariants.{Constant, Strided, Indexed}
use Rattle.transform_json.specs.declared.arrays.IndexArray.{IndexArray}
use Rattle.transform_json.specs.declared.bounds.ReadBound.{ReadBound}
use Rattle.transform_json.specs.declared.error.JsonError.TheVariants.{BadMember}
use Rattle.transform_json.specs.declared.uppers.Upper.{Upper}
use Rattle.transform_json.specs.declared.uppers.Upper.TheVariants.{Exclusive, Inclusive, Shape}
use Rattle.transform_json.specs.Arrays.{nested_sizes, nested_entries, array_of}
use Rattle.transform_json.specs.Bounds.{lowers_of, given_lowers, bound_of, open_bound, usual_lower, interval_of}
use Rattle.transform_json.specs.Faults.{◌>>=◌, found_at, unless_faulty, no_fault}
use Rattle.transform_json.specs.Input.{rank_number, rank_by, rank_of_lists, rank_of, given_labels, labels_of, domain_of}
use Rattle.transform_json.specs.Members.{where_so, list_members, has, items_at, items_of_len, first_some}
use Rattle.transform_json.specs.Output.{array_in, is_in_range, range_of, dim_number, map_by, map_in, map_of, maps_from, maps_of, faulty_member, number_at}
use Rattle.transform_json.specs.Uppers.{dims_of, dims_at, dims_to, open_dims, upper_name, dim_to}
use Rattle.transform_json.specs.Written.{has_entries}
use Rattle.transform_json.proofs.Entries.{nested_entries-good}
use Rattle.transform_json.proofs.Told.{either, no_err, step-of, mapped-of, where-of, ok-of, found-of, leb-of, leb-true, eqb-of, eqb-true, all_of-length, zip-length}
use Rattle.cells.proofs.Laws.{both, both_true}

-- an index array of a map has an entry for each cell
has_entries-of : (dims : List Bounds) (m : OutMap) → is_map dims m ≡ true → has_entries m ≡ true
has_entries-of dims (Constant offset) e = refl
has_entries-of dims (Strided offset stride dim) e = refl
has_entries-of dims (Indexed offset stride sizes entries) e =
    let entered = (both (fits dims sizes) (are_entries sizes entries) e).1 in
    (both _ _ (both _ _ entered).0).1

pub all-have_entries : (dims : List Bounds) (maps : List OutMap) → list_all (is_map dims) maps ≡ true → list_all has_entries maps ≡ true
all-have_entries dims [] e = refl
all-have_entries dims (m ∷ maps) e =
    let parts = both (is_map dims m) (list_all (is_map dims) maps) e in
    both_true _ _ (has_entries-of dims m parts.0) (all-have_entries dims maps parts.1)

-- the rank is at most 32
rank_by-small : (o : Option (List Data)) (name : Option (List ℕ)) (rank : ℕ) → rank_by o name ≡ Ok rank → rank ≤ 32
rank_by-small (Some items) name rank e = told (nat_le (length items) 32) refl e
  where
    told : (b : Bool) → nat_le (length items) 32 ≡ b → cond b (Ok (length items)) (Err (BadMember (codes "input_rank"))) ≡ Ok rank → rank ≤ 32
    told true f g = let n : length items ≡ rank = cc in omega (arith, leb-of (length items) 32 f)
    told false f g = absurd cc
rank_by-small None None rank e = absurd cc
rank_by-small None (Some n) rank e = absurd cc

rank_number-small : (d : Data) (rank : ℕ) → rank_number d ≡ Some rank → rank ≤ 32
rank_number-small d rank e =
    let read = step-of (λ n. where_so (nat_le n 32) (Some n)) (option_and_then as_u64 (as_number d)) rank e in
    let good = where-of (nat_le read.0 32) (Some read.0) rank read.1.1 in
    let same : read.0 ≡ rank = cc in
    omega (arith, leb-of read.0 32 good.0)

rank-small : (d : Data) (rank : ℕ) → rank_of d ≡ Ok rank → rank ≤ 32
rank-small d rank e =
    either (rank ≤ 32) (has d (codes "input_rank")) (found_at (codes "input_rank") (option_and_then rank_number (get (codes "input_rank") d))) (rank_of_lists d) (Ok rank)
    (λ told. let some = step-of rank_number (get (codes "input_rank") d) rank (found-of (codes "input_rank") _ rank told) in rank_number-small some.0 rank some.1.1)
    (λ told. rank_by-small (first_some (items_at d) list_members) (find (has d) list_members) rank told) e

-- as many items as the rank says
items_of_len-length : (d : Data) (name : List ℕ) (rank : ℕ) (items : List Data) → items_of_len d name rank ≡ Some items → length items ≡ rank
items_of_len-length d name rank items e =
    let some = step-of (λ ds. where_so (length ds == rank) (Some ds)) (items_at d name) items e in
    let good = where-of (length some.0 == rank) (Some some.0) items some.1.1 in
    let same : some.0 ≡ items = cc in
    ap length (sym same) ∙ eqb-of (length some.0) rank good.0

-- a lower bound, an interval and a label for each dimension
lowers-length : (d : Data) (rank : ℕ) (lowers : List ReadBound) → lowers_of d rank ≡ Ok lowers → length lowers ≡ rank
lowers-length d rank lowers e =
    either (length lowers ≡ rank) (has d (codes "input_inclusive_min")) (found_at (codes "input_inclusive_min") (given_lowers d rank)) (Ok (replicate rank (usual_lower (has d (codes "input_shape"))))) (Ok lowers)
    (λ told.
    let some = step-of (all_of (bound_of (codes "-inf"))) (items_of_len d (codes "input_inclusive_min") rank) lowers (found-of (codes "input_inclusive_min") _ lowers told) in
    all_of-length (bound_of (codes "-inf")) some.0 lowers some.1.1 ∙ items_of_len-length d (codes "input_inclusive_min") rank some.0 some.1.0)
    (λ told. let same : replicate rank (usual_lower (has d (codes "input_shape"))) ≡ lowers = cc in ap length (sym same) ∙ length-replicate rank (usual_lower (has d (codes "input_shape")))) e

dims_at-length : (upper : Upper) (d : Data) (lowers : List ReadBound) (dims : List Bounds) → dims_at upper d lowers ≡ Ok dims → length dims ≡ length lowers
dims_at-length upper d lowers dims told =
    let some = step-of (dims_to upper lowers) (items_of_len d (upper_name upper) (length lowers)) dims (found-of (upper_name upper) _ dims told) in
    all_of-length (dim_to upper) (zip lowers some.0) dims some.1.1 ∙ zip-length lowers some.0 (items_of_len-length d (upper_name upper) (length lowers) some.0 some.1.0)

open_dims-length : (lowers : List ReadBound) (dims : List Bounds) → found_at (codes "input_inclusive_min") (open_dims lowers) ≡ Ok dims → length dims ≡ length lowers
open_dims-length lowers dims told = all_of-length (λ lower. interval_of lower open_bound) lowers dims (found-of (codes "input_inclusive_min") _ dims told)

dims-length : (d : Data) (lowers : List ReadBound) (dims : List Bounds) → dims_of d lowers ≡ Ok dims → length dims ≡ length lowers
dims-length d lowers dims =
    let G : Type 0 = length dims ≡ length lowers in
    either G (has d (upper_name Exclusive)) _ _ (Ok dims)
    (either G (has d (upper_name Inclusive)) _ _ (Ok dims) (no_err G _ dims)
    (either G (has d (upper_name Shape)) _ _ (Ok dims) (no_err G _ dims) (dims_at-length Exclusive d lowers dims)))
    (either G (has d (upper_name Inclusive)) _ _ (Ok dims)
    (either G (has d (upper_name Shape)) _ _ (Ok dims) (no_err G _ dims) (dims_at-length Inclusive d lowers dims))
    (either G (has d (upper_name Shape)) _ _ (Ok dims) (dims_at-length Shape d lowers dims) (open_dims-length lowers dims)))

no_labels-good : (rank : ℕ) → are_labels (replicate rank []) ≡ true
no_labels-good zero = refl
no_labels-good (suc rank) = no_labels-good rank

labels-good : (d : Data) (rank : ℕ) (labels : List (List ℕ)) → labels_of d rank ≡ Ok labels → (length labels ≡ rank) × (are_labels labels ≡ true)
labels-good d rank labels e =
    either ((length labels ≡ rank) × (are_labels labels ≡ true)) (has d (codes "input_labels")) (found_at (codes "input_labels") (given_labels d rank)) (Ok (replicate rank [])) (Ok labels)
    (λ told.
    let some = step-of (λ ls. where_so (are_labels ls) (Some ls)) (option_and_then (all_of as_str) (items_of_len d (codes "input_labels") rank)) labels (found-of (codes "input_labels") _ labels told) in
    let good = where-of (are_labels some.0) (Some some.0) labels some.1.1 in
    let same : some.0 ≡ labels = cc in
    let texts = step-of (all_of as_str) (items_of_len d (codes "input_labels") rank) some.0 some.1.0 in
    (ap length (sym same) ∙ all_of-length as_str texts.0 some.0 texts.1.1 ∙ items_of_len-length d (codes "input_labels") rank texts.0 texts.1.0, ap are_labels (sym same) ∙ good.0))
    (λ told. let same : replicate rank [] ≡ labels = cc in (ap length (sym same) ∙ length-replicate rank [], ap are_labels (sym same) ∙ no_labels-good rank)) e

-- what is told of a domain that was read
pub record IsDomain (domain : Domain) : Type 0 where
  pub rank : length domain.dims ≤ 32
  pub labels : length domain.labels ≡ length domain.dims
  pub good : are_labels domain.labels ≡ true

told-of : (domain : Domain) (rank : ℕ) (dims : List Bounds) (labels : List (List ℕ)) → rank ≤ 32 → length dims ≡ rank → length labels ≡ rank → are_labels labels ≡ true → dims ≡ domain.dims → labels ≡ domain.labels → IsDomain domain
told-of domain rank dims labels small as_dims as_labels good same_dims same_labels =
    record { rank = omega (arith, ap length same_dims); labels = omega (arith, ap length same_dims, ap length same_labels); good = ap are_labels (sym same_labels) ∙ good }

pub domain-good : (d : Data) (domain : Domain) → domain_of d ≡ Ok domain → IsDomain domain
domain-good d domain e =
    let rank = ok-of (rank_of d) (λ rank. lowers_of d rank >>= (λ lowers. dims_of d lowers >>= (λ dims. labels_of d rank >>= (λ labels. Ok (record { dims = dims; labels = labels }))))) domain e in
    let lowers = ok-of (lowers_of d rank.0) (λ lowers. dims_of d lowers >>= (λ dims. labels_of d rank.0 >>= (λ labels. Ok (record { dims = dims; labels = labels })))) domain rank.1.1 in
    let dims = ok-of (dims_of d lowers.0) (λ dims. labels_of d rank.0 >>= (λ labels. Ok (record { dims = dims; labels = labels }))) domain lowers.1.1 in
    let labels = ok-of (labels_of d rank.0) (λ labels. Ok (record { dims = dims.0; labels = labels })) domain dims.1.1 in
    let small = rank-small d rank.0 rank.1.0 in
    let as_lowers = lowers-length d rank.0 lowers.0 lowers.1.0 in
    let as_dims = dims-length d lowers.0 dims.0 dims.1.0 in
    let good = labels-good d rank.0 labels.0 labels.1.0 in
    let same_dims : dims.0 ≡ domain.dims = cc in
    let same_labels : labels.0 ≡ domain.labels = cc in
    told-of domain rank.0 dims.0 labels.0 small (as_dims ∙ as_lowers) good.0 good.1 same_dims same_labels

-- an index array of sizes and entries
filled-of : (dims : List Bounds) (sizes : List ℕ) (entries : List ℤ) (a : IndexArray) → fits dims sizes ≡ true → nat_le (cell_count sizes) 4194304 ≡ true → length entries ≡ cell_count sizes → list_all is_index entries ≡ true
    → record { sizes = sizes; entries = entries } ≡ a → (fits dims a.sizes && are_entries a.sizes a.entries) ≡ true
filled-of dims sizes entries a fit few full good same =
    subst (λ (x : IndexArray). (fits dims x.sizes && are_entries x.sizes x.entries) ≡ true) same (both_true _ _ fit (both_true _ _ (both_true _ _ few (eqb-true _ _ full)) good))

-- the index array of a map fits the dimensions
array_of-good : (dims : List Bounds) (d : Data) (a : IndexArray) → array_of dims d ≡ Some a → (fits dims a.sizes && are_entries a.sizes a.entries) ≡ true
array_of-good dims d a e =
    let sizes = step-of (λ ss. where_so (fits dims ss) (where_so (nat_le (cell_count ss) 4194304) (option_map (λ es. record { sizes = ss; entries = es }) (nested_entries ss d)))) (nested_sizes (length dims) d) a e in
    let fit = where-of (fits dims sizes.0) (where_so (nat_le (cell_count sizes.0) 4194304) (option_map (λ es. record { sizes = sizes.0; entries = es }) (nested_entries sizes.0 d))) a sizes.1.1 in
    let few = where-of (nat_le (cell_count sizes.0) 4194304) (option_map (λ es. record { sizes = sizes.0; entries = es }) (nested_entries sizes.0 d)) a fit.1 in
    let entries = mapped-of (λ es. record { sizes = sizes.0; entries = es }) (nested_entries sizes.0 d) a few.1 in
    let full = nested_entries-good sizes.0 d entries.0 entries.1.0 in
    filled-of dims sizes.0 entries.0 a fit.0 few.0 full.0 full.1 entries.1.1

array_in-good : (dims : List Bounds) (d : Data) (a : IndexArray) → array_in dims d ≡ Some a → (fits dims a.sizes && are_entries a.sizes a.entries) ≡ true
array_in-good dims d a e =
    let kept = step-of (λ array. where_so (unwrap_or (option_map (λ range. list_all (is_in_range range) array.entries) (option_and_then range_of (get (codes "index_array_bounds") d))) true) (Some array))
    (option_and_then (array_of dims) (get (codes "index_array") d)) a e in
    let same : kept.0 ≡ a = let w = where-of (unwrap_or (option_map (λ range. list_all (is_in_range range) kept.0.entries) (option_and_then range_of (get (codes "index_array_bounds") d))) true) (Some kept.0) a kept.1.1 in cc in
    let some = step-of (array_of dims) (get (codes "index_array") d) kept.0 kept.1.0 in
    array_of-good dims some.0 a (some.1.1 ∙ ap Some same)

map_by-good : (dims : List Bounds) (offset stride : ℤ) (o : Option IndexArray) (dim : Option ℕ) → ((a : IndexArray) → o ≡ Some a → (fits dims a.sizes && are_entries a.sizes a.entries) ≡ true)
    → ((n : ℕ) → dim ≡ Some n → nat_lt n (length dims) ≡ true) → is_map dims (map_by offset stride o dim) ≡ true
map_by-good dims offset stride (Some a) dim fit below = fit a refl
map_by-good dims offset stride None (Some n) fit below = below n refl
map_by-good dims offset stride None None fit below = refl

dim_number-below : (rank : ℕ) (d : Data) (n : ℕ) → dim_number rank d ≡ Some n → nat_lt n rank ≡ true
dim_number-below rank d n e =
    let some = step-of (λ m. where_so (nat_lt m rank) (Some m)) (option_and_then as_u64 (as_number d)) n e in
    let good = where-of (nat_lt some.0 rank) (Some some.0) n some.1.1 in
    let same : some.0 ≡ n = cc in
    ap (λ m. nat_lt m rank) (sym same) ∙ good.0

map_in-good : (dims : List Bounds) (d : Data) → is_map dims (map_in (length dims) (array_in dims d) d) ≡ true
map_in-good dims d =
    map_by-good dims (number_at (codes "offset") (pos 0) d) (number_at (codes "stride") (pos 1) d) (array_in dims d) (option_and_then (dim_number (length dims)) (get (codes "input_dimension") d))
    (array_in-good dims d) (λ n e. let some = step-of (dim_number (length dims)) (get (codes "input_dimension") d) n e in dim_number-below (length dims) some.0 n some.1.1)

map_of-good : (path : List ℕ) (dims : List Bounds) (d : Data) (m : OutMap) → map_of path dims d ≡ Ok m → is_map dims m ≡ true
map_of-good path dims d m e =
    let fault : Option (List ℕ) = option_map (λ name. path ++ codes "/" ++ name) (faulty_member (length dims) (is_some (array_in dims d)) d) in
    let object = ok-of (unless_faulty path (is_some (as_object d))) (λ u. no_fault fault >>= (λ v. Ok (map_in (length dims) (array_in dims d) d))) m e in
    let members = ok-of (no_fault fault) (λ v. Ok (map_in (length dims) (array_in dims d) d)) m object.1.1 in
    let same : map_in (length dims) (array_in dims d) d ≡ m = cc in
    ap (is_map dims) (sym same) ∙ map_in-good dims d

-- each map that was read goes from the dimensions
maps_from-good : (output : ℕ) (dims : List Bounds) (ds : List Data) (maps : List OutMap) → maps_from output dims ds ≡ Ok maps → (length maps ≡ length ds) × (list_all (is_map dims) maps ≡ true)
maps_from-good output dims [] maps e = let none : [] ≡ maps = cc in (ap length (sym none), ap (list_all (is_map dims)) (sym none))
maps_from-good output dims (d ∷ ds) maps e =
    let one = ok-of (map_of (codes "output/" ++ decimal output) dims d) (λ m. maps_from (output + 1) dims ds >>= (λ ms. Ok (m ∷ ms))) maps e in
    let more = ok-of (maps_from (output + 1) dims ds) (λ ms. Ok (one.0 ∷ ms)) maps one.1.1 in
    let rest = maps_from-good (output + 1) dims ds more.0 more.1.0 in
    let same : one.0 ∷ more.0 ≡ maps = cc in
    (ap length (sym same) ∙ ap suc rest.0, ap (list_all (is_map dims)) (sym same) ∙ both_true _ _ (map_of-good (codes "output/" ++ decimal output) dims d one.0 one.1.0) rest.1)

identity-good : (dims : List Bounds) (k : ℕ) (rest : List Bounds) → k + length rest ≤ length dims → (length (identity_maps k rest) ≡ length rest) × (list_all (is_map dims) (identity_maps k rest) ≡ true)
identity-good dims k [] within = (refl, refl)
identity-good dims k (d ∷ rest) within =
    let more = identity-good dims (k + 1) rest (omega arith) in
    (ap suc more.0, both_true _ _ (leb-true (suc k) (length dims) (omega arith)) more.1)

maps-good : (d : Data) (dims : List Bounds) (maps : List OutMap) → length dims ≤ 32 → maps_of d dims ≡ Ok maps → (length maps ≤ 32) × (list_all (is_map dims) maps ≡ true)
maps-good d dims maps small =
    either ((length maps ≤ 32) × (list_all (is_map dims) maps ≡ true)) (has d (codes "output"))
    (found_at (codes "output") (option_and_then (λ items. where_so (nat_le (length items) 32) (Some items)) (option_and_then list_items (get (codes "output") d))) >>= maps_from 0 dims) (Ok (identity_maps 0 dims)) (Ok maps)
    (λ e.
    let some = ok-of (found_at (codes "output") (option_and_then (λ items. where_so (nat_le (length items) 32) (Some items)) (option_and_then list_items (get (codes "output") d)))) (maps_from 0 dims) maps e in
    let few = step-of (λ items. where_so (nat_le (length items) 32) (Some items)) (option_and_then list_items (get (codes "output") d)) some.0 (found-of (codes "output") _ some.0 some.1.0) in
    let good = where-of (nat_le (length few.0) 32) (Some few.0) some.0 few.1.1 in
    let same : few.0 ≡ some.0 = cc in
    let read = maps_from-good 0 dims some.0 maps some.1.1 in
    (omega (arith, leb-of (length few.0) 32 good.0, ap length same, read.0), read.1))
    (λ e. let same : identity_maps 0 dims ≡ maps = cc in let good = identity-good dims 0 dims (omega arith) in (omega (arith, ap length same, good.0), ap (list_all (is_map dims)) (sym same) ∙ good.1))

no_bad_map : (dims : List Bounds) (k : ℕ) (maps : List OutMap) → list_all (is_map dims) maps ≡ true → position_from (λ m. not (is_map dims m)) k maps ≡ None
no_bad_map dims k [] e = refl
no_bad_map dims k (m ∷ maps) e = let parts = both (is_map dims m) (list_all (is_map dims) maps) e in rw parts.0 (no_bad_map dims (k + 1) maps parts.1)

-- a transform is made of what was read
pub accepted : (d : Data) (domain : Domain) (maps : List OutMap) → domain_of d ≡ Ok domain → maps_of d domain.dims ≡ Ok maps → checked domain maps ≡ Ok (record { domain = domain; maps = map plain_map maps })
accepted d domain maps e f =
    let told = domain-good d domain e in
    let good = maps-good d domain.dims maps told.rank f in
    let ranks : has_ranks domain maps ≡ true = both_true _ _ (both_true _ _ (leb-true _ _ told.rank) (eqb-true _ _ told.labels)) (leb-true _ _ good.0) in
    rw (ranks, told.good, no_bad_map domain.dims 0 maps good.1) refl
