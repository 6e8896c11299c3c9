-- Values whose numbers and texts JSON spells, and that nest little.
use Rattle.std.proofs.Common.{◌≡◌, ◌≤◌, ◌<◌, ◌^◌, ◌+◌, ◌*◌, ℕ, ℤ, zero, suc, pos, negsuc, ◌+ℤ◌, ◌&&◌, eqb-true, leb-true, nat_le, ◌==◌, Bool, true, false, cond, List, [], ◌∷◌, length, get_or, map, take, drop, Ordering, Less, Equal, Greater, nat_cmp, refl, arith, FitsSigned, w64}
use Rattle.std.specs.Prelude.{codes}
use Rattle.std.specs.List.{AllByRecursion, list_all, range_with_len, zip}
use Rattle.std.specs.Str.{IsUtf8}
use Rattle.std.specs.Ordering.{int_eq, match_ordering}
use Rattle.std.specs.Cmp.Lexicographic.{slice_cmp}
use Rattle.std.proofs.lemmas.Bool.{and_parts}
use Rattle.std.proofs.lemmas.Int.{ints}
use Rattle.json.proofs.Printed.Utf8.{IsUtf8-are_ascii, are_ascii}
use Rattle.serde_json.specs.Data.{Data, boolean, string, object, Members, no_members, member, put, depth, members_depth}
use Rattle.json_forms.specs.Lists.{list_of}
use Rattle.json_forms.specs.Members.{members_from, object_of}
use Rattle.json_forms.specs.Numbers.{natural, integer}
use Rattle.cells.specs.Places.{cell_count}
use Rattle.cells.specs.DtypeNames.{dtype_name}
use Rattle.cells.specs.declared.dtype.Dtype.{Dtype}
use Rattle.cells.specs.declared.dtype.Dtype.TheVariants.{I8, U8, I16, U16, I32, U32, I64, U64}
use Rattle.index_intervals.specs.Bounds.{Bounds, AreBounds, is_index, are_bounds, minus_infinity, plus_infinity}
use Rattle.index_intervals.proofs.Laws.{AreBounds-true, is_index-true}
use Rattle.index_transform.specs.Maps.{is_map, fits, fits_dim, are_entries}
use Rattle.index_transform.specs.Transforms.{DomainAndMaps, IsTransform}
use Rattle.index_transform.specs.declared.domain.Domain.{Domain}
use Rattle.index_transform.specs.declared.map.OutMap.{OutMap}
use Rattle.index_transform.specs.declared.map.OutMap.TheVariants.{Constant, Strided, Indexed}
use Rattle.transform_json.specs.Written.{flagged, lower_data, upper_data, are_unlabelled, with_labels, domain_data, with_number, nested_data, map_data, transform_data}
use Rattle.transcript_laws.specs.Causes.{Member, bound_data, cause_member}
use Rattle.transcript_laws.specs.Members.{numbers_data, indices_data, dtype_data}
use Rattle.transcript_laws.specs.Printable.{HasSpelled}
use Rattle.output_laws.specs.Plain.{IsPlain, IsPlainMember, IsWhole, HasNumbers}

-- the members of an object that nests little
pub record ArePlain (room : ℕ) (ms : Members) : Type 0 where
  pub spelled : HasSpelled ms
  pub shallow : members_depth ms ≤ room

chosen : (o : Ordering) (n : ℕ) (a b c : Members) → ArePlain n a → ArePlain n b → ArePlain n c → ArePlain n (match_ordering o a b c)
chosen Less n a b c x y z = x
chosen Equal n a b c x y z = y
chosen Greater n a b c x y z = z

-- one member more
put_plain : (n : ℕ) (k : List ℕ) (d : Data) (ms : Members) → IsUtf8 k → IsPlain n d → ArePlain n ms → ArePlain n (put k d ms)
put_plain n k d no_members name value rest =
    let value_in : depth d ≤ n = value.shallow in
    record { spelled = (name, value.spelled, tt); shallow = omega arith }
put_plain n k d (member l e ms) name value rest =
    let value_in : depth d ≤ n = value.shallow in
    let rest_in : members_depth (member l e ms) ≤ n = rest.shallow in
    let later = put_plain n k d ms name value (record { spelled = rest.spelled.2; shallow = omega arith }) in
    let later_in : members_depth (put k d ms) ≤ n = later.shallow in
    chosen (slice_cmp nat_cmp k l) n (member k d (member l e ms)) (member l d ms) (member l e (put k d ms))
    (record { spelled = (name, value.spelled, rest.spelled); shallow = omega arith })
    (record { spelled = (rest.spelled.0, value.spelled, rest.spelled.2); shallow = omega arith })
    (record { spelled = (rest.spelled.0, rest.spelled.1, later.spelled); shallow = omega arith })

pub no_plain : (n : ℕ) → ArePlain n no_members
no_plain n = record { spelled = tt; shallow = omega arith }

-- one more, of a plain name
pub put_named : (n : ℕ) (k : List ℕ) (d : Data) (ms : Members) → are_ascii k ≡ true → IsPlain n d → ArePlain n ms → ArePlain n (put k d ms)
put_named n k d ms ascii value rest = put_plain n k d ms (IsUtf8-are_ascii k ascii) value rest

pub wider : (n m : ℕ) (d : Data) → n ≤ m → IsPlain n d → IsPlain m d
wider n m d below is = record { spelled = is.spelled; shallow = omega (arith, below, is.shallow) }

pub list_plain : {A : Type 0} (f : A → Data) (xs : List A) (n : ℕ) → AllByRecursion (λ x. IsPlain n (f x)) xs → IsPlain (n + 1) (list_of (map f xs))
list_plain f [] n each = record { spelled = tt; shallow = omega arith }
list_plain f (x ∷ xs) n each =
    let rest = list_plain f xs n each.1 in
    record { spelled = (each.0.spelled, rest.spelled); shallow = omega (arith, each.0.shallow, rest.shallow) }

pub text_plain : (n : ℕ) (s : List ℕ) → IsUtf8 s → IsPlain n (string s)
text_plain n s text = record { spelled = text; shallow = omega arith }

pub closed_plain : (n : ℕ) (s : List ℕ) → are_ascii s ≡ true → IsPlain n (string s)
closed_plain n s ascii = text_plain n s (IsUtf8-are_ascii s ascii)

pub natural_plain : (n number : ℕ) → number < 2 ^ 64 → IsPlain n (natural number)
natural_plain n number small = record { spelled = small; shallow = omega arith }

pub integer_plain : (n : ℕ) (z : ℤ) → IsWhole z → IsPlain n (integer z)
integer_plain n (pos k) is = record { spelled = omega (arith, ints, is.to_greatest); shallow = omega arith }
integer_plain n (negsuc k) is = record { spelled = omega (arith, ints, is.from_least); shallow = omega arith }

pub either_plain : (b : Bool) (n : ℕ) (d e : Data) → IsPlain n d → IsPlain n e → IsPlain n (cond b d e)
either_plain true n d e one other = one
either_plain false n d e one other = other

pub bound_plain : (n : ℕ) (z : ℤ) → IsWhole z → IsPlain n (bound_data z)
bound_plain n z is =
    either_plain (int_eq z minus_infinity) n (string (codes "-inf")) _ (closed_plain n (codes "-inf") refl)
    (either_plain (int_eq z plus_infinity) n (string (codes "+inf")) (integer z) (closed_plain n (codes "+inf") refl) (integer_plain n z is))

-- each of a list, by what is so at each place
pub each_at : {A : Type 0} (P : A → Type 0) (d : A) (xs : List A) → ((k : ℕ) → k < length xs → P (get_or xs k d)) → AllByRecursion P xs
each_at P d [] at = tt
each_at P d (x ∷ xs) at = (at 0 (omega arith), each_at P d xs (λ k below. at (suc k) (omega arith)))

-- numbers of 64 bits
pub numbers_plain : (ns : List ℕ) → AllByRecursion (λ n. n < 2 ^ 64) ns → IsPlain 1 (numbers_data ns)
numbers_plain ns each = list_plain natural ns 0 (go ns each)
  where
    go : (xs : List ℕ) → AllByRecursion (λ n. n < 2 ^ 64) xs → AllByRecursion (λ n. IsPlain 0 (natural n)) xs
    go [] all = tt
    go (x ∷ xs) all = (natural_plain 0 x all.0, go xs all.1)

pub indices_plain : (zs : List ℤ) → AllByRecursion IsWhole zs → IsPlain 1 (indices_data zs)
indices_plain zs each = list_plain integer zs 0 (go zs each)
  where
    go : (xs : List ℤ) → AllByRecursion IsWhole xs → AllByRecursion (λ z. IsPlain 0 (integer z)) xs
    go [] all = tt
    go (x ∷ xs) all = (integer_plain 0 x all.0, go xs all.1)

pub dtype_plain : (n : ℕ) (dtype : Dtype) → IsPlain n (dtype_data dtype)
dtype_plain n I8 = closed_plain n (dtype_name I8) refl
dtype_plain n U8 = closed_plain n (dtype_name U8) refl
dtype_plain n I16 = closed_plain n (dtype_name I16) refl
dtype_plain n U16 = closed_plain n (dtype_name U16) refl
dtype_plain n I32 = closed_plain n (dtype_name I32) refl
dtype_plain n U32 = closed_plain n (dtype_name U32) refl
dtype_plain n I64 = closed_plain n (dtype_name I64) refl
dtype_plain n U64 = closed_plain n (dtype_name U64) refl

-- ---- domains and transforms

pub flagged_plain : (b : Bool) (d : Data) → IsPlain 0 d → IsPlain 1 (flagged b d)
flagged_plain true d is = record { spelled = (is.spelled, tt); shallow = omega (arith, is.shallow) }
flagged_plain false d is = wider 0 1 d (omega arith) is

lower_plain : (dim : Bounds) → AreBounds dim → IsPlain 1 (lower_data dim)
lower_plain dim are =
    let is : IsWhole dim.lo = record { from_least = omega (arith, ints, are.lo_from); to_greatest = omega (arith, ints, are.lo_below) } in
    flagged_plain dim.lo_implicit _ (either_plain (int_eq dim.lo minus_infinity) 0 (string (codes "-inf")) (integer dim.lo) (closed_plain 0 (codes "-inf") refl) (integer_plain 0 dim.lo is))

upper_plain : (dim : Bounds) → AreBounds dim → IsPlain 1 (upper_data dim)
upper_plain dim are =
    let is : IsWhole (dim.hi +ℤ pos 1) = record { from_least = omega (arith, ints, are.hi_above); to_greatest = omega (arith, ints, are.hi_to) } in
    flagged_plain dim.hi_implicit _
    (either_plain (int_eq dim.hi plus_infinity) 0 (string (codes "+inf")) (integer (dim.hi +ℤ pos 1)) (closed_plain 0 (codes "+inf") refl) (integer_plain 0 (dim.hi +ℤ pos 1) is))

bounds_plain : (f : Bounds → Data) → ((dim : Bounds) → AreBounds dim → IsPlain 1 (f dim)) → (dims : List Bounds) → list_all are_bounds dims ≡ true → IsPlain 2 (list_of (map f dims))
bounds_plain f each dims are = list_plain f dims 1 (go dims are)
  where
    go : (xs : List Bounds) → list_all are_bounds xs ≡ true → AllByRecursion (λ dim. IsPlain 1 (f dim)) xs
    go [] all = tt
    go (x ∷ xs) all = let both = and_parts _ _ all in (each x (AreBounds-true x both.0), go xs both.1)

pub labels_plain : (n : ℕ) (name : List ℕ) (labels : List (List ℕ)) (ms : Members) → are_ascii name ≡ true → AllByRecursion IsUtf8 labels → 1 ≤ n → ArePlain n ms → ArePlain n (with_labels name labels ms)
labels_plain n name labels ms ascii texts room rest =
    either (are_unlabelled labels) ms _ rest (put_named n name (list_of (map string labels)) ms ascii (wider 1 n _ room (list_plain string labels 0 (go labels texts))) rest)
  where
    go : (xs : List (List ℕ)) → AllByRecursion IsUtf8 xs → AllByRecursion (λ s. IsPlain 0 (string s)) xs
    go [] all = tt
    go (x ∷ xs) all = (text_plain 0 x all.0, go xs all.1)

    either : (b : Bool) (xs ys : Members) → ArePlain n xs → ArePlain n ys → ArePlain n (cond b xs ys)
    either true xs ys one other = one
    either false xs ys one other = other

pub object_plain : (n : ℕ) (ms : Members) → ArePlain n ms → IsPlain (n + 1) (object ms)
object_plain n ms are = record { spelled = are.spelled; shallow = omega (arith, are.shallow) }

pub domain_plain : (domain : Domain) → list_all are_bounds domain.dims ≡ true → AllByRecursion IsUtf8 domain.labels → IsPlain 3 (domain_data domain)
domain_plain domain are texts =
    object_plain 2 _
    (put_named 2 (codes "exclusive_max") _ _ refl (bounds_plain upper_data upper_plain domain.dims are)
    (put_named 2 (codes "inclusive_min") _ _ refl (bounds_plain lower_data lower_plain domain.dims are)
    (labels_plain 2 (codes "labels") domain.labels no_members refl texts (omega arith) (no_plain 2))))

take_whole : (n : ℕ) (zs : List ℤ) → AllByRecursion IsWhole zs → AllByRecursion IsWhole (take n zs)
take_whole zero zs each = tt
take_whole (suc n) [] each = tt
take_whole (suc n) (z ∷ zs) each = (each.0, take_whole n zs each.1)

drop_whole : (n : ℕ) (zs : List ℤ) → AllByRecursion IsWhole zs → AllByRecursion IsWhole (drop n zs)
drop_whole zero zs each = each
drop_whole (suc n) [] each = tt
drop_whole (suc n) (z ∷ zs) each = drop_whole n zs each.1

first_whole : (zs : List ℤ) → AllByRecursion IsWhole zs → IsWhole (get_or zs 0 (pos 0))
first_whole [] each = record { from_least = omega (arith, ints); to_greatest = omega (arith, ints) }
first_whole (z ∷ zs) each = each.0

each_nested : (sizes : List ℕ) (entries : List ℤ) → AllByRecursion IsWhole entries
    → ((es : List ℤ) → AllByRecursion IsWhole es → IsPlain (length sizes) (nested_data sizes es)) → (xs : List ℕ)
    → AllByRecursion (λ i. IsPlain (length sizes) (nested_data sizes (take (cell_count sizes) (drop (i * cell_count sizes) entries)))) xs
each_nested sizes entries each call [] = tt
each_nested sizes entries each call (x ∷ xs) = (
  call (take (cell_count sizes) (drop (x * cell_count sizes) entries)) (take_whole (cell_count sizes) (drop (x * cell_count sizes) entries) (drop_whole (x * cell_count sizes) entries each)),
  each_nested sizes entries each call xs,
)

pub nested_plain : (sizes : List ℕ) (entries : List ℤ) → AllByRecursion IsWhole entries → IsPlain (length sizes) (nested_data sizes entries)
nested_plain [] entries each = integer_plain 0 _ (first_whole entries each)
nested_plain (size ∷ sizes) entries each =
    wider (length sizes + 1) (suc (length sizes)) _ (omega arith)
    (list_plain (λ i. nested_data sizes (take (cell_count sizes) (drop (i * cell_count sizes) entries))) (range_with_len 0 size) (length sizes)
    (each_nested sizes entries each (nested_plain sizes) (range_with_len 0 size)))

pub number_member : (n : ℕ) (name : List ℕ) (usual z : ℤ) (ms : Members) → are_ascii name ≡ true → IsWhole z → ArePlain n ms → ArePlain n (with_number name usual z ms)
number_member n name usual z ms ascii is rest = either (int_eq z usual) (put_named n name (integer z) ms ascii (integer_plain n z is) rest)
  where
    either : (b : Bool) → ArePlain n (put name (integer z) ms) → ArePlain n (cond b ms (put name (integer z) ms))
    either true other = rest
    either false other = other

index_whole : (z : ℤ) → is_index z ≡ true → IsWhole z
index_whole z is = let within = is_index-true z is in record { from_least = omega (arith, ints, within.above); to_greatest = omega (arith, ints, within.below) }

entries_whole : (zs : List ℤ) → list_all is_index zs ≡ true → AllByRecursion IsWhole zs
entries_whole [] all = tt
entries_whole (z ∷ zs) all = let both = and_parts _ _ all in (index_whole z both.0, entries_whole zs both.1)

-- a map from these dimensions, of which there are 32 at most
map_plain : (dims : List Bounds) (m : OutMap) → length dims ≤ 32 → is_map dims m ≡ true → HasNumbers m → IsPlain 33 (map_data m)
map_plain dims (Constant offset) few is numbers = object_plain 32 _ (number_member 32 (codes "offset") (pos 0) offset no_members refl numbers (no_plain 32))
map_plain dims (Strided offset stride dim) few is numbers =
    object_plain 32 _
    (put_named 32 (codes "input_dimension") _ _ refl (natural_plain 32 dim numbers.1.1)
    (number_member 32 (codes "offset") (pos 0) offset _ refl numbers.0
    (number_member 32 (codes "stride") (pos 1) stride no_members refl numbers.1.0 (no_plain 32))))
map_plain dims (Indexed offset stride sizes entries) few is numbers =
    let both = and_parts (fits dims sizes) (are_entries sizes entries) is in
    let same = and_parts (length dims == length sizes) (list_all (λ p. fits_dim p.0 p.1) (zip dims sizes)) both.0 in
    let entered = and_parts (nat_le (cell_count sizes) 4194304 && (length entries == cell_count sizes)) (list_all is_index entries) both.1 in
    let ranks : length dims ≡ length sizes = eqb-true (length dims) (length sizes) same.0 in
    object_plain 32 _
    (put_named 32 (codes "index_array") _ _ refl (wider (length sizes) 32 _ (omega arith) (nested_plain sizes entries (entries_whole entries entered.1)))
    (number_member 32 (codes "offset") (pos 0) offset _ refl numbers.0
    (number_member 32 (codes "stride") (pos 1) stride no_members refl numbers.1 (no_plain 32))))

pub transform_plain : (t : DomainAndMaps) → IsTransform t → AllByRecursion IsUtf8 t.domain.labels → AllByRecursion HasNumbers t.maps → IsPlain 35 (transform_data t)
transform_plain t is texts numbers =
    let few : length t.domain.dims ≤ 32 = let first = and_parts (nat_le (length t.domain.dims) 32) (length t.domain.labels == length t.domain.dims) (and_parts (nat_le (length t.domain.dims) 32 && (length t.domain.labels == length t.domain.dims)) (nat_le (length t.maps) 32) is.ranks).0 in leb-true (length t.domain.dims) 32 first.0 in
    let bounds : list_all are_bounds t.domain.dims ≡ true = is.bounds in
    object_plain 34 _
    (put_named 34 (codes "input_exclusive_max") _ _ refl (wider 2 34 _ (omega arith) (bounds_plain upper_data upper_plain t.domain.dims bounds))
    (put_named 34 (codes "input_inclusive_min") _ _ refl (wider 2 34 _ (omega arith) (bounds_plain lower_data lower_plain t.domain.dims bounds))
    (labels_plain 34 (codes "input_labels") t.domain.labels _ refl texts (omega arith)
    (put_named 34 (codes "input_rank") _ _ refl (natural_plain 34 (length t.domain.dims) (omega arith))
    (put_named 34 (codes "output") _ no_members refl (list_plain map_data t.maps 33 (go few t.maps is.maps numbers)) (no_plain 34))))))
  where
    go : length t.domain.dims ≤ 32 → (xs : List OutMap) → list_all (is_map t.domain.dims) xs ≡ true → AllByRecursion HasNumbers xs → AllByRecursion (λ m. IsPlain 33 (map_data m)) xs
    go few [] all each = tt
    go few (x ∷ xs) all each = let both = and_parts _ _ all in (map_plain t.domain.dims x few both.0 each.0, go few xs both.1 each.1)

-- ---- the members of answers

-- a member of an answer's object
pub record IsOuter (m : Member) : Type 0 where
  pub ascii : are_ascii m.0 ≡ true
  pub plain : IsPlain 100 m.1

pub inner : {name : List ℕ} {d : Data} (n : ℕ) → are_ascii name ≡ true → n ≤ 50 → IsPlain n d → IsPlainMember (name, d)
inner {name} {d} n ascii below is = record { name = IsUtf8-are_ascii name ascii; value = wider n 50 d below is }

pub outer : {name : List ℕ} {d : Data} (n : ℕ) → are_ascii name ≡ true → n ≤ 100 → IsPlain n d → IsOuter (name, d)
outer {name} {d} n ascii below is = record { ascii = ascii; plain = wider n 100 d below is }

from_inner : (ms : List Member) → AllByRecursion IsPlainMember ms → ArePlain 50 (members_from ms)
from_inner [] each = no_plain 50
from_inner (m ∷ ms) each = put_plain 50 m.0 m.1 (members_from ms) each.0.name each.0.value (from_inner ms each.1)

from_outer : (ms : List Member) → AllByRecursion IsOuter ms → ArePlain 100 (members_from ms)
from_outer [] each = no_plain 100
from_outer (m ∷ ms) each = put_named 100 m.0 m.1 (members_from ms) each.0.ascii each.0.plain (from_outer ms each.1)

-- an object in an answer's object
pub object_outer : {name : List ℕ} (ms : List Member) → are_ascii name ≡ true → AllByRecursion IsPlainMember ms → IsOuter (name, object_of ms)
object_outer {name} ms ascii each = record { ascii = ascii; plain = wider 51 100 (object_of ms) (omega arith) (object_plain 50 (members_from ms) (from_inner ms each)) }

pub object_of_outer : (ms : List Member) → AllByRecursion IsOuter ms → IsPlain 101 (object_of ms)
object_of_outer ms each = object_plain 100 (members_from ms) (from_outer ms each)

-- a member that only says that it is so
pub true_plain : (n : ℕ) → IsPlain n (boolean true)
true_plain n = record { spelled = tt; shallow = omega arith }

-- a cause by its name
pub cause_plain : (name : List ℕ) → are_ascii name ≡ true → IsPlainMember (cause_member name)
cause_plain name ascii = inner 0 refl (omega arith) (closed_plain 0 name ascii)

-- a number of an `i64`
pub whole_of : (z : ℤ) → FitsSigned w64 z → IsWhole z
whole_of z fits = record { from_least = omega (arith, ints, fits); to_greatest = omega (arith, ints, fits) }
