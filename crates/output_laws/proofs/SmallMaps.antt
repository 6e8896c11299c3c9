-- A composition's numbers may be printed, where those of the outer transform may, and the inner one leads from few dimensions.
use Rattle.std.proofs.Common.{◌≡◌, ℕ, zero, suc, ◌+◌, ◌<◌, ◌≤◌, ◌==◌, ℤ, pos, negsuc, ◌+ℤ◌, ◌*ℤ◌, ◌≤ℤ◌, ◌<ℤ◌, Bool, true, false, cond, not, ◌||◌, List, [], ◌∷◌, length, map, get_or, Option, Some, None, Result, Ok, Err, refl, subst, arith}
use Rattle.std.specs.List.{AllByRecursion, list_any, position_from, zip}
use Rattle.std.specs.Str.{IsUtf8}
use Rattle.std.specs.Prelude.{int_le, int_lt}
use Rattle.std.proofs.lemmas.Bool.{and_parts}
use Rattle.std.proofs.lemmas.Int.{ints}
use Rattle.std.proofs.lemmas.List.{length-map}
use Rattle.index_intervals.specs.Bounds.{Bounds}
use Rattle.index_intervals.specs.Edges.{interval_of}
use Rattle.index_transform.specs.Cells.{cells_of}
use Rattle.index_transform.specs.Maps.{size_of}
use Rattle.index_transform.specs.Transforms.{DomainAndMaps, on_dims}
use Rattle.index_transform.specs.Values.{is_word}
use Rattle.index_transform.specs.declared.map.OutMap.{OutMap}
use Rattle.index_transform.specs.declared.map.OutMap.TheVariants.{Constant, Strided, Indexed}
use Rattle.transform_composition.specs.Composing.{nowhere, strided_over, composed_map, passes_over, passes_word, is_too_large, closed, closed_dims, joined, unless_passed, unless_large, joined_answer, over_tightened, composed}
use Rattle.transform_composition.specs.Inside.{first_outside_by}
use Rattle.transform_composition.specs.Reading.{has_array_along, point, read_dims, entry_over}
use Rattle.transform_composition.specs.Tightening.{tight_lower, tight_upper, tight_dims, tightened, on_result, first_overflow_by, unless_overflow_by, unless_outside_by}
use Rattle.transform_composition.specs.declared.error.ComposeError.{ComposeError}
use Rattle.transform_composition.specs.declared.error.ComposeError.TheVariants as compose
use Rattle.transform_composition.proofs.TightLemmas.{tight_lower-index, tight_upper-index}
use Rattle.output_laws.specs.Plain.{IsWhole}
use Rattle.output_laws.specs.Small.{IsSmallDim, IsLed, IsSmallMap, IsSmall, IsSmallInner, IsSmallFault}
use Rattle.output_laws.proofs.SmallDims.{between_small}

-- ---- lists

pub all_at : {A : Type 0} (P : A → Type 0) (d : A) (xs : List A) (k : ℕ) → P d → AllByRecursion P xs → P (get_or xs k d)
all_at P d [] k none all = none
all_at P d (x ∷ xs) zero none all = all.0
all_at P d (x ∷ xs) (suc k) none all = all_at P d xs k none all.1

pub map_all : {A B : Type 0} (P : B → Type 0) (f : A → B) (xs : List A) → ((x : A) → P (f x)) → AllByRecursion P (map f xs)
map_all P f [] each = tt
map_all P f (x ∷ xs) each = (each x, map_all P f xs each)

pub map_of : {A B : Type 0} (P : A → Type 0) (Q : B → Type 0) (f : A → B) (xs : List A) → ((x : A) → P x → Q (f x)) → AllByRecursion P xs → AllByRecursion Q (map f xs)
map_of P Q f [] each all = tt
map_of P Q f (x ∷ xs) each all = (each x all.0, map_of P Q f xs each all.1)

-- ---- numbers

pub word_whole : (x : ℤ) → is_word x ≡ true → IsWhole x
word_whole x is =
    let p = and_parts (int_le (negsuc 9223372036854775807) x) (int_lt x (pos 9223372036854775808)) is in
    let low : negsuc 9223372036854775807 ≤ℤ x = grind (arith, ints, p.0) in
    let high : x <ℤ pos 9223372036854775808 = grind (arith, ints, p.1) in
    record { from_least = low; to_greatest = omega (arith, ints, high) }

pub zero_whole : IsWhole (pos 0)
zero_whole = record { from_least = omega (arith, ints); to_greatest = omega (arith, ints) }

unpassed : (b : Bool) → not b ≡ false → b ≡ true
unpassed true e = refl
unpassed false e = absurd (cc)

neither : (a b : Bool) → (a || b) ≡ false → (a ≡ false) × (b ≡ false)
neither true b e = absurd (cc)
neither false b e = (refl, e)

over_small : (o s : ℤ) (m : OutMap) → IsLed m → passes_over o s m ≡ false → IsSmallMap (strided_over o s m)
over_small o s (Constant p) led none = word_whole (o +ℤ s *ℤ p) (unpassed (is_word (o +ℤ s *ℤ p)) none)
over_small o s (Strided p q dim) led none =
    let both = neither (not (is_word (o +ℤ s *ℤ p))) (not (is_word (s *ℤ q))) none in
    (word_whole (o +ℤ s *ℤ p) (unpassed (is_word (o +ℤ s *ℤ p)) both.0), word_whole (s *ℤ q) (unpassed (is_word (s *ℤ q)) both.1), led)
over_small o s (Indexed p q sizes entries) led none =
    let both = neither (not (is_word (o +ℤ s *ℤ p))) (not (is_word (s *ℤ q))) none in
    (word_whole (o +ℤ s *ℤ p) (unpassed (is_word (o +ℤ s *ℤ p)) both.0), word_whole (s *ℤ q) (unpassed (is_word (s *ℤ q)) both.1), led.0, led.1)

count_read : (k : ℕ) (dims : List Bounds) (sizes : List ℕ) (inners : List OutMap) → length (read_dims k dims sizes inners) ≡ length dims
count_read k [] sizes inners = refl
count_read k (dim ∷ dims) sizes inners = let rest = count_read (k + 1) dims sizes inners in omega (arith, rest)

map_small : (outers dims : List Bounds) (inners : List OutMap) (m : OutMap) → length dims ≤ 32 → AllByRecursion IsLed inners → IsSmallMap m → passes_word inners m ≡ false → IsSmallMap (composed_map outers dims inners m)
map_small outers dims inners (Constant o) few led small none = small
map_small outers dims inners (Strided o s from) few led small none = over_small o s (get_or inners from nowhere) (all_at IsLed nowhere inners from tt led) none
map_small outers dims inners (Indexed o s sizes entries) few led small none =
    let one = length-map (read_dims 0 dims sizes inners) size_of in
    let other = count_read 0 dims sizes inners in (
      small.0,
      small.1,
      omega (arith, one, other, few),
      map_all IsWhole (entry_over outers sizes entries dims inners) (cells_of (read_dims 0 dims sizes inners)) (λ cell. all_at IsWhole (pos 0) entries _ zero_whole small.3),
    )

pub none_of : {A : Type 0} (p : A → Bool) (k : ℕ) (x : A) (xs : List A) → position_from p k (x ∷ xs) ≡ None → (p x ≡ false) × (position_from p (k + 1) xs ≡ None)
none_of p k x xs is = go (p x) refl is
  where
    go : (t : Bool) → p x ≡ t → cond t (Some k) (position_from p (k + 1) xs) ≡ None → (p x ≡ false) × (position_from p (k + 1) xs ≡ None)
    go true e given = absurd (cc)
    go false e given = (e, given)

maps_small : (outers dims : List Bounds) (inners : List OutMap) (k : ℕ) (ms : List OutMap) → length dims ≤ 32 → AllByRecursion IsLed inners → AllByRecursion IsSmallMap ms → position_from (passes_word inners) k ms ≡ None
    → AllByRecursion IsSmallMap (map (composed_map outers dims inners) ms)
maps_small outers dims inners k [] few led all none = tt
maps_small outers dims inners k (m ∷ ms) few led all none =
    let both = none_of (passes_word inners) k m ms none in
    (map_small outers dims inners m few led all.0 both.0, maps_small outers dims inners (k + 1) ms few led all.1 both.1)

-- ---- dimensions

closed_small : (k : ℕ) (dims : List Bounds) (ms : List OutMap) → AllByRecursion IsSmallDim dims → AllByRecursion IsSmallDim (closed_dims k dims ms)
closed_small k [] ms all = tt
closed_small k (dim ∷ dims) ms all = (go (list_any (has_array_along k) ms), closed_small (k + 1) dims ms all.1)
  where
    go : (t : Bool) → IsSmallDim (cond t (closed dim) dim)
    go true = record { lo = all.0.lo; hi = all.0.hi }
    go false = all.0

count_closed : (k : ℕ) (dims : List Bounds) (ms : List OutMap) → length (closed_dims k dims ms) ≡ length dims
count_closed k [] ms = refl
count_closed k (dim ∷ dims) ms = let rest = count_closed (k + 1) dims ms in omega (arith, rest)

-- ---- compositions

-- what it gives is small, or why it gives nothing
abbrev pub IsSmallAnswer : Result DomainAndMaps ComposeError → Type 0
IsSmallAnswer (Ok t) = IsSmall t
IsSmallAnswer (Err e) = IsSmallFault e

pub position_low : {A : Type 0} (p : A → Bool) (k : ℕ) (xs : List A) (n : ℕ) → position_from p k xs ≡ Some n → n < k + length xs
position_low p k [] n is = absurd (cc)
position_low p k (x ∷ xs) n is = go (p x) (position_low p (k + 1) xs n) is
  where
    go : (t : Bool) → (position_from p (k + 1) xs ≡ Some n → n < k + 1 + length xs) → cond t (Some k) (position_from p (k + 1) xs) ≡ Some n → n < k + length (x ∷ xs)
    go true more given = let same : k ≡ n = cc in omega (arith, same)
    go false more given = let rest = more given in omega (arith, rest)

pub joined_small : (u v : DomainAndMaps) → IsSmall u → IsSmallInner v → IsSmallAnswer (joined_answer u v)
joined_small u v small inner = go (position_from (passes_word v.maps) 0 u.maps) refl
  where
    whole : position_from (passes_word v.maps) 0 u.maps ≡ None → IsSmall (joined u v)
    whole none =
        let ms = map (composed_map u.domain.dims v.domain.dims v.maps) u.maps in
        let count = count_closed 0 v.domain.dims ms in
        let outputs = length-map u.maps (composed_map u.domain.dims v.domain.dims v.maps) in
        record {
          dims = closed_small 0 v.domain.dims ms inner.dims;
          labels = inner.labels;
          maps = maps_small u.domain.dims v.domain.dims v.maps 0 u.maps inner.few inner.maps small.maps none;
          few = omega (arith, count, inner.few);
          outputs = omega (arith, outputs, small.outputs);
        }

    large : (o : Option ℕ) → position_from (is_too_large v.domain.dims v.maps) 0 u.maps ≡ o → IsSmall (joined u v) → IsSmallAnswer (unless_large o (joined u v))
    large None is has = has
    large (Some n) is has = let low = position_low (is_too_large v.domain.dims v.maps) 0 u.maps n is in omega (arith, low, small.outputs)

    go : (o : Option ℕ) → position_from (passes_word v.maps) 0 u.maps ≡ o → IsSmallAnswer (unless_passed o (unless_large (position_from (is_too_large v.domain.dims v.maps) 0 u.maps) (joined u v)))
    go None is = large (position_from (is_too_large v.domain.dims v.maps) 0 u.maps) refl (whole is)
    go (Some n) is = let low = position_low (passes_word v.maps) 0 u.maps n is in omega (arith, low, small.outputs)

-- ---- tightened dimensions

-- the interval of a dimension between its edges
abbrev tight_at : List Bounds → List OutMap → ℕ → Bounds → Bounds
tight_at outers ms k dim = interval_of (tight_lower k dim outers ms) (tight_upper k dim outers ms)

tight_from : (inners outers : List Bounds) (ms : List OutMap) (n : ℕ) (rest : List Bounds) → ((k : ℕ) → k < length rest → IsSmallDim (tight_at outers ms (n + k) (get_or rest k point))) → AllByRecursion IsSmallDim (tight_dims n rest outers ms)
tight_from inners outers ms n [] each = tt
tight_from inners outers ms n (d ∷ rest) each =
    let here : n + 0 ≡ n = omega arith in (
      subst (λ i. IsSmallDim (tight_at outers ms i d)) here (each 0 (omega arith)),
      tight_from inners outers ms (n + 1) rest
          (λ k low. let next : n + suc k ≡ n + 1 + k = omega arith in subst (λ i. IsSmallDim (tight_at outers ms i (get_or rest k point))) next (each (suc k) (omega (arith, low)))),
    )

tight_small : (inners outers : List Bounds) (ms : List OutMap) → first_overflow_by inners outers ms ≡ None → AllByRecursion IsSmallDim (tight_dims 0 inners outers ms)
tight_small inners outers ms none = tight_from inners outers ms 0 inners (λ k low. let z : k ≡ 0 + k = omega arith in subst (λ i. IsSmallDim (tight_at outers ms i (get_or inners k point))) z (one k low))
  where
    inside : (ds : List Bounds) (k : ℕ) → k < length ds → get_or ds k point ≡ get_or ds k (get_or ds k point)
    inside [] k low = absurd (omega (arith, low))
    inside (d ∷ ds) zero low = refl
    inside (d ∷ ds) (suc k) low = inside ds k (omega (arith, low))

    one : (k : ℕ) → k < length inners → IsSmallDim (tight_at outers ms k (get_or inners k point))
    one k low =
        let at = inside inners k low in
        between_small (tight_lower k (get_or inners k point) outers ms) (tight_upper k (get_or inners k point) outers ms)
        (tight_lower-index inners outers ms k (get_or inners k point) low at none) (tight_upper-index inners outers ms k (get_or inners k point) low at none)

tight_count : (k : ℕ) (inners outers : List Bounds) (ms : List OutMap) → length (tight_dims k inners outers ms) ≡ length inners
tight_count k [] outers ms = refl
tight_count k (d ∷ inners) outers ms = let rest = tight_count (k + 1) inners outers ms in omega (arith, rest)

-- what dimensions become, or why they don't
abbrev AreTight : ℕ → Result (List Bounds) ComposeError → Type 0
AreTight n (Ok dims) = AllByRecursion IsSmallDim dims × (length dims ≡ n)
AreTight n (Err e) = IsSmallFault e

zip_few : (k : ℕ) (xs : List Bounds) (ms : List OutMap) → length (zip xs ms) ≤ length ms
zip_few k [] ms = omega arith
zip_few k (x ∷ xs) [] = omega arith
zip_few k (x ∷ xs) (m ∷ ms) = let rest = zip_few k xs ms in omega (arith, rest)

tightened_small : (inners outers : List Bounds) (ms : List OutMap) → length ms ≤ 32 → AreTight (length inners) (tightened inners outers ms)
tightened_small inners outers ms few = go (length ms == length outers)
  where
    outside : (o : Option ℕ) → first_outside_by (tight_dims 0 inners outers ms) outers ms ≡ o → AllByRecursion IsSmallDim (tight_dims 0 inners outers ms) → AreTight (length inners) (unless_outside_by o (tight_dims 0 inners outers ms))
    outside None is all = (all, tight_count 0 inners outers ms)
    outside (Some n) is all =
        let low = position_low _ 0 (zip outers ms) n is in
        let less = zip_few 0 outers ms in
        omega (arith, low, less, few)

    flows : (o : Option ℕ) → first_overflow_by inners outers ms ≡ o → AreTight (length inners) (unless_overflow_by o (unless_outside_by (first_outside_by (tight_dims 0 inners outers ms) outers ms) (tight_dims 0 inners outers ms)))
    flows None is = outside (first_outside_by (tight_dims 0 inners outers ms) outers ms) refl (tight_small inners outers ms is)
    flows (Some n) is =
        let low = position_low _ 0 (zip outers ms) n is in
        let less = zip_few 0 outers ms in
        omega (arith, low, less, few)

    go : (t : Bool) → AreTight (length inners) (cond (not t) (Err compose.Rank) (unless_overflow_by (first_overflow_by inners outers ms) (unless_outside_by (first_outside_by (tight_dims 0 inners outers ms) outers ms) (tight_dims 0 inners outers ms))))
    go false = tt
    go true = flows (first_overflow_by inners outers ms) refl

-- the numbers of a further transform, whatever its bounds are
pub record IsFurther (t : DomainAndMaps) : Type 0 where
  pub labels : AllByRecursion IsUtf8 t.domain.labels
  pub maps : AllByRecursion IsLed t.maps
  pub few : length t.domain.dims ≤ 32
  pub outputs : length t.maps ≤ 32

-- a transform seen through a further one
pub composed_small : (outer inner : DomainAndMaps) → IsSmall outer → IsFurther inner → IsSmallAnswer (composed outer inner)
composed_small outer inner small further = go (tightened inner.domain.dims outer.domain.dims inner.maps) (tightened_small inner.domain.dims outer.domain.dims inner.maps further.outputs)
  where
    go : (r : Result (List Bounds) ComposeError) → AreTight (length inner.domain.dims) r → IsSmallAnswer (over_tightened outer (on_result inner r))
    go (Ok dims) tight = joined_small outer (on_dims inner dims) small (record { dims = tight.0; labels = further.labels; maps = further.maps; few = let same = tight.1 in omega (arith, same, further.few) })
    go (Err e) fault = fault
