-- Steps leave numbers and texts that may be printed, and so are the causes why they aren't done.
use Rattle.std.proofs.Common.{◌≡◌, ℕ, zero, suc, ◌+◌, ◌<◌, ◌≤◌, ◌^◌, ◌==◌, ◌&&◌, ◌||◌, nat_le, leb-true, ℤ, pos, neg_ℤ, ◌+ℤ◌, ◌-ℤ◌, Bool, true, false, cond, List, [], ◌∷◌, ◌++◌, length, map, filter, Option, Some, None, option_map, option_and_then, unwrap_or, Result, Ok, Err, refl, subst, arith, unsigned_abs}
use Rattle.std.specs.Prelude.{not, int_le, int_lt, is_none}
use Rattle.std.specs.List.{AllByRecursion, range_with_len, enumerate_from, list_any, list_all}
use Rattle.std.specs.Ordering.{int_eq}
use Rattle.std.specs.Str.{IsUtf8}
use Rattle.std.proofs.lemmas.Bool.{and_parts}
use Rattle.std.proofs.lemmas.Int.{ints}
use Rattle.std.proofs.lemmas.List.{length-append, length-map}
use Rattle.std.proofs.lemmas.Str.{IsUtf8-nil}
use Rattle.json_forms.specs.Lists.{all_of}
use Rattle.index_intervals.specs.Bounds.{Bounds, is_index, minus_infinity, plus_infinity}
use Rattle.index_intervals.specs.Members.{effective_lo, effective_hi}
use Rattle.index_intervals.specs.Shift.{shifted}
use Rattle.index_intervals.specs.Slice.{sliced, is_open, is_backward, is_inside, slice_start, slice_stop, slice_hi, kept_part}
use Rattle.index_intervals.specs.Stride.{strided}
use Rattle.index_intervals.specs.declared.slice.Sliced.{Sliced}
use Rattle.index_intervals.specs.declared.slice.SliceError.{SliceError}
use Rattle.index_intervals.specs.declared.slice.SliceError.TheVariants as slice
use Rattle.index_intervals.proofs.SlicedLemmas.{int_eq-true}
use Rattle.index_transform.specs.Maps.{are_labels}
use Rattle.index_transform.specs.Transforms.{DomainAndMaps}
use Rattle.index_transform.specs.declared.map.OutMap.{OutMap}
use Rattle.transform_composition.specs.Composing.{joined_answer}
use Rattle.index_transform.specs.Values.{is_effective}
use Rattle.transform_composition.specs.Reading.{point, depends_on}
use Rattle.transform_composition.specs.declared.error.ComposeError.{ComposeError}
use Rattle.transform_composition.specs.declared.error.ComposeError.TheVariants as compose
use Rattle.step_forms.specs.Given.{number_for, part_for, IsIndexPart}
use Rattle.step_forms.specs.Selection.{has_repeat, selected_of}
use Rattle.step_forms.specs.Steps.{is_newaxis}
use Rattle.step_forms.specs.declared.act.Act.{Act}
use Rattle.step_forms.specs.declared.act.Act.TheVariants as act
use Rattle.step_forms.specs.declared.act.Numbers.{Numbers}
use Rattle.step_forms.specs.declared.act.SlicePart.{SlicePart}
use Rattle.step_forms.specs.declared.act.Step.{Step}
use Rattle.step_forms.specs.declared.selection.SelectError.{SelectError}
use Rattle.step_forms.specs.declared.selection.SelectError.TheVariants as select
use Rattle.dim_changes.specs.Causes.{with_cause, first_cause, unless_refused, or_cause, over}
use Rattle.dim_changes.specs.CutViews.{cause_at, cut_causes, cut_or_kept, cut_at, cut_view, cut_answer}
use Rattle.dim_changes.specs.Cuts.{cut_counts, kept, can_move, moved_by, moved_to, moved_back, strided_by, slice_cause, sliced_by, by_number, cut_for}
use Rattle.dim_changes.specs.Dims.{position_of, spot_in, others, dim_at, label_at}
use Rattle.dim_changes.specs.Marks.{new_label, new_labels, with_labels, only_labels, marked, marked_dim, with_marks, has_array_on, makes_implicit}
use Rattle.dim_changes.specs.declared.cause.Cause.{Cause}
use Rattle.dim_changes.specs.declared.cause.Cause.TheVariants as cause
use Rattle.dim_changes.specs.declared.cut.Cut.{Cut}
use Rattle.dim_changes.proofs.Laws.{range-length, rest_few}
use Rattle.dim_expressions.specs.Answers.{step_answer}
use Rattle.dim_expressions.specs.Applying.{numbered, answer_on, after_step, applied_from, applied}
use Rattle.dim_expressions.specs.Arrays.{array_map, array_dim, array_at, entries_cause, length_cause, array_cause, array_causes}
use Rattle.dim_expressions.specs.At.{numbers_count, at_number, at_cause, at_causes, at_map, at_view}
use Rattle.dim_expressions.specs.Diagonal.{meet_of, selected_dims, diagonal_map, diagonal_view}
use Rattle.dim_expressions.specs.Left.{all_dims, rank_of, left_by, left_map, without}
use Rattle.dim_expressions.specs.Newaxis.{new_axis, axis_by, axis_label_by, newaxis_view}
use Rattle.dim_expressions.specs.Oindex.{dim_by, label_by, map_by, indexed_dim, oindex_view}
use Rattle.dim_expressions.specs.Transpose.{carried_by, old_dim, transpose_view, to_targets}
use Rattle.dim_expressions.specs.Vindex.{vindex_map, vindex_view, are_joined}
use Rattle.dim_expressions.specs.declared.error.ApplyError.{ApplyError}
use Rattle.dim_expressions.proofs.MeetLaws.{meet_bounds}
use Rattle.output_laws.specs.Plain.{IsWhole}
use Rattle.output_laws.specs.Small.{IsNear, IsSmallDim, IsLed, IsSmall, IsSmallInner, IsSmallAct, IsSmallArray, IsSmallCause, IsSmallApplied, IsSmallStep}
use Rattle.output_laws.proofs.Ranks.{HasRank}
use Rattle.output_laws.proofs.StepRanks.{AreBelow, fewer, selected_below, after_gives}
use Rattle.output_laws.proofs.SmallDims.{shifted_small, strided_small, sliced_small}
use Rattle.output_laws.proofs.SmallMaps.{all_at, map_all, position_low, joined_small, IsSmallAnswer}

-- ---- numbers and lists

near_whole : (z : ℤ) → IsNear z → IsWhole z
near_whole z near = record { from_least = omega (arith, ints, near.from_least); to_greatest = omega (arith, ints, near.to_greatest) }

point_small : IsSmallDim point
point_small = record { lo = record { from_least = omega (arith, ints); to_greatest = omega (arith, ints) }; hi = record { from_least = omega (arith, ints); to_greatest = omega (arith, ints) } }

range_map : {A : Type 0} (P : A → Type 0) (f : ℕ → A) (first n : ℕ) → ((i : ℕ) → i < first + n → P (f i)) → AllByRecursion P (map f (range_with_len first n))
range_map P f first zero each = tt
range_map P f first (suc n) each = (each first (omega arith), range_map P f (first + 1) n (λ i low. each i (omega (arith, low))))

with_all : {A : Type 0} (P : A → Type 0) (xs ys : List A) → AllByRecursion P xs → AllByRecursion P ys → AllByRecursion P (xs ++ ys)
with_all P [] ys one two = two
with_all P (x ∷ xs) ys one two = (one.0, with_all P xs ys one.1 two)

filter_all : {A : Type 0} (P : A → Type 0) (p : A → Bool) (xs : List A) → AllByRecursion P xs → AllByRecursion P (filter p xs)
filter_all P p [] all = tt
filter_all P p (x ∷ xs) all = go (p x) (filter_all P p xs all.1)
  where
    go : (t : Bool) → AllByRecursion P (filter p xs) → AllByRecursion P (cond t (x ∷ filter p xs) (filter p xs))
    go true rest = (all.0, rest)
    go false rest = rest

range_low : (most first n : ℕ) → first + n ≤ most → AllByRecursion (λ d. d < most) (range_with_len first n)
range_low most first zero low = tt
range_low most first (suc n) low = (omega (arith, low), range_low most (first + 1) n (omega (arith, low)))

raised : (few most : ℕ) (ds : List ℕ) → few ≤ most → AllByRecursion (λ d. d < few) ds → AllByRecursion (λ d. d < most) ds
raised few most [] more all = tt
raised few most (d ∷ ds) more all = (omega (arith, more, all.0), raised few most ds more all.1)

others_low : (selected : List ℕ) (rank : ℕ) → rank ≤ 32 → AllByRecursion (λ d. d < 2 ^ 64) (others selected rank)
others_low selected rank few = filter_all (λ d. d < 2 ^ 64) (λ dim. is_none (spot_in selected dim)) (range_with_len 0 rank) (range_low (2 ^ 64) 0 rank (omega (arith, few)))

of_all : {A B : Type 0} (P : B → Type 0) (f : A → Option B) (xs : List A) (ys : List B) → ((x : A) (y : B) → f x ≡ Some y → P y) → all_of f xs ≡ Some ys → AllByRecursion P ys
of_all P f [] ys each is = let same : [] ≡ ys = cc in subst (AllByRecursion P) same tt
of_all P f (x ∷ xs) ys each is = go (f x) refl (all_of f xs) (λ zs. of_all P f xs zs each) is
  where
    go : (o : Option _) → f x ≡ o → (p : Option (List _)) → ((zs : List _) → p ≡ Some zs → AllByRecursion P zs) → option_and_then (λ y. option_map (λ zs. y ∷ zs) p) o ≡ Some ys → AllByRecursion P ys
    go None at p rest given = absurd (cc)
    go (Some y) at None rest given = absurd (cc)
    go (Some y) at (Some zs) rest given = let same : y ∷ zs ≡ ys = cc in subst (AllByRecursion P) same (each x y at, rest zs refl)

dims_at : (dims : List Bounds) (k : ℕ) → AllByRecursion IsSmallDim dims → IsSmallDim (dim_at dims k)
dims_at dims k all = all_at IsSmallDim point dims k point_small all

labels_at : (labels : List (List ℕ)) (k : ℕ) → AllByRecursion IsUtf8 labels → IsUtf8 (label_at labels k)
labels_at labels k all = all_at IsUtf8 [] labels k IsUtf8-nil all

-- ---- causes

abbrev MayCause : Option Cause → Type 0
MayCause None = Unit {0}
MayCause (Some c) = IsSmallCause c

abbrev IsOutcome : Result DomainAndMaps Cause → Type 0
IsOutcome (Ok t) = IsSmall t
IsOutcome (Err c) = IsSmallCause c

effective_out : (dim : Bounds) → IsSmallDim dim → IsSmallCause (cause.OutOfRange (effective_lo dim) (effective_hi dim))
effective_out dim small = (low dim.lo_implicit, high dim.hi_implicit)
  where
    low : (t : Bool) → IsWhole (cond t minus_infinity dim.lo)
    low true = record { from_least = omega (arith, ints); to_greatest = omega (arith, ints) }
    low false = near_whole dim.lo small.lo

    high : (t : Bool) → IsWhole (cond t plus_infinity dim.hi)
    high true = record { from_least = omega (arith, ints); to_greatest = omega (arith, ints) }
    high false = near_whole dim.hi small.hi

with_small : (one two : Option Cause) → MayCause one → MayCause two → MayCause (with_cause one two)
with_small None two first second = second
with_small (Some c) None first second = first
with_small (Some c) (Some d) first second = go _
  where
    go : (t : Bool) → IsSmallCause (cond t d c)
    go true = second
    go false = first

first_small : (causes : List (Option Cause)) → AllByRecursion MayCause causes → MayCause (first_cause causes)
first_small [] all = tt
first_small (c ∷ causes) all = with_small c (first_cause causes) all.0 (first_small causes all.1)

unless_small : (o : Option Cause) (r : Result DomainAndMaps Cause) → MayCause o → IsOutcome r → IsOutcome (unless_refused o r)
unless_small None r may is = is
unless_small (Some c) r may is = may

either : (t : Bool) (x y : Result DomainAndMaps Cause) → IsOutcome x → IsOutcome y → IsOutcome (cond t x y)
either true x y one two = one
either false x y one two = two

-- refused by a cause, or not
refused_if : (t : Bool) (c : Cause) (r : Result DomainAndMaps Cause) → IsSmallCause c → IsOutcome r → IsOutcome (cond t (Err c) r)
refused_if true c r one two = one
refused_if false c r one two = two

over_small : (u v : DomainAndMaps) → IsSmall u → IsSmallInner v → IsOutcome (over u v)
over_small u v small inner = go (joined_answer u v) (joined_small u v small inner)
  where
    go : (r : Result DomainAndMaps ComposeError) → IsSmallAnswer r → IsOutcome (or_cause r)
    go (Ok t) is = is
    go (Err compose.Rank) is = tt
    go (Err (compose.Overflow output)) is = tt
    go (Err (compose.Outside output)) is = tt
    go (Err (compose.TooLarge output)) is = tt
    go (Err compose.Memory) is = tt

-- ---- cuts

abbrev IsCut : Result Cut Cause → Type 0
IsCut (Ok c) = IsSmallDim c.dim
IsCut (Err c) = IsSmallCause c

moved_cut : (dim : Bounds) (by : ℤ) → IsSmallDim dim → IsCut (moved_by dim by)
moved_cut dim by small = go (can_move by dim.lo && can_move by dim.hi) refl
  where
    go : (t : Bool) → (can_move by dim.lo && can_move by dim.hi) ≡ t → IsCut (cond t (Ok (record { dim = shifted dim by; offset = neg_ℤ by; stride = pos 1 })) (Err cause.Overflow))
    go true is = let p = and_parts (can_move by dim.lo) (can_move by dim.hi) is in shifted_small dim by small p.0 p.1
    go false is = tt

moved_to_cut : (dim : Bounds) (origin : ℤ) → IsSmallDim dim → IsCut (moved_to dim origin)
moved_to_cut dim origin small = go (is_index dim.lo)
  where
    go : (t : Bool) → IsCut (cond t (moved_by dim (origin -ℤ dim.lo)) (Err cause.Unbounded))
    go true = moved_cut dim _ small
    go false = tt

strided_cut : (dim : Bounds) (s : ℤ) → IsSmallDim dim → IsCut (strided_by dim s)
strided_cut dim s small = go (int_eq s (pos 0)) refl
  where
    go : (t : Bool) → int_eq s (pos 0) ≡ t → IsCut (cond t (Err cause.ZeroStep) (Ok (record { dim = strided dim s; offset = pos 0; stride = s })))
    go true is = tt
    go false is = strided_small dim s small (λ same. let zero_is = int_eq-true s (pos 0) same in absurd (cc))

abbrev IsSliceFault : Result Sliced SliceError → Type 0
IsSliceFault (Ok s) = Unit {0}
IsSliceFault (Err e) = IsSmallCause (slice_cause e)

slice_fault : (dim : Bounds) (start stop : Option ℤ) (step : ℤ) → IsSmallDim dim → IsSliceFault (sliced dim start stop step)
slice_fault dim start stop step small =
    let from = slice_start dim start step in
    let to = slice_stop dim stop step in
    pick (int_eq step (pos 0)) (Err slice.ZeroStep) _ tt
    (pick (is_open dim start stop step) (Err slice.Unbounded) _ tt
    (pick (is_backward step from to) (Err slice.BadOrder) _ tt
    (pick (is_inside dim step from to && int_lt minus_infinity (slice_hi step from to)) (Ok (kept_part dim start stop step)) (Err (slice.OutOfRange (effective_lo dim) (effective_hi dim))) tt (effective_out dim small))))
  where
    pick : (t : Bool) (x y : Result Sliced SliceError) → IsSliceFault x → IsSliceFault y → IsSliceFault (cond t x y)
    pick true x y one two = one
    pick false x y one two = two

sliced_cut : (dim : Bounds) (part : SlicePart) → IsSmallDim dim → IsIndexPart part → IsCut (sliced_by dim part)
sliced_cut dim part small index = go (sliced dim part.start part.stop part.step) refl (slice_fault dim part.start part.stop part.step small)
  where
    go : (r : Result Sliced SliceError) → sliced dim part.start part.stop part.step ≡ r → IsSliceFault r
        → IsCut (elim r [ Ok s ↦ Ok (record { dim = s.interval; offset = s.offset; stride = s.step }) | Err e ↦ Err (slice_cause e) ])
    go (Ok s) is fault = sliced_small dim part.start part.stop part.step s small index.start index.stop is
    go (Err e) is fault = fault

number_cut : (f : Bounds → ℤ → Result Cut Cause) (o : Option ℤ) (dim : Bounds) → IsSmallDim dim → ((n : ℤ) → IsCut (f dim n)) → IsCut (by_number f o dim)
number_cut f None dim small each = small
number_cut f (Some n) dim small each = each n

cut_small : (a : Act) (spot : ℕ) (dim : Bounds) → IsSmallAct a → IsSmallDim dim → IsCut (cut_for a spot dim)
cut_small (act.TranslateTo by) spot dim given small = number_cut moved_to (number_for by spot) dim small (λ n. moved_to_cut dim n small)
cut_small (act.TranslateBy by) spot dim given small = number_cut moved_by (number_for by spot) dim small (λ n. moved_cut dim n small)
cut_small (act.TranslateBackwardBy by) spot dim given small = number_cut moved_back (number_for by spot) dim small (λ n. moved_cut dim _ small)
cut_small (act.Stride by) spot dim given small = number_cut strided_by (number_for by spot) dim small (λ n. strided_cut dim n small)
cut_small (act.Slice by) spot dim given small = sliced_cut dim (part_for by spot) small (given spot)
cut_small (act.Label labels) spot dim given small = small
cut_small (act.Transpose targets) spot dim given small = small
cut_small act.Diagonal spot dim given small = small
cut_small (act.At by) spot dim given small = small
cut_small (act.Oindex arrays) spot dim given small = small
cut_small (act.Vindex arrays) spot dim given small = small
cut_small act.Newaxis spot dim given small = small
cut_small (act.MarkBoundsImplicit lower upper) spot dim given small = small

cut_dim : (dim : Bounds) (r : Result Cut Cause) → IsSmallDim dim → IsCut r → IsSmallDim (cut_or_kept dim r).dim
cut_dim dim (Ok c) small is = is
cut_dim dim (Err c) small is = small

cut_cause : (r : Result Cut Cause) → IsCut r → MayCause (cause_at r)
cut_cause (Ok c) is = tt
cut_cause (Err c) is = is

-- the cut of a dimension that may be selected at a spot
abbrev cut_by : Act → Bounds → Option ℕ → Cut
cut_by a dim None = kept dim
cut_by a dim (Some spot) = cut_or_kept dim (cut_for a spot dim)

cut_outcome : (u : DomainAndMaps) (selected : List ℕ) (a : Act) → IsSmallAct a → IsSmall u → IsOutcome (cut_answer u selected a)
cut_outcome u selected a given small =
    refused_if (not (cut_counts a (length selected))) cause.Count (unless_refused (first_cause (cut_causes a u.domain.dims selected)) (over u (cut_view u selected a))) tt
    (unless_small (first_cause (cut_causes a u.domain.dims selected)) (over u (cut_view u selected a)) (first_small (cut_causes a u.domain.dims selected) (map_all MayCause (λ p. cause_at (cut_for a p.0 (dim_at u.domain.dims p.1))) (enumerate_from 0 selected) (λ p. cut_cause _ (cut_small a p.0 (dim_at u.domain.dims p.1) given (dims_at u.domain.dims p.1 small.dims)))))
    (over_small u (cut_view u selected a) small (record {
      dims = range_map IsSmallDim _ 0 (length u.domain.dims) (λ i low. at i (spot_in selected i));
      labels = small.labels;
      maps = range_map IsLed _ 0 (length u.domain.dims) (λ i low. omega (arith, low, small.few));
      few = let count = range-length (λ dim. (cut_at a u.domain.dims selected dim).dim) 0 (length u.domain.dims) in omega (arith, count, small.few);
    })))
  where
    at : (i : ℕ) (o : Option ℕ) → IsSmallDim (cut_by a (dim_at u.domain.dims i) o).dim
    at i None = dims_at u.domain.dims i small.dims
    at i (Some spot) = cut_dim (dim_at u.domain.dims i) _ (dims_at u.domain.dims i small.dims) (cut_small a spot (dim_at u.domain.dims i) given (dims_at u.domain.dims i small.dims))

-- ---- dimensions that go

left_led : (rest : List ℕ) (news dim : ℕ) (put : ℕ → OutMap) (o : Option ℕ) → news ≤ 32 → length rest ≤ 32 → ((spot : ℕ) → IsLed (put spot)) → IsLed (left_by rest news put dim o)
left_led rest news dim put (Some spot) few short each = each spot
left_led rest news dim put None few short each = go (spot_in rest dim) (λ k is. position_low (λ d. d == dim) 0 rest k is)
  where
    go : (o : Option ℕ) → ((k : ℕ) → o ≡ Some k → k < 0 + length rest) → news + unwrap_or o 0 < 2 ^ 64
    go None low = omega (arith, few)
    go (Some k) low = let less = low k refl in omega (arith, few, short, less)

few_without : (u : DomainAndMaps) (selected : List ℕ) (news : List Bounds) → length news + length (others selected (length u.domain.dims)) ≤ 32 → length (news ++ map (dim_at u.domain.dims) (others selected (length u.domain.dims))) ≤ 32
few_without u selected news few =
    let a = length-append news (map (dim_at u.domain.dims) (others selected (length u.domain.dims))) in
    let b = length-map (others selected (length u.domain.dims)) (dim_at u.domain.dims) in
    omega (arith, a, b, few)

without_small : (u : DomainAndMaps) (selected : List ℕ) (news : List Bounds) (put : ℕ → OutMap) → IsSmall u → AllByRecursion IsSmallDim news → ((spot : ℕ) → IsLed (put spot)) → length news + length (others selected (length u.domain.dims)) ≤ 32
    → IsSmallInner (without u selected news put)
without_small u selected news put small added each few =
    let rest = others selected (length u.domain.dims) in
    let less = rest_few selected 0 (length u.domain.dims) in
    record {
      dims = with_all IsSmallDim news (map (dim_at u.domain.dims) rest) added (map_all IsSmallDim (dim_at u.domain.dims) rest (λ k. dims_at u.domain.dims k small.dims));
      labels = with_all IsUtf8 (map (λ (d : Bounds). []) news) (map (label_at u.domain.labels) rest) (map_all IsUtf8 (λ (d : Bounds). []) news (λ d. IsUtf8-nil)) (map_all IsUtf8 (label_at u.domain.labels) rest (λ k. labels_at u.domain.labels k small.labels));
      maps = map_all IsLed (left_map selected rest (length news) put) (all_dims (rank_of u)) (λ dim. left_led rest (length news) dim put (spot_in selected dim) (omega (arith, few)) (omega (arith, few)) each);
      few = few_without u selected news few;
    }

-- ---- arrays

array_small : (arrays : List (List ℤ)) (spot : ℕ) → AllByRecursion IsSmallArray arrays → IsSmallArray (array_at arrays spot)
array_small arrays spot all = all_at IsSmallArray [] arrays spot (record { short = omega arith; whole = tt }) all

array_bounds : (entries : List ℤ) → IsSmallArray entries → IsSmallDim (array_dim entries)
array_bounds entries small = record {
  lo = record { from_least = omega (arith, ints); to_greatest = omega (arith, ints) };
  hi = record { from_least = omega (arith, ints, small.short); to_greatest = omega (arith, ints, small.short) };
}

array_led : (rank dim : ℕ) (entries : List ℤ) → rank ≤ 32 → IsSmallArray entries → IsLed (array_map rank dim entries)
array_led rank dim entries few small = let count = range-length (λ d. cond (d == dim) (length entries) 1) 0 rank in (omega (arith, count, few), small.whole)

entries_small : (dim : Bounds) (entries : List ℤ) (t : Bool) → IsSmallDim dim → MayCause (cond t None (Some (cause.OutOfRange (effective_lo dim) (effective_hi dim))))
entries_small dim entries true small = tt
entries_small dim entries false small = effective_out dim small

length_small : (t : Bool) → MayCause (cond t None (Some cause.TooLarge))
length_small true = tt
length_small false = tt

arrays_causes : (u : DomainAndMaps) (arrays : List (List ℤ)) (selected : List ℕ) → IsSmall u → MayCause (first_cause (array_causes u arrays selected))
arrays_causes u arrays selected small =
    first_small (array_causes u arrays selected) (map_all MayCause (array_cause u arrays) (enumerate_from 0 selected) (λ p.
    with_small (entries_cause (dim_at u.domain.dims p.1) (array_at arrays p.0)) (length_cause u.maps p.1 (array_at arrays p.0))
    (entries_small (dim_at u.domain.dims p.1) (array_at arrays p.0) (list_all (is_effective (dim_at u.domain.dims p.1)) (array_at arrays p.0)) (dims_at u.domain.dims p.1 small.dims))
    (length_small (nat_le (length (array_at arrays p.0)) 4194304 || not (list_any (depends_on p.1) u.maps)))))

-- ---- steps

targets_outcome : (u : DomainAndMaps) (selected : List ℕ) (xs : List ℤ) (o : Option (List ℕ)) → all_of (position_of (rank_of u)) xs ≡ o → IsSmall u → IsOutcome (to_targets u selected o)
targets_outcome u selected xs None is small = tt
targets_outcome u selected xs (Some targets) is small =
    refused_if (has_repeat targets) cause.Target (over u (transpose_view u selected targets)) tt
    (over_small u (transpose_view u selected targets) small (record {
      dims = range_map IsSmallDim _ 0 (length u.domain.dims) (λ i low. dims_at u.domain.dims (old_dim (rank_of u) selected targets i) small.dims);
      labels = range_map IsUtf8 _ 0 (length u.domain.dims) (λ i low. labels_at u.domain.labels (old_dim (rank_of u) selected targets i) small.labels);
      maps = range_map IsLed _ 0 (length u.domain.dims) (λ i low. carried_low i (spot_in selected i));
      few = let count = range-length (λ position. dim_at u.domain.dims (old_dim (rank_of u) selected targets position)) 0 (length u.domain.dims) in omega (arith, count, small.few);
    }))
  where
    low_of : (x : ℤ) (d : ℕ) → position_of (rank_of u) x ≡ Some d → d < 2 ^ 64
    low_of x d at = low_at (cond (int_lt x (pos 0)) (x +ℤ pos (rank_of u)) x) at
      where
        low_at : (y : ℤ) → cond (int_le (pos 0) y && int_lt y (pos (rank_of u))) (Some (unsigned_abs y)) None ≡ Some d → d < 2 ^ 64
        low_at y given = go (int_le (pos 0) y && int_lt y (pos (rank_of u))) refl given
          where
            go : (t : Bool) → (int_le (pos 0) y && int_lt y (pos (rank_of u))) ≡ t → cond t (Some (unsigned_abs y)) None ≡ Some d → d < 2 ^ 64
            go true so e =
                let parts = and_parts (int_le (pos 0) y) (int_lt y (pos (rank_of u))) so in
                let same : unsigned_abs y ≡ d = cc in
                let low = parts.0 in
                let high = parts.1 in
                let few = small.few in
                let less : d < rank_of u = grind (arith, ints, low, high, same) in
                omega (arith, less, few)
            go false so e = absurd (cc)

    carried_low : (i : ℕ) (o : Option ℕ) → carried_by (others selected (rank_of u)) targets (others targets (rank_of u)) i o < 2 ^ 64
    carried_low i (Some spot) = all_at (λ d. d < 2 ^ 64) 0 targets spot (omega arith) (of_all (λ d. d < 2 ^ 64) (position_of (rank_of u)) xs targets low_of is)
    carried_low i None = all_at (λ d. d < 2 ^ 64) 0 (others targets (rank_of u)) _ (omega arith) (others_low targets (rank_of u) small.few)

diagonal_outcome : (u : DomainAndMaps) (selected : List ℕ) (none : Bool) → HasRank u → IsSmall u → AreBelow (length u.domain.dims) selected → (length selected == 0) ≡ none → IsOutcome (cond none (Err cause.Count) (over u (diagonal_view u selected)))
diagonal_outcome u selected true has small below is = tt
diagonal_outcome u selected false has small below is =
    let few = fewer u selected has below is in
    let met = meet_bounds (selected_dims u selected) in
    over_small u (diagonal_view u selected) small
    (without_small u selected (meet_of (selected_dims u selected) ∷ []) diagonal_map small (
      record { lo = record { from_least = omega (arith, ints, met.lo_from); to_greatest = omega (arith, ints, met.lo_below) }; hi = record { from_least = omega (arith, ints, met.hi_above); to_greatest = omega (arith, ints, met.hi_to) } },
      tt,
    )
    (λ spot. omega arith) (omega (arith, few)))

vindex_outcome : (u : DomainAndMaps) (selected : List ℕ) (arrays : List (List ℤ)) (join : Bool) → HasRank u → IsSmall u → AllByRecursion IsSmallArray arrays → AreBelow (length u.domain.dims) selected → are_joined arrays (length selected) ≡ join
    → IsOutcome (cond (not join) (Err cause.Count) (unless_refused (first_cause (array_causes u arrays selected)) (over u (vindex_view u selected arrays))))
vindex_outcome u selected arrays false has small all below is = tt
vindex_outcome u selected arrays true has small all below is =
    let some : (length selected == 0) ≡ false = opposite (length selected == 0) (and_parts (not (length selected == 0)) _ (and_parts (not (length selected == 0) && (length arrays == length selected)) _ is).0).0 in
    let few = fewer u selected has below some in
    unless_small (first_cause (array_causes u arrays selected)) (over u (vindex_view u selected arrays)) (arrays_causes u arrays selected small)
    (over_small u (vindex_view u selected arrays) small
    (without_small u selected (array_dim (array_at arrays 0) ∷ []) (vindex_map (length (others selected (rank_of u))) arrays) small (array_bounds (array_at arrays 0) (array_small arrays 0 all), tt)
    (λ spot. array_led (1 + length (others selected (rank_of u))) 0 (array_at arrays spot) few (array_small arrays spot all)) (omega (arith, few))))
  where
    opposite : (b : Bool) → not b ≡ true → b ≡ false
    opposite true e = absurd (cc)
    opposite false e = refl

newaxis_outcome : (u : DomainAndMaps) (added : List ℕ) (fits : Bool) → nat_le (length u.domain.dims + length added) 32 ≡ fits → IsSmall u → IsOutcome (cond fits (over u (newaxis_view u added)) (Err cause.Rank))
newaxis_outcome u added false is small = tt
newaxis_outcome u added true is small =
    let few = leb-true (length u.domain.dims + length added) 32 is in
    over_small u (newaxis_view u added) small (record {
      dims = range_map IsSmallDim _ 0 (rank_of u + length added) (λ i low. axis (spot_in (others added (rank_of u + length added)) i));
      labels = range_map IsUtf8 _ 0 (rank_of u + length added) (λ i low. label (spot_in (others added (rank_of u + length added)) i));
      maps = range_map IsLed _ 0 (rank_of u) (λ i low. all_at (λ d. d < 2 ^ 64) 0 (others added (rank_of u + length added)) i (omega arith) (others_low added (rank_of u + length added) few));
      few = let count = range-length (λ position. axis_by u.domain.dims (spot_in (others added (rank_of u + length added)) position)) 0 (rank_of u + length added) in omega (arith, count, few);
    })
  where
    axis : (o : Option ℕ) → IsSmallDim (axis_by u.domain.dims o)
    axis (Some k) = dims_at u.domain.dims k small.dims
    axis None = point_small_as
      where
        point_small_as : IsSmallDim new_axis
        point_small_as = record { lo = point_small.lo; hi = point_small.hi }

    label : (o : Option ℕ) → IsUtf8 (axis_label_by u.domain.labels o)
    label (Some k) = labels_at u.domain.labels k small.labels
    label None = IsUtf8-nil

oindex_inner : (u : DomainAndMaps) (selected : List ℕ) (arrays : List (List ℤ)) → IsSmall u → AllByRecursion IsSmallArray arrays → IsSmallInner (oindex_view u selected arrays)
oindex_inner u selected arrays small all = record {
  dims = range_map IsSmallDim _ 0 (rank_of u) (λ i low. dim i (spot_in selected i));
  labels = range_map IsUtf8 _ 0 (length u.domain.labels) (λ i low. label i (spot_in selected i));
  maps = range_map IsLed _ 0 (rank_of u) (λ i low. led i low (spot_in selected i));
  few = let count = range-length (indexed_dim u.domain.dims selected arrays) 0 (rank_of u) in omega (arith, count, small.few);
}
  where
    dim : (i : ℕ) (o : Option ℕ) → IsSmallDim (dim_by u.domain.dims arrays i o)
    dim i (Some spot) = array_bounds (array_at arrays spot) (array_small arrays spot all)
    dim i None = dims_at u.domain.dims i small.dims

    label : (i : ℕ) (o : Option ℕ) → IsUtf8 (label_by u.domain.labels i o)
    label i (Some spot) = IsUtf8-nil
    label i None = labels_at u.domain.labels i small.labels

    led : (i : ℕ) → i < 0 + rank_of u → (o : Option ℕ) → IsLed (map_by (rank_of u) arrays i o)
    led i low (Some spot) = array_led (rank_of u) i (array_at arrays spot) small.few (array_small arrays spot all)
    led i low None = omega (arith, low, small.few)

at_outcome : (u : DomainAndMaps) (selected : List ℕ) (by : Numbers) → IsSmall u → IsOutcome (unless_refused (first_cause (at_causes by u.domain.dims selected)) (over u (at_view u selected by)))
at_outcome u selected by small =
    let less = rest_few selected 0 (length u.domain.dims) in
    unless_small (first_cause (at_causes by u.domain.dims selected)) (over u (at_view u selected by)) (first_small (at_causes by u.domain.dims selected) (map_all MayCause (at_cause by u.domain.dims) (enumerate_from 0 selected) (λ p. outside (is_effective (dim_at u.domain.dims p.1) (at_number by p.0)) (dim_at u.domain.dims p.1) (dims_at u.domain.dims p.1 small.dims))))
    (over_small u (at_view u selected by) small (without_small u selected [] (at_map by) small tt (λ spot. tt) (omega (arith, less, small.few))))
  where
    outside : (t : Bool) (dim : Bounds) → IsSmallDim dim → MayCause (cond t None (Some (cause.OutOfRange (effective_lo dim) (effective_hi dim))))
    outside true dim is = tt
    outside false dim is = effective_out dim is

label_outcome : (u : DomainAndMaps) (selected : List ℕ) (labels : List (List ℕ)) → IsSmall u → AllByRecursion IsUtf8 labels → IsOutcome (only_labels (with_labels u (new_labels u selected labels)))
label_outcome u selected labels small texts =
    either (are_labels (new_labels u selected labels)) (Ok (with_labels u (new_labels u selected labels))) (Err cause.Label)
    (record {
      dims = small.dims;
      labels = range_map IsUtf8 (new_label u.domain.labels selected labels) 0 (length u.domain.dims) (λ i low. at i (spot_in selected i));
      maps = small.maps;
      few = small.few;
      outputs = small.outputs;
    }) tt
  where
    at : (i : ℕ) (o : Option ℕ) → IsUtf8 (elim o [ Some spot ↦ label_at labels spot | None ↦ label_at u.domain.labels i ])
    at i (Some spot) = labels_at labels spot texts
    at i None = labels_at u.domain.labels i small.labels

marks_small : (u : DomainAndMaps) (selected : List ℕ) (lower upper : Option Bool) → IsSmall u → IsSmall (with_marks u selected lower upper)
marks_small u selected lower upper small = record {
  dims = range_map IsSmallDim _ 0 (length u.domain.dims) (λ i low. at i (spot_in selected i));
  labels = small.labels;
  maps = small.maps;
  few = let count = range-length (marked_dim u.domain.dims selected lower upper) 0 (length u.domain.dims) in omega (arith, count, small.few);
  outputs = small.outputs;
}
  where
    at : (i : ℕ) (o : Option ℕ) → IsSmallDim (elim o [ Some spot ↦ marked lower upper (dim_at u.domain.dims i) | None ↦ dim_at u.domain.dims i ])
    at i (Some spot) = let here = dims_at u.domain.dims i small.dims in record { lo = here.lo; hi = here.hi }
    at i None = dims_at u.domain.dims i small.dims

step_small : (u : DomainAndMaps) (selected : List ℕ) (a : Act) → HasRank u → IsSmall u → IsSmallAct a → (is_newaxis a ≡ false → AreBelow (length u.domain.dims) selected) → IsOutcome (step_answer u selected a)
step_small u selected (act.Label labels) has small given below = refused_if (not (length labels == length selected)) cause.Count (only_labels (with_labels u (new_labels u selected labels))) tt (label_outcome u selected labels small given)
step_small u selected (act.TranslateTo by) has small given below = cut_outcome u selected (act.TranslateTo by) given small
step_small u selected (act.TranslateBy by) has small given below = cut_outcome u selected (act.TranslateBy by) given small
step_small u selected (act.TranslateBackwardBy by) has small given below = cut_outcome u selected (act.TranslateBackwardBy by) given small
step_small u selected (act.Stride by) has small given below = cut_outcome u selected (act.Stride by) given small
step_small u selected (act.Transpose targets) has small given below = refused_if (not (length targets == length selected)) cause.Count (to_targets u selected (all_of (position_of (rank_of u)) targets)) tt (targets_outcome u selected targets (all_of (position_of (rank_of u)) targets) refl small)
step_small u selected act.Diagonal has small given below = diagonal_outcome u selected (length selected == 0) has small (below refl) refl
step_small u selected (act.At by) has small given below = refused_if (not (numbers_count by (length selected))) cause.Count (unless_refused (first_cause (at_causes by u.domain.dims selected)) (over u (at_view u selected by))) tt (at_outcome u selected by small)
step_small u selected (act.Slice by) has small given below = cut_outcome u selected (act.Slice by) given small
step_small u selected (act.Oindex arrays) has small given below =
    refused_if (not (length arrays == length selected)) cause.Count (unless_refused (first_cause (array_causes u arrays selected)) (over u (oindex_view u selected arrays))) tt
    (unless_small (first_cause (array_causes u arrays selected)) (over u (oindex_view u selected arrays)) (arrays_causes u arrays selected small) (over_small u (oindex_view u selected arrays) small (oindex_inner u selected arrays small given)))
step_small u selected (act.Vindex arrays) has small given below = vindex_outcome u selected arrays (are_joined arrays (length selected)) has small given (below refl) refl
step_small u selected act.Newaxis has small given below = newaxis_outcome u selected (nat_le (length u.domain.dims + length selected) 32) refl small
step_small u selected (act.MarkBoundsImplicit lower upper) has small given below = refused_if (makes_implicit lower upper && has_array_on u.maps selected) cause.IndexDim (Ok (with_marks u selected lower upper)) tt (marks_small u selected lower upper small)

-- ---- steps one after another

one_small : (number most : ℕ) (u : DomainAndMaps) (step : Step) → number < most → HasRank u → IsSmall u → IsSmallStep step → IsSmallApplied most (after_step number u step)
one_small number most u step low has small given = go (selected_of step u.domain) refl
  where
    told : (r : Result DomainAndMaps Cause) → IsOutcome r → IsSmallApplied most (numbered number r)
    told (Ok t) is = is
    told (Err c) is = (low, is)

    go : (r : Result (List ℕ) SelectError) → selected_of step u.domain ≡ r → IsSmallApplied most (answer_on number u step r)
    go (Ok dims) is = told (step_answer u dims step.act) (step_small u dims step.act has small given (λ other. selected_below u step dims has other is))
    go (Err select.Unknown) is = low
    go (Err select.Repeated) is = low
    go (Err select.Memory) is = tt

from_small : (number most : ℕ) (u : DomainAndMaps) (steps : List Step) → number + length steps ≤ most → HasRank u → IsSmall u → AllByRecursion IsSmallStep steps → IsSmallApplied most (applied_from number u steps)
from_small number most u [] low has small given = small
from_small number most u (step ∷ steps) low has small given =
    go (after_step number u step) (one_small number most u step (omega (arith, low)) has small given.0) (λ t is. (after_gives number u step has).each t is) (λ t kept ok. from_small (number + 1) most t steps (omega (arith, low)) kept ok given.1)
  where
    go : (r : Result DomainAndMaps ApplyError) → IsSmallApplied most r → ((t : DomainAndMaps) → r ≡ Ok t → HasRank t) → ((t : DomainAndMaps) → HasRank t → IsSmall t → IsSmallApplied most (applied_from (number + 1) t steps))
        → IsSmallApplied most (elim r [ Ok t ↦ applied_from (number + 1) t steps | Err e ↦ Err e ])
    go (Ok t) is rank rest = rest t (rank t refl) is
    go (Err e) is rank rest = is

-- what steps make of a transform, or why they aren't done
pub applied_small : (u : DomainAndMaps) (steps : List Step) → HasRank u → IsSmall u → AllByRecursion IsSmallStep steps → IsSmallApplied (length steps) (applied u steps)
applied_small u steps has small given = from_small 0 (length steps) u steps (omega arith) has small given
