-- The transform of cuts over emptied dimensions: it is one, and tightening leaves it as it is.
use Rattle.index_intervals.proofs.Laws.{preimage-ordered, int_eq-false}
use Rattle.std.proofs.Common.{◌≡◌, ◌≢◌, ◌∙◌, ℕ, ◌+◌, ◌<◌, ◌==◌, Bool, true, false, cond, not, ◌&&◌, List, length, map, get_or, refl, sym, ap, subst, arith, ℤ, pos, ◌-ℤ◌, Option, Some, None, Result, Ok, Err, nat_le, nat_lt}
use Rattle.std.proofs.lemmas.Bool.Decides.{nat_tests, Decides-int_eq}
use Rattle.std.proofs.lemmas.List.FromFn.{length-map-range_with_len, get_or-map-range_with_len}
use Rattle.std.specs.Ordering.{int_eq}
use Rattle.std.specs.List.{list_all, range_with_len}
use Rattle.std.specs.Option.{ForSome}
use Rattle.index_intervals.specs.Bounds.{Bounds, AreBounds, is_index}
use Rattle.index_intervals.specs.Slice.{sliced}
use Rattle.index_intervals.specs.declared.slice.Sliced.{Sliced}
use Rattle.index_intervals.specs.declared.slice.SliceError.{SliceError}
use Rattle.index_intervals.specs.Stride.{strided}
use Rattle.index_intervals.specs.Shift.{shifted}
use Rattle.transform_composition.specs.declared.OutMap.{OutMap}
use Rattle.index_intervals.specs.Edges.{preimage_lower, preimage_upper}
use Rattle.transform_composition.specs.Inside.{is_inside_by, are_ends_inside}
use Rattle.transform_composition.specs.Maps.{is_map, is_plain, has_ranks}
use Rattle.transform_composition.specs.Reading.{point}
use Rattle.transform_composition.specs.Composing.{nowhere}
use Rattle.transform_composition.specs.declared.Domain.{Domain}
use Rattle.transform_composition.specs.Transforms.{DomainAndMaps, IsTransform, KeepsRules}
use Rattle.dim_changes.specs.declared.cause.Cause.{Cause}
use Rattle.dim_changes.specs.declared.cause.Cause.TheVariants.{ZeroStep, Unbounded, Overflow}
use Rattle.dim_changes.specs.declared.cut.Cut.{Cut}
use Rattle.step_forms.specs.declared.act.Act.{Act}
use Rattle.step_forms.specs.declared.act.Act.TheVariants as act
use Rattle.step_forms.specs.declared.act.SlicePart.{SlicePart}
use Rattle.dim_changes.specs.Causes.{first_cause, over}
use Rattle.dim_changes.specs.Dims.{spot_in, dim_at}
use Rattle.dim_changes.specs.Cuts.{kept, can_move, moved_by, moved_to, moved_back, strided_by, slice_cause, sliced_by, by_number, cut_for, cut_counts}
use Rattle.dim_changes.specs.CutViews.{cut_or_kept, cut_at, cut_map, cut_view, cut_causes, cut_answer}
use Rattle.dim_changes.specs.Emptied.{stays_infinite, empty_dim, emptied_dim, emptied_view}
use Rattle.step_forms.specs.Given.{number_for, part_for, IsIndexPart, HasIndicesAt}
use Rattle.dim_changes.proofs.TightBounds.{IsTight, IsTight-one}
use Rattle.dim_changes.proofs.TightMaps.{is_strided_from, preimages-one}
use Rattle.dim_changes.proofs.TightAnswers.{IsTightTransform}
use Rattle.dim_changes.proofs.RangeLaws.{range-all}
use Rattle.dim_changes.proofs.StepLemmas.{made-of}
use Rattle.dim_changes.proofs.CutLemmas.{CanShift-moves}
use Rattle.dim_changes.proofs.CutTight.{IsTightCut, IsTightCut-moved, IsTightCut-kept, IsTightCut-empty, IsTightCut-emptied, emptied_cut}
use Rattle.dim_changes.proofs.CutStrides.{IsTightCut-strided}
use Rattle.dim_changes.proofs.CutSlices.{IsTightCut-sliced}
use Rattle.cells.proofs.Laws.{both, both_true}

pub moved_by-tight : (b : Bounds) (by : ℤ) → AreBounds b → IsTightCut b (cut_or_kept b (moved_by b by))
moved_by-tight b by p = told (can_move by b.lo && can_move by b.hi) refl
  where
    told : (t : Bool) → (can_move by b.lo && can_move by b.hi) ≡ t
        → IsTightCut b (cut_or_kept b (cond t (Ok (record { dim = shifted b by; offset = Rattle.std.specs.Prelude.neg_ℤ by; stride = pos 1 })) (Err Overflow)))
    told true e = IsTightCut-moved b by p (CanShift-moves b by e)
    told false e = IsTightCut-kept b p

pub moved_to-tight : (b : Bounds) (origin : ℤ) → AreBounds b → IsTightCut b (cut_or_kept b (moved_to b origin))
moved_to-tight b origin p = told (is_index b.lo)
  where
    told : (t : Bool) → IsTightCut b (cut_or_kept b (cond t (moved_by b (origin -ℤ b.lo)) (Err Unbounded)))
    told true = moved_by-tight b (origin -ℤ b.lo) p
    told false = IsTightCut-kept b p

strided_by-tight : (b : Bounds) (s : ℤ) → AreBounds b → IsTightCut b (emptied_cut b (cut_or_kept b (strided_by b s)))
strided_by-tight b s p = told (int_eq s (pos 0)) refl
  where
    stays : s ≢ pos 0 → (t : Bool) → stays_infinite b (strided b s) ≡ t → IsTightCut b (record { dim = cond t empty_dim (strided b s); offset = pos 0; stride = s })
    stays n true h = IsTightCut-empty b (pos 0) s n
    stays n false h = IsTightCut-strided b s p n h

    told : (t : Bool) → int_eq s (pos 0) ≡ t → IsTightCut b (emptied_cut b (cut_or_kept b (cond t (Err ZeroStep) (Ok (record { dim = strided b s; offset = pos 0; stride = s })))))
    told true e = IsTightCut-emptied b (kept b) (IsTightCut-kept b p)
    told false e = stays (λ z. let f = (Decides-int_eq s (pos 0)).1 z in cc) (stays_infinite b (strided b s)) refl

pub sliced_by-tight : (b : Bounds) (part : SlicePart) → AreBounds b → IsIndexPart part → IsTightCut b (cut_or_kept b (sliced_by b part))
sliced_by-tight b part p i = told (sliced b part.start part.stop part.step) refl
  where
    told : (r : Result Sliced SliceError) → sliced b part.start part.stop part.step ≡ r
        → IsTightCut b (cut_or_kept b (elim r [ Ok s ↦ Ok (record { dim = s.interval; offset = s.offset; stride = s.step }) | Err e ↦ Err (slice_cause e) ]))
    told (Ok s) e = IsTightCut-sliced b part s p i e
    told (Err c) e = IsTightCut-kept b p

-- what is kept, emptied where it stays infinite
kept-tight : (b : Bounds) → AreBounds b → IsTightCut b (emptied_cut b (kept b))
kept-tight b p = IsTightCut-emptied b (kept b) (IsTightCut-kept b p)

by_number-tight : (f : Bounds → ℤ → Result Cut Cause) (o : Option ℤ) (b : Bounds) → AreBounds b
    → ((n : ℤ) → IsTightCut b (emptied_cut b (cut_or_kept b (f b n)))) → IsTightCut b (emptied_cut b (cut_or_kept b (by_number f o b)))
by_number-tight f None b p h = kept-tight b p
by_number-tight f (Some n) b p h = h n

-- what a step does to one dimension is tight
cut_for-tight : (a : Act) (spot : ℕ) (b : Bounds) → AreBounds b → HasIndicesAt a spot → IsTightCut b (emptied_cut b (cut_or_kept b (cut_for a spot b)))
cut_for-tight (act.TranslateTo by) spot b p i =
    by_number-tight moved_to (number_for by spot) b p (λ n. IsTightCut-emptied b (cut_or_kept b (moved_to b n)) (moved_to-tight b n p))
cut_for-tight (act.TranslateBy by) spot b p i =
    by_number-tight moved_by (number_for by spot) b p (λ n. IsTightCut-emptied b (cut_or_kept b (moved_by b n)) (moved_by-tight b n p))
cut_for-tight (act.TranslateBackwardBy by) spot b p i =
    by_number-tight moved_back (number_for by spot) b p
    (λ n. IsTightCut-emptied b (cut_or_kept b (moved_back b n)) (moved_by-tight b (Rattle.std.specs.Prelude.neg_ℤ n) p))
cut_for-tight (act.Stride by) spot b p i = by_number-tight strided_by (number_for by spot) b p (λ n. strided_by-tight b n p)
cut_for-tight (act.Slice by) spot b p i = IsTightCut-emptied b (cut_or_kept b (sliced_by b (part_for by spot))) (sliced_by-tight b (part_for by spot) p i)
cut_for-tight (act.Label labels) spot b p i = kept-tight b p
cut_for-tight (act.Transpose targets) spot b p i = kept-tight b p
cut_for-tight act.Diagonal spot b p i = kept-tight b p
cut_for-tight (act.At by) spot b p i = kept-tight b p
cut_for-tight (act.Oindex arrays) spot b p i = kept-tight b p
cut_for-tight (act.Vindex arrays) spot b p i = kept-tight b p
cut_for-tight act.Newaxis spot b p i = kept-tight b p
cut_for-tight (act.MarkBoundsImplicit lower upper) spot b p i = kept-tight b p

-- the cut of a dimension over which maps are composed
abbrev pub emptied_at : Act → List Bounds → List ℕ → ℕ → Cut
emptied_at a dims selected dim = emptied_cut (dim_at dims dim) (cut_at a dims selected dim)

cut_at-tight : (a : Act) (dims : List Bounds) (selected : List ℕ) (dim : ℕ) → AreBounds (dim_at dims dim) → ((spot : ℕ) → HasIndicesAt a spot)
    → IsTightCut (dim_at dims dim) (emptied_at a dims selected dim)
cut_at-tight a dims selected dim p i = told (spot_in selected dim)
  where
    told : (o : Option ℕ)
        → IsTightCut (dim_at dims dim) (emptied_cut (dim_at dims dim)
        (elim o [ Some spot ↦ cut_or_kept (dim_at dims dim) (cut_for a spot (dim_at dims dim)) | None ↦ kept (dim_at dims dim) ]))
    told (Some spot) = cut_for-tight a spot (dim_at dims dim) p (i spot)
    told None = kept-tight (dim_at dims dim) p

-- The parts of the transform of cuts.

abbrev pub emptied_dims : Act → List Bounds → List ℕ → List Bounds
emptied_dims a dims selected = map (emptied_dim a dims selected) (range_with_len 0 (length dims))

abbrev pub cut_maps : Act → List Bounds → List ℕ → List OutMap
cut_maps a dims selected = map (cut_map a dims selected) (range_with_len 0 (length dims))

dim-at : (a : Act) (dims : List Bounds) (selected : List ℕ) (k : ℕ) (d : Bounds) → k < length dims
    → get_or (emptied_dims a dims selected) k d ≡ emptied_dim a dims selected k
dim-at a dims selected k d h = get_or-map-range_with_len (emptied_dim a dims selected) 0 (length dims) k k d h (omega arith)

map-at : (a : Act) (dims : List Bounds) (selected : List ℕ) (k : ℕ) (m : OutMap) → k < length dims
    → get_or (cut_maps a dims selected) k m ≡ cut_map a dims selected k
map-at a dims selected k m h = get_or-map-range_with_len (cut_map a dims selected) 0 (length dims) k k m h (omega arith)

length-dims : (a : Act) (dims : List Bounds) (selected : List ℕ) → length (emptied_dims a dims selected) ≡ length dims
length-dims a dims selected = length-map-range_with_len (emptied_dim a dims selected) 0 (length dims)

length-maps : (a : Act) (dims : List Bounds) (selected : List ℕ) → length (cut_maps a dims selected) ≡ length dims
length-maps a dims selected = length-map-range_with_len (cut_map a dims selected) 0 (length dims)

-- the one map from a dimension
other-map : (a : Act) (dims : List Bounds) (selected : List ℕ) (k j : ℕ) → j < length (cut_maps a dims selected) → j ≢ k
    → is_strided_from k (get_or (cut_maps a dims selected) j nowhere) ≡ false
other-map a dims selected k j h n =
    let l = length-maps a dims selected in
    let m = map-at a dims selected j nowhere (omega (arith, h, l)) in
    let e : (j == k) ≡ false = grind (arith, nat_tests) in
    ap (is_strided_from k) m ∙ e

IsTight-cut : (a : Act) (dims : List Bounds) (selected : List ℕ) (k : ℕ) → k < length dims → AreBounds (dim_at dims k) → IsTightCut (dim_at dims k) (emptied_at a dims selected k)
    → IsTight k (emptied_dim a dims selected k) dims (cut_maps a dims selected)
IsTight-cut a dims selected k h p t =
    let l = length-maps a dims selected in
    let c = emptied_at a dims selected k in
    let m = map-at a dims selected k nowhere h in
    IsTight-one k c.dim dims (cut_maps a dims selected) (preimage_lower (dim_at dims k) c.offset c.stride) (preimage_upper (dim_at dims k) c.offset c.stride) t.bounds
    (preimages-one preimage_lower k dims (cut_maps a dims selected) k c.offset c.stride (omega (arith, h, l)) l m (other-map a dims selected k))
    (preimages-one preimage_upper k dims (cut_maps a dims selected) k c.offset c.stride (omega (arith, h, l)) l m (other-map a dims selected k))
    (preimage-ordered (dim_at dims k) c.offset c.stride t.nonzero p) t.lower t.upper

inside-cut : (a : Act) (dims : List Bounds) (selected : List ℕ) (k : ℕ) → k < length dims → IsTightCut (dim_at dims k) (emptied_at a dims selected k)
    → is_inside_by (emptied_dims a dims selected) (dim_at dims k) (get_or (cut_maps a dims selected) k nowhere) ≡ true
inside-cut a dims selected k h t =
    let c = emptied_at a dims selected k in
    ap (is_inside_by (emptied_dims a dims selected) (dim_at dims k)) (map-at a dims selected k nowhere h)
    ∙ ap (λ (d : Bounds). are_ends_inside d (dim_at dims k) c.offset c.stride) (dim-at a dims selected k (dim_at dims k) h)
    ∙ t.inside

fit-cut : (a : Act) (dims : List Bounds) (selected : List ℕ) → list_all (is_map (emptied_dims a dims selected)) (cut_maps a dims selected) ≡ true
fit-cut a dims selected =
    range-all (is_map (emptied_dims a dims selected)) (cut_map a dims selected) 0 (length dims)
    (λ j h. let l = length-dims a dims selected in less (0 + j) (length (emptied_dims a dims selected)) (omega (arith, h, l)))
  where
    less : (x y : ℕ) → x < y → nat_lt x y ≡ true
    less x y h = grind (arith, nat_tests)

-- tightening leaves the transform of cuts as it is
pub IsTightTransform-cut : (a : Act) (dims : List Bounds) (selected : List ℕ) → ((k : ℕ) → k < length dims → AreBounds (dim_at dims k)) → ((spot : ℕ) → HasIndicesAt a spot)
    → IsTightTransform (emptied_dims a dims selected) dims (cut_maps a dims selected)
IsTightTransform-cut a dims selected p i = record {
  outputs = length-maps a dims selected;
  fit = fit-cut a dims selected;
  tight = λ k h.
      let l = length-dims a dims selected in
      let g : k < length dims = omega (arith, h, l) in
      subst (λ (d : Bounds). IsTight k d dims (cut_maps a dims selected)) (sym (dim-at a dims selected k point g))
      (IsTight-cut a dims selected k g (p k g) (cut_at-tight a dims selected k (p k g) i));
  inside = λ k h.
      let l = length-maps a dims selected in
      let g : k < length dims = omega (arith, h, l) in
      inside-cut a dims selected k g (cut_at-tight a dims selected k (p k g) i);
}

-- the transform of cuts is one
plain-cut : (a : Act) (dims : List Bounds) (selected : List ℕ) → ((k : ℕ) → k < length dims → AreBounds (dim_at dims k)) → ((spot : ℕ) → HasIndicesAt a spot)
    → list_all is_plain (cut_maps a dims selected) ≡ true
plain-cut a dims selected p i =
    range-all is_plain (cut_map a dims selected) 0 (length dims)
    (λ j h. nonzero (cut_at a dims selected (0 + j)).stride ((cut_at-tight a dims selected (0 + j) (p (0 + j) (omega (arith, h))) i).nonzero))
  where
    nonzero : (s : ℤ) → s ≢ pos 0 → not (int_eq s (pos 0)) ≡ true
    nonzero s n = let e = int_eq-false s (pos 0) n in rw e refl

ranks-cut : (a : Act) (u : DomainAndMaps) (selected : List ℕ) → has_ranks u.domain u.maps ≡ true
    → has_ranks (record { dims = emptied_dims a u.domain.dims selected; labels = u.domain.labels }) (cut_maps a u.domain.dims selected) ≡ true
ranks-cut a u selected e =
    let p = both (nat_le (length u.domain.dims) 32 && (length u.domain.labels == length u.domain.dims)) (nat_le (length u.maps) 32) e in
    let q = both (nat_le (length u.domain.dims) 32) (length u.domain.labels == length u.domain.dims) p.0 in
    let l = length-dims a u.domain.dims selected in
    let m = length-maps a u.domain.dims selected in
    rw (l, m) (both_true (nat_le (length u.domain.dims) 32 && (length u.domain.labels == length u.domain.dims)) (nat_le (length u.domain.dims) 32)
    (both_true (nat_le (length u.domain.dims) 32) (length u.domain.labels == length u.domain.dims) q.0 q.1) q.0)

pub IsTransform-cut : (a : Act) (u : DomainAndMaps) (selected : List ℕ) → IsTransform u → ((k : ℕ) → k < length u.domain.dims → AreBounds (dim_at u.domain.dims k))
    → ((spot : ℕ) → HasIndicesAt a spot) → KeepsRules (emptied_view u selected a)
IsTransform-cut a u selected t p i = record {
  ranks = ranks-cut a u selected t.ranks;
  labels = t.labels;
  maps = fit-cut a u.domain.dims selected;
  plain = plain-cut a u.domain.dims selected p i;
}

-- the transform of cuts by its parts
pub emptied_view-made : (u : DomainAndMaps) (selected : List ℕ) (a : Act) (domain : Domain) (olds : List Bounds) (maps : List OutMap) → olds ≡ u.domain.dims
    → domain ≡ (emptied_view u selected a).domain → maps ≡ cut_maps a olds selected
    → (let t : DomainAndMaps = record { domain = domain; maps = maps } in t) ≡ emptied_view u selected a
emptied_view-made u selected a domain olds maps e d m =
    made-of (emptied_view u selected a) domain maps d (m ∙ ap (λ (ds : List Bounds). cut_maps a ds selected) e)

-- where nothing is refused before, the answer of the step is that over its view
pub cut_answer-over : (u : DomainAndMaps) (selected : List ℕ) (a : Act) → cut_counts a (length selected) ≡ true → first_cause (cut_causes a u.domain.dims selected) ≡ None
    → over u (cut_view u selected a) ≡ cut_answer u selected a
cut_answer-over u selected a e f = sym (rw (e, f) refl)
