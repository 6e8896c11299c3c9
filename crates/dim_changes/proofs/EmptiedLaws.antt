-- A composition over emptied dimensions: refilled, it is the answer over the cuts.
use Rattle.std.proofs.Common.{◌≡◌, ◌∙◌, ◌⊎◌, inl, inr, zero, suc, ℕ, ◌+◌, ◌*◌, ◌<◌, ◌==◌, ◌≤ℤ◌, ◌+ℤ◌, ◌*ℤ◌, Bool, true, false, cond, not, ◌&&◌, List, [], ◌∷◌, length, map, get_or, refl, sym, ap, subst, arith, ℤ, pos, Option, Some, None, Result, Ok, Err, nat_lt}
use Rattle.std.proofs.lemmas.List.FromFn.{length-map-range_with_len, get_or-map-range_with_len}
use Rattle.std.specs.List.{list_all, list_any, zip, position_from, range_with_len}
use Rattle.cells.specs.Places.{cell_count}
use Rattle.cells.proofs.Laws.{both, both_true, not_true, not_both}
use Rattle.index_intervals.specs.Bounds.{Bounds, is_index}
use Rattle.index_intervals.specs.Members.{is_finite}
use Rattle.transform_composition.specs.declared.OutMap.{OutMap}
use Rattle.transform_composition.specs.declared.OutMap.TheVariants.{Constant, Strided, Indexed}
use Rattle.transform_composition.specs.Maps.{is_fixed, fits_dim, fits, are_entries, is_map}
use Rattle.transform_composition.specs.Transforms.{DomainAndMaps, IsTransform, on_dims}
use Rattle.transform_composition.specs.Values.{is_effective, value_at, map_value, entry_place, entry_index, first_outside}
use Rattle.transform_composition.specs.Walks.{IsCell}
use Rattle.transform_composition.specs.Agreeing.{Agrees, GoesInto, IsCovered, reads_along}
use Rattle.transform_composition.specs.Composing.{closed, composed_map, passes_word, is_too_large, closed_along, closed_dims, joined, unless_passed, unless_large}
use Rattle.transform_composition.specs.Reading.{has_array_along, point}
use Rattle.step_forms.specs.declared.act.Act.{Act}
use Rattle.step_forms.specs.Given.{HasIndicesAt}
use Rattle.dim_changes.specs.declared.cause.Cause.{Cause}
use Rattle.dim_changes.specs.declared.cut.Cut.{Cut}
use Rattle.dim_changes.specs.Causes.{or_cause, over, Gives, ReachesInto}
use Rattle.dim_changes.specs.CutViews.{cut_at, cut_view}
use Rattle.dim_changes.specs.Dims.{dim_at}
use Rattle.dim_changes.specs.Emptied.{stays_infinite, emptied_dim, emptied_view, refilled_dim, refilled_dims, IsComposed}
use Rattle.dim_changes.proofs.MarkLemmas.{fit_others}
use Rattle.dim_changes.proofs.RangeLaws.{listed-at, AreBounds-each}
use Rattle.dim_changes.proofs.ReachedCuts.{cut_at-reached}
use Rattle.dim_changes.proofs.ReadLaws.{owns, unread-maps, fixed-maps, AreAlike, AreAlikeAll, alike-first, alike-rest, value-own, values-own, maps-alike, first-large-alike, unread-all}
use Rattle.dim_changes.proofs.StepLemmas.{between, length-IsCell}

-- Dimensions made explicit, by their numbers.

closed-at : (a : ℕ) (ds : List Bounds) (ms : List OutMap) (i : ℕ) → i < length ds → get_or (closed_dims a ds ms) i point ≡ closed_along (a + i) ms (get_or ds i point)
closed-at a [] ms i h = absurd (omega (arith, h))
closed-at a (d ∷ ds) ms zero h = let z : a ≡ a + 0 = omega arith in ap (λ k. closed_along k ms d) z
closed-at a (d ∷ ds) ms (suc i) h =
    let z : (a + 1) + i ≡ a + suc i = omega arith in
    closed-at (a + 1) ds ms i (omega (arith, h)) ∙ ap (λ k. closed_along k ms (get_or ds i point)) z

length-closed : (a : ℕ) (ds : List Bounds) (ms : List OutMap) → length (closed_dims a ds ms) ≡ length ds
length-closed a [] ms = refl
length-closed a (d ∷ ds) ms = ap suc (length-closed (a + 1) ds ms)

-- One step.

abbrev new_dims : Act → List Bounds → List ℕ → List Bounds
new_dims a olds selected = map (λ k. (cut_at a olds selected k).dim) (range_with_len 0 (length olds))

abbrev emptied_dims : Act → List Bounds → List ℕ → List Bounds
emptied_dims a olds selected = map (emptied_dim a olds selected) (range_with_len 0 (length olds))

-- the dimension stays infinite
abbrev stays : Act → List Bounds → List ℕ → ℕ → Bool
stays a olds selected k = stays_infinite (dim_at olds k) (cut_at a olds selected k).dim

new-at : (a : Act) (olds : List Bounds) (selected : List ℕ) (k : ℕ) → k < length olds → get_or (new_dims a olds selected) k point ≡ (cut_at a olds selected k).dim
new-at a olds selected k h = get_or-map-range_with_len (λ j. (cut_at a olds selected j).dim) 0 (length olds) k k point h (omega arith)

emptied-at : (a : Act) (olds : List Bounds) (selected : List ℕ) (k : ℕ) → k < length olds → get_or (emptied_dims a olds selected) k point ≡ emptied_dim a olds selected k
emptied-at a olds selected k h = get_or-map-range_with_len (emptied_dim a olds selected) 0 (length olds) k k point h (omega arith)

refilled-at : (a : Act) (olds : List Bounds) (selected : List ℕ) (ds : List Bounds) (k : ℕ) → k < length olds → get_or (refilled_dims a olds selected ds) k point ≡ refilled_dim a olds selected ds k
refilled-at a olds selected ds k h = get_or-map-range_with_len (refilled_dim a olds selected ds) 0 (length olds) k k point h (omega arith)

length-new : (a : Act) (olds : List Bounds) (selected : List ℕ) → length (new_dims a olds selected) ≡ length olds
length-new a olds selected = length-map-range_with_len (λ j. (cut_at a olds selected j).dim) 0 (length olds)

length-emptied : (a : Act) (olds : List Bounds) (selected : List ℕ) → length (emptied_dims a olds selected) ≡ length olds
length-emptied a olds selected = length-map-range_with_len (emptied_dim a olds selected) 0 (length olds)

pub length-refilled : (a : Act) (olds : List Bounds) (selected : List ℕ) (ds : List Bounds) → length (refilled_dims a olds selected ds) ≡ length olds
length-refilled a olds selected ds = length-map-range_with_len (refilled_dim a olds selected ds) 0 (length olds)

-- no index array depends on a dimension that is infinite
stays-unread : (a : Act) (u : DomainAndMaps) (selected : List ℕ) (k : ℕ) → IsTransform u → k < length u.domain.dims → stays a u.domain.dims selected k ≡ true
    → list_any (has_array_along k) u.maps ≡ false
stays-unread a u selected k t h s = told (list_any (has_array_along k) u.maps) refl
  where
    infinite : is_finite (dim_at u.domain.dims k) ≡ false
    infinite = not_true (is_finite (dim_at u.domain.dims k)) ((both (not (is_finite (dim_at u.domain.dims k))) (not (is_finite (cut_at a u.domain.dims selected k).dim)) s).0)

    finite : (d : Bounds) → is_fixed d ≡ true → is_finite d ≡ true
    finite d e =
        let q = both (not d.lo_implicit && not d.hi_implicit && is_index d.lo) (is_index d.hi) e in
        let r = both (not d.lo_implicit && not d.hi_implicit) (is_index d.lo) q.0 in
        both_true (is_index d.lo) (is_index d.hi) r.1 q.1

    told : (b : Bool) → list_any (has_array_along k) u.maps ≡ b → b ≡ false
    told false e = refl
    told true e = not_both (is_finite (dim_at u.domain.dims k)) (finite (dim_at u.domain.dims k) (fixed-maps u.domain.dims u.maps k t.maps h e)) infinite

-- so emptied dimensions are read as those of the step
alike-emptied : (a : Act) (u : DomainAndMaps) (selected : List ℕ) → IsTransform u → AreAlikeAll (new_dims a u.domain.dims selected) (emptied_dims a u.domain.dims selected) u.maps
alike-emptied a u selected t k h = told (stays a u.domain.dims selected k) refl
  where
    less : k < length u.domain.dims
    less = let l = length-new a u.domain.dims selected in omega (arith, h, l)

    told : (b : Bool) → stays a u.domain.dims selected k ≡ b
        → (get_or (new_dims a u.domain.dims selected) k point ≡ get_or (emptied_dims a u.domain.dims selected) k point) ⊎ (list_any (has_array_along k) u.maps ≡ false)
    told true e = inr (stays-unread a u selected k t less e)
    told false e =
        let n = new-at a u.domain.dims selected k less in
        let m = emptied-at a u.domain.dims selected k less in
        let same : emptied_dim a u.domain.dims selected k ≡ (cut_at a u.domain.dims selected k).dim = rw e refl in
        inl (n ∙ sym same ∙ sym m)

-- the maps of the composition
abbrev maps_over : Act → DomainAndMaps → List ℕ → List Bounds → List OutMap
maps_over a u selected ds = map (composed_map u.domain.dims ds (owns (cut_at a u.domain.dims selected) (length u.domain.dims))) u.maps

same-maps : (a : Act) (u : DomainAndMaps) (selected : List ℕ) → IsTransform u
    → maps_over a u selected (new_dims a u.domain.dims selected) ≡ maps_over a u selected (emptied_dims a u.domain.dims selected)
same-maps a u selected t =
    maps-alike (cut_at a u.domain.dims selected) (length u.domain.dims) u.domain.dims (new_dims a u.domain.dims selected) (emptied_dims a u.domain.dims selected) u.maps
    (length-new a u.domain.dims selected ∙ sym (length-emptied a u.domain.dims selected)) (alike-emptied a u selected t)

-- no index array of the composition depends on a dimension that stays infinite
stays-flat : (a : Act) (u : DomainAndMaps) (selected : List ℕ) (k : ℕ) → IsTransform u → k < length u.domain.dims → stays a u.domain.dims selected k ≡ true
    → (ds : List Bounds) → list_any (has_array_along k) (maps_over a u selected ds) ≡ false
stays-flat a u selected k t h s ds = unread-all (cut_at a u.domain.dims selected) (length u.domain.dims) k u.domain.dims ds u.maps (stays-unread a u selected k t h s)

-- the dimensions of the answer over the cuts are the refilled ones
same-dims : (a : Act) (u : DomainAndMaps) (selected : List ℕ) → IsTransform u
    → (let ms = maps_over a u selected (emptied_dims a u.domain.dims selected) in
    closed_dims 0 (new_dims a u.domain.dims selected) ms ≡ refilled_dims a u.domain.dims selected (closed_dims 0 (emptied_dims a u.domain.dims selected) ms))
same-dims a u selected t = listed-at (refilled_dim a olds selected (closed_dims 0 hs ms)) (closed_dims 0 ns ms) point each ∙ ap (λ n. map (refilled_dim a olds selected (closed_dims 0 hs ms)) (range_with_len 0 n)) count
  where
    olds : List Bounds
    olds = u.domain.dims

    ns : List Bounds
    ns = new_dims a olds selected

    hs : List Bounds
    hs = emptied_dims a olds selected

    ms : List OutMap
    ms = maps_over a u selected hs

    count : length (closed_dims 0 ns ms) ≡ length olds
    count = length-closed 0 ns ms ∙ length-new a olds selected

    each : (i : ℕ) → i < length (closed_dims 0 ns ms) → get_or (closed_dims 0 ns ms) i point ≡ refilled_dim a olds selected (closed_dims 0 hs ms) i
    each i h =
        let c = length-closed 0 ns ms in
        let d = length-new a olds selected in
        let e = length-emptied a olds selected in
        let z : 0 + i ≡ i = omega arith in
        let less : i < length olds = omega (arith, h, c, d) in
        let n = closed-at 0 ns ms i (omega (arith, h, c)) ∙ ap (λ k. closed_along k ms (get_or ns i point)) z ∙ ap (closed_along i ms) (new-at a olds selected i less) in
        let m = closed-at 0 hs ms i (omega (arith, less, e)) ∙ ap (λ k. closed_along k ms (get_or hs i point)) z ∙ ap (closed_along i ms) (emptied-at a olds selected i less) in
        n ∙ told (stays a olds selected i) refl less m
      where
        told : (b : Bool) → stays a olds selected i ≡ b → i < length olds → get_or (closed_dims 0 hs ms) i point ≡ closed_along i ms (emptied_dim a olds selected i)
            → closed_along i ms (cut_at a olds selected i).dim ≡ refilled_dim a olds selected (closed_dims 0 hs ms) i
        told true s less m = let flat = stays-flat a u selected i t less s hs in rw (s, flat) refl
        told false s less m =
            let same : emptied_dim a olds selected i ≡ (cut_at a olds selected i).dim = rw s refl in
            let back : refilled_dim a olds selected (closed_dims 0 hs ms) i ≡ get_or (closed_dims 0 hs ms) i point = rw s refl in
            ap (closed_along i ms) (sym same) ∙ sym m ∙ sym back

-- the answer over the cuts by that over emptied dimensions
abbrev pub refilled_answer : Act → List Bounds → List ℕ → Result DomainAndMaps Cause → Result DomainAndMaps Cause
refilled_answer a olds selected (Ok t) = Ok (on_dims t (refilled_dims a olds selected t.domain.dims))
refilled_answer a olds selected (Err c) = Err c

pub over-refilled : (a : Act) (u : DomainAndMaps) (selected : List ℕ) → IsTransform u
    → over u (cut_view u selected a) ≡ refilled_answer a u.domain.dims selected (over u (emptied_view u selected a))
over-refilled a u selected t =
    ap (λ (o : Option ℕ). or_cause (unless_passed passed (unless_large o (joined u view)))) large
    ∙ told passed (position_from (is_too_large hs inners) 0 u.maps)
  where
    olds : List Bounds
    olds = u.domain.dims

    ns : List Bounds
    ns = new_dims a olds selected

    hs : List Bounds
    hs = emptied_dims a olds selected

    inners : List OutMap
    inners = owns (cut_at a olds selected) (length olds)

    view : DomainAndMaps
    view = cut_view u selected a

    built : DomainAndMaps
    built = emptied_view u selected a

    passed : Option ℕ
    passed = position_from (passes_word inners) 0 u.maps

    large : position_from (is_too_large ns inners) 0 u.maps ≡ position_from (is_too_large hs inners) 0 u.maps
    large = first-large-alike (cut_at a olds selected) (length olds) ns hs 0 u.maps (length-new a olds selected ∙ sym (length-emptied a olds selected)) (alike-emptied a u selected t)

    same : joined u view ≡ on_dims (joined u built) (refilled_dims a olds selected (joined u built).domain.dims)
    same =
        ap (λ (ms : List OutMap). let x : DomainAndMaps = record { domain = record { dims = closed_dims 0 ns ms; labels = u.domain.labels }; maps = ms } in x) (same-maps a u selected t)
        ∙ ap (λ (ds : List Bounds). let x : DomainAndMaps = record { domain = record { dims = ds; labels = u.domain.labels }; maps = maps_over a u selected hs } in x) (same-dims a u selected t)

    told : (p o : Option ℕ) → or_cause (unless_passed p (unless_large o (joined u view))) ≡ refilled_answer a olds selected (or_cause (unless_passed p (unless_large o (joined u built))))
    told (Some k) o = refl
    told None (Some k) = refl
    told None None = ap (λ (x : DomainAndMaps). let r : Result DomainAndMaps Cause = Ok x in r) same

-- What is known of the transform that composing gave.

is-joined : (u built t : DomainAndMaps) → over u built ≡ Ok t → t ≡ joined u built
is-joined u built t e = told (position_from (passes_word built.maps) 0 u.maps) (position_from (is_too_large built.domain.dims built.maps) 0 u.maps) e
  where
    told : (p o : Option ℕ) → or_cause (unless_passed p (unless_large o (joined u built))) ≡ Ok t → t ≡ joined u built
    told (Some k) o e = cc
    told None (Some k) e = cc
    told None None e = cc

abbrev back : Act → DomainAndMaps → List ℕ → DomainAndMaps → List Bounds
back a u selected t = refilled_dims a u.domain.dims selected t.domain.dims

record IsOver (a : Act) (u : DomainAndMaps) (selected : List ℕ) (t : DomainAndMaps) : Type 0 where
  old : IsTransform u
  is : t ≡ joined u (emptied_view u selected a)

length-over : (a : Act) (u : DomainAndMaps) (selected : List ℕ) (t : DomainAndMaps) → IsOver a u selected t → length t.domain.dims ≡ length u.domain.dims
length-over a u selected t o =
    ap (λ (x : DomainAndMaps). length x.domain.dims) o.is
    ∙ length-closed 0 (emptied_dims a u.domain.dims selected) (maps_over a u selected (emptied_dims a u.domain.dims selected))
    ∙ length-emptied a u.domain.dims selected

-- where a dimension stays infinite, no index array depends on it, and the others stay
alike-back : (a : Act) (u : DomainAndMaps) (selected : List ℕ) (t : DomainAndMaps) → IsOver a u selected t → AreAlikeAll t.domain.dims (back a u selected t) t.maps
alike-back a u selected t o k h = told (stays a u.domain.dims selected k) refl
  where
    less : k < length u.domain.dims
    less = let l = length-over a u selected t o in omega (arith, h, l)

    told : (b : Bool) → stays a u.domain.dims selected k ≡ b
        → (get_or t.domain.dims k point ≡ get_or (back a u selected t) k point) ⊎ (list_any (has_array_along k) t.maps ≡ false)
    told true s = inr (ap (λ (x : DomainAndMaps). list_any (has_array_along k) x.maps) o.is ∙ stays-flat a u selected k o.old less s (emptied_dims a u.domain.dims selected))
    told false s =
        let same : refilled_dim a u.domain.dims selected t.domain.dims k ≡ get_or t.domain.dims k point = rw s refl in
        inl (sym (refilled-at a u.domain.dims selected t.domain.dims k less ∙ same))

-- maps go from such dimensions too
map-alike : (ds es : List Bounds) (m : OutMap) → length ds ≡ length es → AreAlike ds es m → is_map ds m ≡ true → is_map es m ≡ true
map-alike ds es (Constant o) l h e = refl
map-alike ds es (Strided o s from) l h e = ap (λ n. nat_lt from n) (sym l) ∙ e
map-alike ds es (Indexed o s sizes entries) l h e =
    let p = both (fits ds sizes) (are_entries sizes entries) e in
    let q = both (length ds == length sizes) (list_all (λ p. fits_dim p.0 p.1) (zip ds sizes)) p.0 in
    both_true (fits es sizes) (are_entries sizes entries)
    (both_true (length es == length sizes) (list_all (λ p. fits_dim p.0 p.1) (zip es sizes)) (ap (λ n. n == length sizes) (sym l) ∙ q.0)
    (fit_others ds es sizes l (λ k i f. each k f (h k i)) q.1)) p.1
  where
    each : (k : ℕ) → fits_dim (get_or ds k point) (get_or sizes k 1) ≡ true → (get_or ds k point ≡ get_or es k point) ⊎ (not (get_or sizes k 1 == 1) ≡ false)
        → fits_dim (get_or es k point) (get_or sizes k 1) ≡ true
    each k f (inl g) = ap (λ (d : Bounds). fits_dim d (get_or sizes k 1)) (sym g) ∙ f
    each k f (inr g) = told (get_or sizes k 1 == 1) refl g
      where
        told : (b : Bool) → (get_or sizes k 1 == 1) ≡ b → not b ≡ false → fits_dim (get_or es k point) (get_or sizes k 1) ≡ true
        told true v w = rw v refl
        told false v w = cc

maps-from : (ds es : List Bounds) (ms : List OutMap) → length ds ≡ length es → AreAlikeAll ds es ms → list_all (is_map ds) ms ≡ true → list_all (is_map es) ms ≡ true
maps-from ds es [] l h e = refl
maps-from ds es (m ∷ ms) l h e =
    let p = both (is_map ds m) (list_all (is_map ds) ms) e in
    both_true (is_map es m) (list_all (is_map es) ms) (map-alike ds es m l (alike-first ds es m ms h) p.0) (maps-from ds es ms l (alike-rest ds es m ms h) p.1)

-- and have the same numbers
entry-alike : (ds es : List Bounds) (sizes : List ℕ) (index : List ℤ) → length ds ≡ length es
    → ((k : ℕ) → k < length ds → (get_or ds k point ≡ get_or es k point) ⊎ (not (get_or sizes k 1 == 1) ≡ false)) → entry_place ds sizes index ≡ entry_place es sizes index
entry-alike [] [] sizes index l h = refl
entry-alike [] (e ∷ es) sizes index l h = absurd (omega (arith, l))
entry-alike (d ∷ ds) [] sizes index l h = absurd (omega (arith, l))
entry-alike (d ∷ ds) (e ∷ es) [] index l h = refl
entry-alike (d ∷ ds) (e ∷ es) (s ∷ sizes) [] l h = refl
entry-alike (d ∷ ds) (e ∷ es) (s ∷ sizes) (x ∷ index) l h =
    ap (λ n. n * cell_count sizes + entry_place ds sizes index) (told (h 0 (omega arith)))
    ∙ ap (λ n. entry_index e s x * cell_count sizes + n) (entry-alike ds es sizes index (omega (arith, l)) (λ k i. h (suc k) (omega (arith, i))))
  where
    at_one : (b : Bool) → (s == 1) ≡ b → not b ≡ false → entry_index d s x ≡ entry_index e s x
    at_one true v w = rw v refl
    at_one false v w = cc

    told : (d ≡ e) ⊎ (not (s == 1) ≡ false) → entry_index d s x ≡ entry_index e s x
    told (inl g) = ap (λ (b : Bounds). entry_index b s x) g
    told (inr g) = at_one (s == 1) refl g

value-alike : (ds es : List Bounds) (index : List ℤ) (m : OutMap) → length ds ≡ length es → AreAlike ds es m → map_value ds index m ≡ map_value es index m
value-alike ds es index (Constant o) l h = refl
value-alike ds es index (Strided o s from) l h = refl
value-alike ds es index (Indexed o s sizes entries) l h = ap (λ n. o +ℤ s *ℤ get_or entries n (pos 0)) (entry-alike ds es sizes index l h)

values-alike : (ds es : List Bounds) (index : List ℤ) (ms : List OutMap) → length ds ≡ length es → AreAlikeAll ds es ms → map (map_value ds index) ms ≡ map (map_value es index) ms
values-alike ds es index [] l h = refl
values-alike ds es index (m ∷ ms) l h =
    ap (λ (x : ℤ). x ∷ map (map_value ds index) ms) (value-alike ds es index m l (alike-first ds es m ms h))
    ∙ ap (λ (xs : List ℤ). map_value es index m ∷ xs) (values-alike ds es index ms l (alike-rest ds es m ms h))

length-back : (a : Act) (u : DomainAndMaps) (selected : List ℕ) (t : DomainAndMaps) → IsOver a u selected t → length t.domain.dims ≡ length (back a u selected t)
length-back a u selected t o = length-over a u selected t o ∙ sym (length-refilled a u.domain.dims selected t.domain.dims)

is-over : (a : Act) (u : DomainAndMaps) (selected : List ℕ) (t : DomainAndMaps) → IsTransform u → IsComposed u selected a t → IsOver a u selected t
is-over a u selected t i c = record { old = i; is = is-joined u (emptied_view u selected a) t c.answer }

pub length-composed : (a : Act) (u : DomainAndMaps) (selected : List ℕ) (t : DomainAndMaps) → IsTransform u → IsComposed u selected a t → length t.domain.dims ≡ length u.domain.dims
length-composed a u selected t i c = length-over a u selected t (is-over a u selected t i c)

-- the maps of the composition go from the refilled dimensions
pub fit-refilled : (a : Act) (u : DomainAndMaps) (selected : List ℕ) (t : DomainAndMaps) → IsTransform u → IsTransform t → IsComposed u selected a t
    → list_all (is_map (refilled_dims a u.domain.dims selected t.domain.dims)) t.maps ≡ true
fit-refilled a u selected t i j c =
    let o = is-over a u selected t i c in
    maps-from t.domain.dims (back a u selected t) t.maps (length-back a u selected t o) (alike-back a u selected t o) j.maps

-- the composition over refilled dimensions follows the cuts
follows-values : (a : Act) (u : DomainAndMaps) (selected : List ℕ) (t : DomainAndMaps) → IsOver a u selected t → Agrees t u (emptied_view u selected a)
    → (index : List ℤ) → IsCell (back a u selected t) index → value_at (on_dims t (back a u selected t)) index ≡ value_at u (value_at (cut_view u selected a) index)
follows-values a u selected t o g index c =
    sym (values-alike t.domain.dims (back a u selected t) index t.maps l (alike-back a u selected t o))
    ∙ g index (length-IsCell (back a u selected t) index c ∙ sym l) covered
    ∙ ap (value_at u) (values-own f (emptied_dims a olds selected) (new_dims a olds selected) index (range_with_len 0 (length olds)))
  where
    olds : List Bounds
    olds = u.domain.dims

    f : ℕ → Cut
    f = cut_at a olds selected

    l : length t.domain.dims ≡ length (back a u selected t)
    l = length-back a u selected t o

    covered : IsCovered t.domain.dims u.maps (owns f (length olds)) index
    covered k h r = told (stays a olds selected k) refl
      where
        less : k < length olds
        less = let n = length-over a u selected t o in omega (arith, h, n)

        told : (b : Bool) → stays a olds selected k ≡ b → ((get_or t.domain.dims k point).lo ≤ℤ get_or index k (pos 0)) × (get_or index k (pos 0) ≤ℤ (get_or t.domain.dims k point).hi)
        told true s = not_both (list_any (reads_along k (owns f (length olds))) u.maps) r (unread-maps f (length olds) k u.maps (stays-unread a u selected k o.old less s))
        told false s =
            let same : refilled_dim a olds selected t.domain.dims k ≡ get_or t.domain.dims k point = rw s refl in
            let at : get_or (back a u selected t) k point ≡ get_or t.domain.dims k point = refilled-at a olds selected t.domain.dims k less ∙ same in
            subst (λ (d : Bounds). (d.lo ≤ℤ get_or index k (pos 0)) × (get_or index k (pos 0) ≤ℤ d.hi)) at (between (back a u selected t) index k c (omega (arith, h, l)))

-- where all are finite, they are those of the composition
finite-back : (a : Act) (u : DomainAndMaps) (selected : List ℕ) (t : DomainAndMaps) → IsOver a u selected t → list_all is_finite (back a u selected t) ≡ true → t.domain.dims ≡ back a u selected t
finite-back a u selected t o e =
    listed-at (refilled_dim a olds selected t.domain.dims) t.domain.dims point each ∙ ap (λ n. map (refilled_dim a olds selected t.domain.dims) (range_with_len 0 n)) (length-over a u selected t o)
  where
    olds : List Bounds
    olds = u.domain.dims

    finite-at : (ds : List Bounds) (k : ℕ) → list_all is_finite ds ≡ true → k < length ds → is_finite (get_or ds k point) ≡ true
    finite-at [] k f h = absurd (omega (arith, h))
    finite-at (d ∷ ds) zero f h = (both (is_finite d) (list_all is_finite ds) f).0
    finite-at (d ∷ ds) (suc k) f h = finite-at ds k ((both (is_finite d) (list_all is_finite ds) f).1) (omega (arith, h))

    each : (k : ℕ) → k < length t.domain.dims → get_or t.domain.dims k point ≡ refilled_dim a olds selected t.domain.dims k
    each k h = told (stays a olds selected k) refl
      where
        less : k < length olds
        less = let n = length-over a u selected t o in omega (arith, h, n)

        told : (b : Bool) → stays a olds selected k ≡ b → get_or t.domain.dims k point ≡ refilled_dim a olds selected t.domain.dims k
        told false s = rw s refl
        told true s =
            let l = length-back a u selected t o in
            let new : refilled_dim a olds selected t.domain.dims k ≡ (cut_at a olds selected k).dim = rw s refl in
            let here = finite-at (back a u selected t) k e (omega (arith, h, l)) in
            let fin : is_finite (cut_at a olds selected k).dim ≡ true = ap is_finite (sym (refilled-at a olds selected t.domain.dims k less ∙ new)) ∙ here in
            let inf = not_true (is_finite (cut_at a olds selected k).dim) ((both (not (is_finite (dim_at olds k))) (not (is_finite (cut_at a olds selected k).dim)) s).1) in
            not_both (is_finite (cut_at a olds selected k).dim) fin inf

follows-inside : (a : Act) (u : DomainAndMaps) (selected : List ℕ) (t : DomainAndMaps) → IsOver a u selected t → GoesInto t.domain.dims (emptied_view u selected a) u.domain.dims
    → GoesInto (back a u selected t) (cut_view u selected a) u.domain.dims
follows-inside a u selected t o g e cell c =
    let same = finite-back a u selected t o e in
    let in_old = g (subst (λ (ds : List Bounds). list_all is_finite ds ≡ true) (sym same) e) cell (subst (λ (ds : List Bounds). IsCell ds cell) (sym same) c) in
    ap (first_outside u.domain.dims) (values-own (cut_at a u.domain.dims selected) (new_dims a u.domain.dims selected) (emptied_dims a u.domain.dims selected) cell (range_with_len 0 (length u.domain.dims))) ∙ in_old

-- the bounds of the result's dimensions are those that the step gives
ends-back : (a : Act) (u : DomainAndMaps) (selected : List ℕ) (t : DomainAndMaps) (k : ℕ) → IsOver a u selected t → k < length u.domain.dims
    → ((get_or (back a u selected t) k point).lo ≡ (cut_at a u.domain.dims selected k).dim.lo) × ((get_or (back a u selected t) k point).hi ≡ (cut_at a u.domain.dims selected k).dim.hi)
ends-back a u selected t k o h = told (stays a olds selected k) refl
  where
    olds : List Bounds
    olds = u.domain.dims

    ms : List OutMap
    ms = maps_over a u selected (emptied_dims a olds selected)

    HasEnds : Bounds → Type 0
    HasEnds d = (d.lo ≡ (cut_at a olds selected k).dim.lo) × (d.hi ≡ (cut_at a olds selected k).dim.hi)

    along : (d : Bounds) → HasEnds d → HasEnds (closed_along (0 + k) ms d)
    along d e = split (list_any (has_array_along (0 + k)) ms)
      where
        split : (b : Bool) → HasEnds (cond b (closed d) d)
        split true = e
        split false = e

    told : (b : Bool) → stays a olds selected k ≡ b → HasEnds (get_or (back a u selected t) k point)
    told true s =
        let new : refilled_dim a olds selected t.domain.dims k ≡ (cut_at a olds selected k).dim = rw s refl in
        subst HasEnds (sym (refilled-at a olds selected t.domain.dims k h ∙ new)) (refl, refl)
    told false s =
        let same : refilled_dim a olds selected t.domain.dims k ≡ get_or t.domain.dims k point = rw s refl in
        let made : emptied_dim a olds selected k ≡ (cut_at a olds selected k).dim = rw s refl in
        let less : k < length (emptied_dims a olds selected) = (let l = length-emptied a olds selected in omega (arith, h, l)) in
        let at : get_or t.domain.dims k point ≡ closed_along (0 + k) ms (get_or (emptied_dims a olds selected) k point) =
        ap (λ (x : DomainAndMaps). get_or x.domain.dims k point) o.is ∙ closed-at 0 (emptied_dims a olds selected) ms k less in
        subst HasEnds (sym (refilled-at a olds selected t.domain.dims k h ∙ same ∙ at))
        (along (get_or (emptied_dims a olds selected) k point) (subst HasEnds (sym (emptied-at a olds selected k h ∙ made)) (refl, refl)))

follows-reached : (a : Act) (u : DomainAndMaps) (selected : List ℕ) (t : DomainAndMaps) → IsOver a u selected t → ((spot : ℕ) → HasIndicesAt a spot)
    → ReachesInto (back a u selected t) (cut_view u selected a) u.domain.dims
follows-reached a u selected t o p cell c k h i =
    subst (λ (y : ℤ). is_effective (dim_at u.domain.dims k) y ≡ true) (sym at)
    (cut_at-reached a u.domain.dims selected k (AreBounds-each u.domain.dims o.old.bounds k h) p (get_or cell k (pos 0))
    (subst (λ (z : ℤ). z ≤ℤ get_or cell k (pos 0)) ends.0 within.0) (subst (λ (z : ℤ). get_or cell k (pos 0) ≤ℤ z) ends.1 within.1)
    (subst (λ (y : ℤ). is_index y ≡ true) at i))
  where
    cut : Cut
    cut = cut_at a u.domain.dims selected k

    ends : ((get_or (back a u selected t) k point).lo ≡ cut.dim.lo) × ((get_or (back a u selected t) k point).hi ≡ cut.dim.hi)
    ends = ends-back a u selected t k o h

    within : ((get_or (back a u selected t) k point).lo ≤ℤ get_or cell k (pos 0)) × (get_or cell k (pos 0) ≤ℤ (get_or (back a u selected t) k point).hi)
    within = between (back a u selected t) cell k c (let l = length-refilled a u.domain.dims selected t.domain.dims in omega (arith, h, l))

    at : get_or (value_at (cut_view u selected a) cell) k (pos 0) ≡ cut.offset +ℤ cut.stride *ℤ get_or cell k (pos 0)
    at = value-own (cut_at a u.domain.dims selected) (new_dims a u.domain.dims selected) cell (length u.domain.dims) k h

pub Gives-refilled : (a : Act) (u : DomainAndMaps) (selected : List ℕ) (t : DomainAndMaps) → IsTransform u → ((spot : ℕ) → HasIndicesAt a spot) → IsComposed u selected a t
    → Gives u (cut_view u selected a) (over u (cut_view u selected a)) (Ok (on_dims t (refilled_dims a u.domain.dims selected t.domain.dims)))
Gives-refilled a u selected t i p c =
    let o = is-over a u selected t i c in (
      over-refilled a u selected i ∙ ap (refilled_answer a u.domain.dims selected) c.answer,
      record { values = follows-values a u selected t o c.agrees; inside = follows-inside a u selected t o c.inside; reached = follows-reached a u selected t o p },
    )
