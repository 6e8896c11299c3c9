-- Views whose maps differ where no output depends on them: their compositions are the same.
use Rattle.std.proofs.Common.{◌≡◌, ◌∙◌, ◌⊎◌, inl, inr, subst, zero, suc, ℕ, ◌+◌, ◌*◌, ◌<◌, ◌==◌, Bool, true, false, cond, not, ◌&&◌, ◌||◌, List, [], ◌∷◌, length, map, get_or, refl, sym, ap, arith, ℤ, pos, ◌+ℤ◌, ◌*ℤ◌, Option, Some, None, Result, Ok, Err, nat_le, nat_lt}
use Rattle.std.proofs.lemmas.Bool.Decides.{nat_tests}
use Rattle.std.specs.List.{list_all, list_any, zip, position_from}
use Rattle.cells.specs.Places.{cell_count}
use Rattle.cells.proofs.Laws.{both_false, list_all-at}
use Rattle.index_intervals.specs.Bounds.{Bounds, is_index}
use Rattle.index_transform.specs.declared.map.OutMap.{OutMap}
use Rattle.index_transform.specs.declared.map.OutMap.TheVariants.{Constant, Strided, Indexed}
use Rattle.index_transform.specs.Cells.{cells_of}
use Rattle.index_transform.specs.Maps.{size_of}
use Rattle.index_transform.specs.Transforms.{DomainAndMaps}
use Rattle.index_transform.specs.Values.{map_value, entry_place, entry_index, is_effective}
use Rattle.index_transform.specs.Walks.{IsCell}
use Rattle.transform_composition.specs.Agreeing.{GoesInto}
use Rattle.transform_composition.specs.Composing.{nowhere, strided_over, composed_map, passes_over, passes_word, is_too_large, closed_dims, joined, unless_passed, unless_large}
use Rattle.transform_composition.specs.Reading.{depends_on, is_read_along, point, read_along, read_dims, entry_over}
use Rattle.dim_changes.specs.declared.cause.Fault.{Fault}
use Rattle.dim_changes.specs.declared.cause.Fault.TheVariants as fault
use Rattle.dim_changes.specs.Causes.{or_cause, over, Gives, IsFaultOf, ReachesInto}
use Rattle.dim_changes.proofs.Laws.{cell-closed, value-at}
use Rattle.dim_expressions.specs.Arrays.{sizes_along, array_dim, array_map}
use Rattle.dim_expressions.proofs.PassedLaws.{as_it_is, place-along}

-- each map is the same, or the outer map doesn't depend on what it gives
abbrev AreSameFor : List OutMap → List OutMap → OutMap → Type 0
AreSameFor vs ws m = (j : ℕ) → j < length vs → (get_or vs j nowhere ≡ get_or ws j nowhere) ⊎ (depends_on j m ≡ false)

abbrev pub AreSameForAll : List OutMap → List OutMap → List OutMap → Type 0
AreSameForAll vs ws ms = (j : ℕ) → j < length vs → (get_or vs j nowhere ≡ get_or ws j nowhere) ⊎ (list_any (depends_on j) ms ≡ false)

first-same : (vs ws : List OutMap) (m : OutMap) (ms : List OutMap) → AreSameForAll vs ws (m ∷ ms) → AreSameFor vs ws m
first-same vs ws m ms h j i = told (h j i)
  where
    told : (get_or vs j nowhere ≡ get_or ws j nowhere) ⊎ (list_any (depends_on j) (m ∷ ms) ≡ false) → (get_or vs j nowhere ≡ get_or ws j nowhere) ⊎ (depends_on j m ≡ false)
    told (inl e) = inl e
    told (inr e) = inr ((both_false (depends_on j m) (list_any (depends_on j) ms) e).0)

rest-same : (vs ws : List OutMap) (m : OutMap) (ms : List OutMap) → AreSameForAll vs ws (m ∷ ms) → AreSameForAll vs ws ms
rest-same vs ws m ms h j i = told (h j i)
  where
    told : (get_or vs j nowhere ≡ get_or ws j nowhere) ⊎ (list_any (depends_on j) (m ∷ ms) ≡ false) → (get_or vs j nowhere ≡ get_or ws j nowhere) ⊎ (list_any (depends_on j) ms ≡ false)
    told (inl e) = inl e
    told (inr e) = inr ((both_false (depends_on j m) (list_any (depends_on j) ms) e).1)

-- An index array that is read.

read-same : (k : ℕ) (sizes : List ℕ) (vs ws : List OutMap) → length vs ≡ length ws
    → ((j : ℕ) → j < length vs → (get_or vs j nowhere ≡ get_or ws j nowhere) ⊎ (not (get_or sizes j 1 == 1) ≡ false))
    → is_read_along sizes vs k ≡ is_read_along sizes ws k
read-same k [] vs ws l h = refl
read-same k (s ∷ sizes) [] [] l h = refl
read-same k (s ∷ sizes) [] (w ∷ ws) l h = absurd (omega (arith, l))
read-same k (s ∷ sizes) (v ∷ vs) [] l h = absurd (omega (arith, l))
read-same k (s ∷ sizes) (v ∷ vs) (w ∷ ws) l h =
    ap (λ b. b || is_read_along sizes vs k) (told (h 0 (omega arith)))
    ∙ ap (λ b. (not (s == 1) && depends_on k w) || b) (read-same k sizes vs ws (omega (arith, l)) (λ j i. h (suc j) (omega (arith, i))))
  where
    none : (b c d : Bool) → b ≡ false → (b && c) ≡ (b && d)
    none b c d e = rw e refl

    told : (v ≡ w) ⊎ (not (s == 1) ≡ false) → (not (s == 1) && depends_on k v) ≡ (not (s == 1) && depends_on k w)
    told (inl e) = ap (λ (x : OutMap). not (s == 1) && depends_on k x) e
    told (inr e) = none (not (s == 1)) (depends_on k v) (depends_on k w) e

read_dims-same : (a : ℕ) (ds : List Bounds) (sizes : List ℕ) (vs ws : List OutMap) → ((k : ℕ) → is_read_along sizes vs k ≡ is_read_along sizes ws k)
    → read_dims a ds sizes vs ≡ read_dims a ds sizes ws
read_dims-same a [] sizes vs ws h = refl
read_dims-same a (d ∷ ds) sizes vs ws h =
    ap (λ b. cond b d point ∷ read_dims (a + 1) ds sizes vs) (h a)
    ∙ ap (λ (xs : List Bounds). read_along a sizes ws d ∷ xs) (read_dims-same (a + 1) ds sizes vs ws h)

entry-same : (outers ds : List Bounds) (index : List ℤ) (sizes : List ℕ) (vs ws : List OutMap) → length vs ≡ length ws
    → ((j : ℕ) → j < length vs → (get_or vs j nowhere ≡ get_or ws j nowhere) ⊎ (not (get_or sizes j 1 == 1) ≡ false))
    → entry_place outers sizes (map (map_value ds index) vs) ≡ entry_place outers sizes (map (map_value ds index) ws)
entry-same [] ds index sizes vs ws l h = refl
entry-same (o ∷ outers) ds index [] vs ws l h = refl
entry-same (o ∷ outers) ds index (s ∷ sizes) [] [] l h = refl
entry-same (o ∷ outers) ds index (s ∷ sizes) [] (w ∷ ws) l h = absurd (omega (arith, l))
entry-same (o ∷ outers) ds index (s ∷ sizes) (v ∷ vs) [] l h = absurd (omega (arith, l))
entry-same (o ∷ outers) ds index (s ∷ sizes) (v ∷ vs) (w ∷ ws) l h =
    ap (λ n. n * cell_count sizes + entry_place outers sizes (map (map_value ds index) vs)) (told (h 0 (omega arith)))
    ∙ ap (λ n. entry_index o s (map_value ds index w) * cell_count sizes + n) (entry-same outers ds index sizes vs ws (omega (arith, l)) (λ j i. h (suc j) (omega (arith, i))))
  where
    at_one : (b : Bool) → (s == 1) ≡ b → not b ≡ false → entry_index o s (map_value ds index v) ≡ entry_index o s (map_value ds index w)
    at_one true e f = rw e refl
    at_one false e f = cc

    told : (v ≡ w) ⊎ (not (s == 1) ≡ false) → entry_index o s (map_value ds index v) ≡ entry_index o s (map_value ds index w)
    told (inl e) = ap (λ (x : OutMap). entry_index o s (map_value ds index x)) e
    told (inr e) = at_one (s == 1) refl e

-- One outer map.

same-at : (vs ws : List OutMap) (from : ℕ) → length vs ≡ length ws → ((j : ℕ) → j < length vs → (get_or vs j nowhere ≡ get_or ws j nowhere) ⊎ ((from == j) ≡ false))
    → get_or vs from nowhere ≡ get_or ws from nowhere
same-at vs ws from l h = told (nat_lt from (length vs)) refl
  where
    itself : (get_or vs from nowhere ≡ get_or ws from nowhere) ⊎ ((from == from) ≡ false) → get_or vs from nowhere ≡ get_or ws from nowhere
    itself (inl e) = e
    itself (inr e) = absurd (let r : (from == from) ≡ true = grind (arith, nat_tests) in let no_such : true ≡ false = sym r ∙ e in cc)

    out : (xs : List OutMap) (i : ℕ) → length xs < i + 1 → get_or xs i nowhere ≡ nowhere
    out [] i h = refl
    out (x ∷ xs) zero h = absurd (omega (arith, h))
    out (x ∷ xs) (suc i) h = out xs i (omega (arith, h))

    told : (b : Bool) → nat_lt from (length vs) ≡ b → get_or vs from nowhere ≡ get_or ws from nowhere
    told true e = itself (h from (grind (arith, nat_tests, e)))
    told false e =
        let most : length vs < from + 1 = grind (arith, nat_tests, e) in
        out vs from most ∙ sym (out ws from (omega (arith, most, l)))

composed-same : (outers ds : List Bounds) (vs ws : List OutMap) (m : OutMap) → length vs ≡ length ws → AreSameFor vs ws m
    → composed_map outers ds vs m ≡ composed_map outers ds ws m
composed-same outers ds vs ws (Constant o) l h = refl
composed-same outers ds vs ws (Strided o s from) l h = ap (strided_over o s) (same-at vs ws from l h)
composed-same outers ds vs ws (Indexed o s sizes entries) l h =
    ap (λ (rs : List Bounds). Indexed o s (map size_of rs) (map (entry_over outers sizes entries ds vs) (cells_of rs))) (read_dims-same 0 ds sizes vs ws (λ k. read-same k sizes vs ws l h))
    ∙ ap (λ (g : List ℤ → ℤ). let rs = read_dims 0 ds sizes ws in Indexed o s (map size_of rs) (map g (cells_of rs))) (λ i cell. entry cell i)
  where
    entry : (cell : List ℤ) → entry_over outers sizes entries ds vs cell ≡ entry_over outers sizes entries ds ws cell
    entry cell = ap (λ n. get_or entries n (pos 0)) (entry-same outers ds cell sizes vs ws l h)

passes-same : (vs ws : List OutMap) (m : OutMap) → length vs ≡ length ws → AreSameFor vs ws m → passes_word vs m ≡ passes_word ws m
passes-same vs ws (Constant o) l h = refl
passes-same vs ws (Strided o s from) l h = ap (passes_over o s) (same-at vs ws from l h)
passes-same vs ws (Indexed o s sizes entries) l h = refl

large-same : (ds : List Bounds) (vs ws : List OutMap) (m : OutMap) → length vs ≡ length ws → AreSameFor vs ws m → is_too_large ds vs m ≡ is_too_large ds ws m
large-same ds vs ws (Constant o) l h = refl
large-same ds vs ws (Strided o s from) l h = refl
large-same ds vs ws (Indexed o s sizes entries) l h =
    ap (λ (rs : List Bounds). not (nat_le (cell_count (map size_of rs)) 4194304)) (read_dims-same 0 ds sizes vs ws (λ k. read-same k sizes vs ws l h))

value-same : (olds ds : List Bounds) (index : List ℤ) (vs ws : List OutMap) (m : OutMap) → length vs ≡ length ws → AreSameFor vs ws m
    → map_value olds (map (map_value ds index) vs) m ≡ map_value olds (map (map_value ds index) ws) m
value-same olds ds index vs ws (Constant o) l h = refl
value-same olds ds index vs ws (Strided o s from) l h = ap (λ x. o +ℤ s *ℤ x) (number vs from ∙ ap (λ (x : OutMap). number_of x) (same-at vs ws from l h) ∙ sym (number ws from))
  where
    number_of : OutMap → ℤ
    number_of x = map_value ds index x

    -- what isn't there counts as 0, as the map of no transform does
    number : (xs : List OutMap) (i : ℕ) → get_or (map (map_value ds index) xs) i (pos 0) ≡ map_value ds index (get_or xs i nowhere)
    number [] i = refl
    number (x ∷ xs) zero = refl
    number (x ∷ xs) (suc i) = number xs i
value-same olds ds index vs ws (Indexed o s sizes entries) l h = ap (λ n. o +ℤ s *ℤ get_or entries n (pos 0)) (entry-same olds ds index sizes vs ws l h)

-- All outer maps.

maps-same : (outers ds : List Bounds) (vs ws ms : List OutMap) → length vs ≡ length ws → AreSameForAll vs ws ms → map (composed_map outers ds vs) ms ≡ map (composed_map outers ds ws) ms
maps-same outers ds vs ws [] l h = refl
maps-same outers ds vs ws (m ∷ ms) l h =
    ap (λ (x : OutMap). x ∷ map (composed_map outers ds vs) ms) (composed-same outers ds vs ws m l (first-same vs ws m ms h))
    ∙ ap (λ (xs : List OutMap). composed_map outers ds ws m ∷ xs) (maps-same outers ds vs ws ms l (rest-same vs ws m ms h))

first-by : (f g : OutMap → Bool) (vs ws : List OutMap) (i : ℕ) (ms : List OutMap) → AreSameForAll vs ws ms → ((m : OutMap) → AreSameFor vs ws m → f m ≡ g m)
    → position_from f i ms ≡ position_from g i ms
first-by f g vs ws i [] h e = refl
first-by f g vs ws i (m ∷ ms) h e =
    ap (λ b. cond b (Some i) (position_from f (i + 1) ms)) (e m (first-same vs ws m ms h))
    ∙ ap (λ (o : Option ℕ). cond (g m) (Some i) o) (first-by f g vs ws (i + 1) ms (rest-same vs ws m ms h) e)

values-same : (olds ds : List Bounds) (index : List ℤ) (vs ws ms : List OutMap) → length vs ≡ length ws → AreSameForAll vs ws ms
    → map (map_value olds (map (map_value ds index) vs)) ms ≡ map (map_value olds (map (map_value ds index) ws)) ms
values-same olds ds index vs ws [] l h = refl
values-same olds ds index vs ws (m ∷ ms) l h =
    ap (λ (x : ℤ). x ∷ map (map_value olds (map (map_value ds index) vs)) ms) (value-same olds ds index vs ws m l (first-same vs ws m ms h))
    ∙ ap (λ (xs : List ℤ). map_value olds (map (map_value ds index) ws) m ∷ xs) (values-same olds ds index vs ws ms l (rest-same vs ws m ms h))

-- a view with other maps where no output needs them
abbrev pub with_maps : DomainAndMaps → List OutMap → DomainAndMaps
with_maps v ws = record { domain = v.domain; maps = ws }

pub over-same : (u v : DomainAndMaps) (ws : List OutMap) → length v.maps ≡ length ws → AreSameForAll v.maps ws u.maps → over u v ≡ over u (with_maps v ws)
over-same u v ws l h =
    ap (λ (p : Option ℕ). or_cause (unless_passed p (unless_large (position_from (is_too_large v.domain.dims v.maps) 0 u.maps) (joined u v))))
    (first-by (passes_word v.maps) (passes_word ws) v.maps ws 0 u.maps h (λ m e. passes-same v.maps ws m l e))
    ∙ ap (λ (p : Option ℕ). or_cause (unless_passed (position_from (passes_word ws) 0 u.maps) (unless_large p (joined u v))))
    (first-by (is_too_large v.domain.dims v.maps) (is_too_large v.domain.dims ws) v.maps ws 0 u.maps h (λ m e. large-same v.domain.dims v.maps ws m l e))
    ∙ ap (λ (ms : List OutMap). or_cause (unless_passed (position_from (passes_word ws) 0 u.maps) (unless_large (position_from (is_too_large v.domain.dims ws) 0 u.maps)
    (record { domain = record { dims = closed_dims 0 v.domain.dims ms; labels = v.domain.labels }; maps = ms }))))
    (maps-same u.domain.dims v.domain.dims v.maps ws u.maps l h)

-- numbers that are effective, those of other maps being so
outside-same : (i : ℕ) (f : OutMap → ℤ) (os : List Bounds) (vs ws : List OutMap) → length vs ≡ length ws
    → ((j : ℕ) → j < length vs → (get_or vs j nowhere ≡ get_or ws j nowhere) ⊎ (is_effective (get_or os j point) (f (get_or vs j nowhere)) ≡ true))
    → position_from (λ p. not (is_effective p.0 p.1)) i (zip os (map f ws)) ≡ None → position_from (λ p. not (is_effective p.0 p.1)) i (zip os (map f vs)) ≡ None
outside-same i f [] vs ws l h e = refl
outside-same i f (o ∷ os) [] ws l h e = refl
outside-same i f (o ∷ os) (v ∷ vs) [] l h e = absurd (omega (arith, l))
outside-same i f (o ∷ os) (v ∷ vs) (w ∷ ws) l h e =
    let here = told (is_effective o (f w)) refl (h 0 (omega arith)) in
    let rest = outside-same (i + 1) f os vs ws (omega (arith, l)) (λ j k. h (suc j) (omega (arith, k))) (later (is_effective o (f w)) e) in
    rw here rest
  where
    later : (b : Bool) → cond (not b) (Some i) (position_from (λ p. not (is_effective p.0 p.1)) (i + 1) (zip os (map f ws))) ≡ None
        → position_from (λ p. not (is_effective p.0 p.1)) (i + 1) (zip os (map f ws)) ≡ None
    later true g = g
    later false g = cc

    first : (b : Bool) → cond (not b) (Some i) (position_from (λ p. not (is_effective p.0 p.1)) (i + 1) (zip os (map f ws))) ≡ None → b ≡ true
    first true g = refl
    first false g = cc

    told : (b : Bool) → is_effective o (f w) ≡ b → (v ≡ w) ⊎ (is_effective o (f v) ≡ true) → is_effective o (f v) ≡ true
    told b g (inl q) = ap (λ (x : OutMap). is_effective o (f x)) q ∙ first (is_effective o (f w)) e
    told b g (inr q) = q

-- what lies in the old domain where a number of each other map does
inside-same : (u v : DomainAndMaps) (ws : List OutMap) (D : List Bounds) → length v.maps ≡ length ws
    → ((cell : List ℤ) → IsCell D cell → (j : ℕ) → j < length v.maps
    → (get_or v.maps j nowhere ≡ get_or ws j nowhere) ⊎ (is_effective (get_or u.domain.dims j point) (map_value v.domain.dims cell (get_or v.maps j nowhere)) ≡ true))
    → GoesInto D (with_maps v ws) u.domain.dims → GoesInto D v u.domain.dims
inside-same u v ws D l h g finite cell c =
    outside-same 0 (map_value v.domain.dims cell) u.domain.dims v.maps ws l (h cell c) (g finite cell c)

-- the same where the domain may be infinite
reached-same : (u v : DomainAndMaps) (ws : List OutMap) (D : List Bounds) → length v.maps ≡ length ws → length v.maps ≡ length u.domain.dims
    → ((cell : List ℤ) → IsCell D cell → (j : ℕ) → j < length v.maps
    → (get_or v.maps j nowhere ≡ get_or ws j nowhere) ⊎ (is_effective (get_or u.domain.dims j point) (map_value v.domain.dims cell (get_or v.maps j nowhere)) ≡ true))
    → ReachesInto D (with_maps v ws) u.domain.dims → ReachesInto D v u.domain.dims
reached-same u v ws D l n h g cell c k less i = told (h cell c k in_maps)
  where
    in_maps : k < length v.maps
    in_maps = omega (arith, n, less)

    at : get_or (map (map_value v.domain.dims cell) v.maps) k (pos 0) ≡ map_value v.domain.dims cell (get_or v.maps k nowhere)
    at = value-at v.domain.dims cell v.maps k in_maps

    other : get_or (map (map_value v.domain.dims cell) ws) k (pos 0) ≡ map_value v.domain.dims cell (get_or ws k nowhere)
    other = value-at v.domain.dims cell ws k (omega (arith, in_maps, l))

    told : (get_or v.maps k nowhere ≡ get_or ws k nowhere) ⊎ (is_effective (get_or u.domain.dims k point) (map_value v.domain.dims cell (get_or v.maps k nowhere)) ≡ true)
        → is_effective (get_or u.domain.dims k point) (get_or (map (map_value v.domain.dims cell) v.maps) k (pos 0)) ≡ true
    told (inr q) = subst (λ (y : ℤ). is_effective (get_or u.domain.dims k point) y ≡ true) (sym at) q
    told (inl e) =
        let same = at ∙ ap (map_value v.domain.dims cell) e ∙ sym other in
        subst (λ (y : ℤ). is_effective (get_or u.domain.dims k point) y ≡ true) (sym same) (g cell c k less (subst (λ (y : ℤ). is_index y ≡ true) same i))

-- where the view's own numbers lie in the old domain, it has what comes of the other view
pub Gives-same-maps : (u v : DomainAndMaps) (ws : List OutMap) (r : Result DomainAndMaps Fault) → length v.maps ≡ length ws → length v.maps ≡ length u.domain.dims
    → AreSameForAll v.maps ws u.maps
    → ((t : DomainAndMaps) → over u (with_maps v ws) ≡ Ok t → (cell : List ℤ) → IsCell t.domain.dims cell → (j : ℕ) → j < length v.maps
    → (get_or v.maps j nowhere ≡ get_or ws j nowhere) ⊎ (is_effective (get_or u.domain.dims j point) (map_value v.domain.dims cell (get_or v.maps j nowhere)) ≡ true))
    → Gives u (with_maps v ws) (over u (with_maps v ws)) r → Gives u v (over u v) r
Gives-same-maps u v ws (Ok t) l n h each given = (
  over-same u v ws l h ∙ given.0,
  record {
    values = λ index c. given.1.values index c ∙ sym (values-same u.domain.dims v.domain.dims index v.maps ws u.maps l h);
    inside = inside-same u v ws t.domain.dims l (each t given.0) given.1.inside;
    reached = reached-same u v ws t.domain.dims l n (each t given.0) given.1.reached;
  },
)
Gives-same-maps u v ws (Err f) l n h each given = told f given
  where
    told : (e : Fault) → IsFaultOf (over u (with_maps v ws)) e → IsFaultOf (over u v) e
    told (fault.Refused c) is = over-same u v ws l h ∙ is
    told fault.Memory is = tt

-- The cells of a composition are those of the view.

joined-of : (u w t : DomainAndMaps) → over u w ≡ Ok t → t ≡ joined u w
joined-of u w t e = told (position_from (passes_word w.maps) 0 u.maps) (position_from (is_too_large w.domain.dims w.maps) 0 u.maps) e
  where
    told : (p o : Option ℕ) → or_cause (unless_passed p (unless_large o (joined u w))) ≡ Ok t → t ≡ joined u w
    told (Some k) o e = cc
    told None (Some k) e = cc
    told None None e = cc

pub cell-view : (u w t : DomainAndMaps) (cell : List ℤ) → over u w ≡ Ok t → IsCell t.domain.dims cell → IsCell w.domain.dims cell
cell-view u w t cell e c =
    let d = ap (λ (x : DomainAndMaps). x.domain.dims) (joined-of u w t e) in
    let ms = map (composed_map u.domain.dims w.domain.dims w.maps) u.maps in
    cell-closed 0 w.domain.dims ms cell (subst (λ (ds : List Bounds). IsCell ds cell) d c)

-- an entry of a list along a dimension is one of its effective indices
pub entry-effective : (ds : List Bounds) (rank dim : ℕ) (b : Bounds) (entries : List ℤ) (cell : List ℤ) → length ds ≡ rank → dim < rank → get_or ds dim (array_dim entries) ≡ array_dim entries
    → IsCell ds cell → list_all (is_effective b) entries ≡ true → is_effective b (map_value ds cell (array_map rank dim entries)) ≡ true
entry-effective ds rank dim b entries cell l h at c good =
    ap (is_effective b) (as_it_is (get_or entries (entry_place ds (sizes_along rank dim (length entries)) cell) (pos 0)))
    ∙ list_all-at (is_effective b) entries (pos 0) good (entry_place ds (sizes_along rank dim (length entries)) cell) (place-along ds cell rank dim entries l h c at)
