-- No index vector that goes into the outer domain is lost by tightening.
use Rattle.std.proofs.Common.{◌≡◌, ◌≢◌, ◌∙◌, ◌⊎◌, inl, inr, suc, ℕ, ◌+◌, ◌<◌, ◌==◌, Bool, true, false, not, cond, ◌&&◌, ◌||◌, int_le, List, [], ◌∷◌, length, get_or, map, fold, refl, sym, ap, subst, arith, ℤ, pos, ◌+ℤ◌, ◌-ℤ◌, ◌*ℤ◌, ◌≤ℤ◌, ◌<ℤ◌, Option, Some, None, unwrap_or, Ok, ◌≤◌}
use Rattle.std.proofs.lemmas.Int.{ints, clamps}
use Rattle.std.proofs.lemmas.Bool.Decides.{nat_tests, Decides-int_eq}
use Rattle.std.specs.Option.{option_map, ForSome}
use Rattle.std.specs.Ordering.{int_eq}
use Rattle.std.specs.Int.{int_max, int_min, is_negative}
use Rattle.std.specs.Int.RustNames.{int_lt}
use Rattle.std.specs.List.{AllByRecursion, list_all, list_any, zip, position_from}
use Rattle.index_transform.proofs.Laws.{both, both_true, second_true}
use Rattle.index_transform.specs.Bounds.{Bounds, is_index, minus_infinity, plus_infinity}
use Rattle.index_transform.specs.Edges.{lower_edge, upper_edge, is_open, interval_of, preimage}
use Rattle.index_transform.specs.Meet.{greater_at, greater_edge, lesser_at, lesser_edge, cross_at, below, uncrossed, bounds_met, met_all}
use Rattle.index_transform.specs.declared.Edge.{Edge}
use Rattle.index_transform.specs.declared.Ends.{Ends}
use Rattle.index_transform.proofs.Laws.{up_at, down_at, beyond_at, before_at}
use Rattle.index_transform.specs.declared.map.OutMap.{OutMap}
use Rattle.index_transform.specs.declared.map.OutMap.TheVariants.{Constant, Strided, Indexed}
use Rattle.index_transform.specs.Maps.{is_plain}
use Rattle.index_transform.specs.Values.{map_value, is_effective, first_outside}
use Rattle.index_transform.proofs.Laws.{list_all-position_from}
use Rattle.index_transform.specs.Transforms.{DomainAndMaps, IsTransform}
use Rattle.transform_composition.specs.Tightening.{preimages, met, takes, tight_lower, tight_upper, tight_dims, tightened, on_dims}
use Rattle.transform_composition.specs.Reading.{has_array_along, point}
use Rattle.transform_composition.specs.Composing.{composed_map, closed, closed_along, closed_dims, joined}
use Rattle.transform_composition.specs.Meeting.{KeepsReached, IsUnderArrays, KeepsComposed}
use Rattle.transform_composition.proofs.JoinLemmas.{length-closed_dims}
use Rattle.transform_composition.proofs.AgreeLemmas.{IsTightened-of, lo-closed, hi-closed}

-- the number passes no lower edge that is explicit, and no upper one
abbrev pub StaysAbove : Edge → ℤ → Type 0
StaysAbove e x = e.implicit ≡ false → ForSome e.at (λ low. low ≤ℤ x)

abbrev pub StaysBelow : Edge → ℤ → Type 0
StaysBelow e x = e.implicit ≡ false → ForSome e.at (λ high. x ≤ℤ high)

-- of two bounds that meet explicitly, one is explicit and attains the number
one_explicit : (u v f g : Bool) → ((u || f) && (v || g)) ≡ false → ((u ≡ false) × (f ≡ false)) ⊎ ((v ≡ false) × (g ≡ false))
one_explicit false v false g e = inl (refl, refl)
one_explicit false false true false e = inr (refl, refl)
one_explicit false false true true e = absurd (let no_such : ⊥ = cc in no_such)
one_explicit false true true g e = absurd (let no_such : ⊥ = cc in no_such)
one_explicit true false f false e = inr (refl, refl)
one_explicit true false f true e = absurd (let no_such : ⊥ = cc in no_such)
one_explicit true true f g e = absurd (let no_such : ⊥ = cc in no_such)

above-greater : (a b : Edge) (x : ℤ) → StaysAbove a x → StaysAbove b x → StaysAbove (greater_edge a b) x
above-greater a b x p q = told a.at b.at refl refl
  where
    told : (m n : Option ℤ) → a.at ≡ m → b.at ≡ n → StaysAbove (greater_at a b m n) x
    told None None r s = λ f y e. absurd (let no_such : ⊥ = cc in no_such)
    told None (Some n) r s = q
    told (Some m) None r s = p
    told (Some m) (Some n) r s = λ f y e.
        let same : int_max m n ≡ y = cc in
        elim (one_explicit (int_lt m n) (int_lt n m) a.implicit b.implicit f) [
          | inl h ↦ let l = p h.1 m r in let t = h.0 in (let k : int_max m n ≡ m = grind (arith, ints, clamps, t) in subst (λ (z : ℤ). z ≤ℤ x) (sym k ∙ same) l)
          | inr h ↦ let l = q h.1 n s in let t = h.0 in (let k : int_max m n ≡ n = grind (arith, ints, clamps, t) in subst (λ (z : ℤ). z ≤ℤ x) (sym k ∙ same) l)
        ]

below-lesser : (a b : Edge) (x : ℤ) → StaysBelow a x → StaysBelow b x → StaysBelow (lesser_edge a b) x
below-lesser a b x p q = told a.at b.at refl refl
  where
    told : (m n : Option ℤ) → a.at ≡ m → b.at ≡ n → StaysBelow (lesser_at a b m n) x
    told None None r s = λ f y e. absurd (let no_such : ⊥ = cc in no_such)
    told None (Some n) r s = q
    told (Some m) None r s = p
    told (Some m) (Some n) r s = λ f y e.
        let same : int_min m n ≡ y = cc in
        elim (one_explicit (int_lt n m) (int_lt m n) a.implicit b.implicit f) [
          | inl h ↦ let l = p h.1 m r in let t = h.0 in (let k : int_min m n ≡ m = grind (arith, ints, clamps, t) in subst (λ (z : ℤ). x ≤ℤ z) (sym k ∙ same) l)
          | inr h ↦ let l = q h.1 n s in let t = h.0 in (let k : int_min m n ≡ n = grind (arith, ints, clamps, t) in subst (λ (z : ℤ). x ≤ℤ z) (sym k ∙ same) l)
        ]

-- the number stays between ends
abbrev pub Stays : ℤ → Ends → Type 0
Stays x e = StaysAbove e.lower x × StaysBelow e.upper x

above_fold : (l : Edge) (es : List Ends) (x : ℤ) → StaysAbove l x → AllByRecursion (Stays x) es → StaysAbove (fold greater_edge l (map (λ e. e.lower) es)) x
above_fold l [] x p h = p
above_fold l (e ∷ es) x p h = above_fold (greater_edge l e.lower) es x (above-greater l e.lower x p h.0.0) h.1

below_fold : (u : Edge) (es : List Ends) (x : ℤ) → StaysBelow u x → AllByRecursion (Stays x) es → StaysBelow (fold lesser_edge u (map (λ e. e.upper) es)) x
below_fold u [] x p h = p
below_fold u (e ∷ es) x p h = below_fold (lesser_edge u e.upper) es x (below-lesser u e.upper x p h.0.1) h.1

-- where ends cross, nothing below the upper one is above the one that is put right
below-uncrossed : (e : Ends) (x : ℤ) → StaysBelow e.upper x → StaysBelow ((uncrossed e).upper) x
below-uncrossed e x p = λ f. told e.lower.at e.upper.at refl (p f)
  where
    told : (m n : Option ℤ) → e.upper.at ≡ n → ForSome n (λ high. x ≤ℤ high) → ForSome (cond (cross_at m n) (below m) n) (λ high. x ≤ℤ high)
    told None n r h = h
    told (Some m) None r h = h
    told (Some m) (Some n) r h = crossed (int_lt (n +ℤ pos 1) m) refl
      where
        crossed : (b : Bool) → int_lt (n +ℤ pos 1) m ≡ b → ForSome (cond b (Some (m -ℤ pos 1)) (Some n)) (λ high. x ≤ℤ high)
        crossed false c = h
        crossed true c = λ y g. let same : m -ℤ pos 1 ≡ y = cc in let l = h n refl in let d : (n +ℤ pos 1) <ℤ m = grind (arith, ints, c) in subst (λ (z : ℤ). x ≤ℤ z) same (omega (arith, ints, l, d))

stays-met_all : (e : Ends) (es : List Ends) (x : ℤ) → AllByRecursion (Stays x) (e ∷ es) → Stays x (met_all e es)
stays-met_all e es x h = (above_fold e.lower es x h.0.0 h.1, below-uncrossed (bounds_met e es) x (below_fold e.upper es x h.0.1 h.1))

-- a number whose image is an effective member stays between the ends of the pre-image
lo_passed : (b : Bounds) (y : ℤ) → is_effective b y ≡ true → b.lo_implicit ≡ false → b.lo ≤ℤ y
lo_passed b y e f =
    let p = both (is_index y && (b.lo_implicit || int_le b.lo y)) (b.hi_implicit || int_le y b.hi) e in
    let q = both (is_index y) (b.lo_implicit || int_le b.lo y) p.0 in
    let r = second_true b.lo_implicit (int_le b.lo y) f q.1 in
    grind (arith, ints, r)

hi_passed : (b : Bounds) (y : ℤ) → is_effective b y ≡ true → b.hi_implicit ≡ false → y ≤ℤ b.hi
hi_passed b y e f =
    let p = both (is_index y && (b.lo_implicit || int_le b.lo y)) (b.hi_implicit || int_le y b.hi) e in
    let r = second_true b.hi_implicit (int_le y b.hi) f p.1 in
    grind (arith, ints, r)

stays-preimage : (b : Bounds) (o s x : ℤ) → s ≢ pos 0 → is_effective b (o +ℤ s *ℤ x) ≡ true → Stays x (preimage b o s)
stays-preimage b o s x n e = told (is_negative s) refl
  where
    told : (t : Bool) → is_negative s ≡ t → Stays x (preimage b o s)
    told true r =
        let h : s <ℤ pos 0 = grind (arith, ints, r) in
        let l = beyond_at b.hi o s x (is_index b.hi) refl h in
        let u = before_at b.lo o s x (is_index b.lo) refl h in (
          rw r (λ f. l.1 (λ i. hi_passed b (o +ℤ s *ℤ x) e f)),
          rw r (λ f. u.1 (λ i. lo_passed b (o +ℤ s *ℤ x) e f)),
        )
    told false r =
        let h : pos 0 <ℤ s = grind (arith, ints, r, n) in
        let l = up_at b.lo o s x (is_index b.lo) refl h in
        let u = down_at b.hi o s x (is_index b.hi) refl h in (
          rw r (λ f. l.1 (λ i. lo_passed b (o +ℤ s *ℤ x) e f)),
          rw r (λ f. u.1 (λ i. hi_passed b (o +ℤ s *ℤ x) e f)),
        )

plain_nonzero : (s : ℤ) → not (int_eq s (pos 0)) ≡ true → s ≢ pos 0
plain_nonzero s e = λ z. let same : int_eq s (pos 0) ≡ true = (Decides-int_eq s (pos 0)).1 z in let f = (rw same at e) in absurd (let no_such : ⊥ = cc in no_such)

stays-all : (dims : List Bounds) (index : List ℤ) (k : ℕ) (outers : List Bounds) (maps : List OutMap) → list_all is_plain maps ≡ true
    → list_all (λ p. is_effective p.0 p.1) (zip outers (map (map_value dims index) maps)) ≡ true
    → AllByRecursion (Stays (get_or index k (pos 0))) (preimages preimage k outers maps)
stays-all dims index k [] maps p e = tt
stays-all dims index k (o ∷ outers) [] p e = tt
stays-all dims index k (o ∷ outers) (Constant offset ∷ maps) p e =
    stays-all dims index k outers maps p ((both (is_effective o offset) (list_all (λ p. is_effective p.0 p.1) (zip outers (map (map_value dims index) maps))) e).1)
stays-all dims index k (o ∷ outers) (Indexed offset stride sizes entries ∷ maps) p e =
    let q = both (is_plain (Indexed offset stride sizes entries)) (list_all is_plain maps) p in
    stays-all dims index k outers maps q.1 ((both (is_effective o (map_value dims index (Indexed offset stride sizes entries))) (list_all (λ p. is_effective p.0 p.1) (zip outers (map (map_value dims index) maps))) e).1)
stays-all dims index k (o ∷ outers) (Strided offset stride from ∷ maps) p e =
    let q = both (is_plain (Strided offset stride from)) (list_all is_plain maps) p in
    let r = both (is_effective o (offset +ℤ stride *ℤ get_or index from (pos 0))) (list_all (λ p. is_effective p.0 p.1) (zip outers (map (map_value dims index) maps))) e in
    told (from == k) refl (stays-all dims index k outers maps q.1 r.1) (plain_nonzero stride q.0) r.0
  where
    told : (b : Bool) → (from == k) ≡ b → AllByRecursion (Stays (get_or index k (pos 0))) (preimages preimage k outers maps) → stride ≢ pos 0
        → is_effective o (offset +ℤ stride *ℤ get_or index from (pos 0)) ≡ true
        → AllByRecursion (Stays (get_or index k (pos 0))) (cond b (preimage o offset stride ∷ preimages preimage k outers maps) (preimages preimage k outers maps))
    told false f h n g = h
    told true f h n g =
        let same : from ≡ k = grind (arith, nat_tests, f) in
        (stays-preimage o offset stride (get_or index k (pos 0)) n (subst (λ (i : ℕ). is_effective o (offset +ℤ stride *ℤ get_or index i (pos 0)) ≡ true) same g), h)

-- one dimension: an effective member that stays between the pre-images is one of the tightened interval
edges_of : (old : Bounds) (x : ℤ) → is_effective old x ≡ true → Stays x (record { lower = lower_edge old; upper = upper_edge old })
edges_of old x e = (
  (λ f. low (is_index old.lo) (lo_passed old x e f)),
  (λ f. high (is_index old.hi) (hi_passed old x e f)),
)
  where
    low : (t : Bool) → old.lo ≤ℤ x → ForSome (cond t (Some old.lo) None) (λ low. low ≤ℤ x)
    low true h = λ y g. let same : old.lo ≡ y = cc in subst (λ (z : ℤ). z ≤ℤ x) same h
    low false h = λ y g. absurd (let no_such : ⊥ = cc in no_such)

    high : (t : Bool) → x ≤ℤ old.hi → ForSome (cond t (Some old.hi) None) (λ high. x ≤ℤ high)
    high true h = λ y g. let same : old.hi ≡ y = cc in subst (λ (z : ℤ). x ≤ℤ z) same h
    high false h = λ y g. absurd (let no_such : ⊥ = cc in no_such)

stays-taken : (old : Bounds) (es : List Ends) (x : ℤ) → is_effective old x ≡ true → AllByRecursion (Stays x) es
    → Stays x (record { lower = takes (lower_edge old) (option_map (λ m. m.lower) (met es)); upper = takes (upper_edge old) (option_map (λ m. m.upper) (met es)) })
stays-taken old es x e h = (low (is_open (lower_edge old)) es h, high (is_open (upper_edge old)) es h)
  where
    low : (t : Bool) (es : List Ends) → AllByRecursion (Stays x) es → StaysAbove (cond t (unwrap_or (option_map (λ m. m.lower) (met es)) (lower_edge old)) (lower_edge old)) x
    low false es h = (edges_of old x e).0
    low true [] h = (edges_of old x e).0
    low true (d ∷ es) h = (stays-met_all d es x h).0

    high : (t : Bool) (es : List Ends) → AllByRecursion (Stays x) es → StaysBelow (cond t (unwrap_or (option_map (λ m. m.upper) (met es)) (upper_edge old)) (upper_edge old)) x
    high false es h = (edges_of old x e).1
    high true [] h = (edges_of old x e).1
    high true (d ∷ es) h = (stays-met_all d es x h).1

effective-between : (l u : Edge) (x : ℤ) → is_index x ≡ true → StaysAbove l x → StaysBelow u x → is_effective (interval_of l u) x ≡ true
effective-between l u x i p q =
    both_true (is_index x && (l.implicit || int_le (unwrap_or l.at minus_infinity) x)) (u.implicit || int_le x hi) (both_true (is_index x) (l.implicit || int_le (unwrap_or l.at minus_infinity) x) i (low l.implicit p)) (high u.implicit q)
  where
    hi : ℤ
    hi = (interval_of l u).hi

    low : (f : Bool) → (f ≡ false → ForSome l.at (λ low. low ≤ℤ x)) → (f || int_le (unwrap_or l.at minus_infinity) x) ≡ true
    low true p = refl
    low false p = at l.at (p refl)
      where
        at : (o : Option ℤ) → ForSome o (λ low. low ≤ℤ x) → int_le (unwrap_or o minus_infinity) x ≡ true
        at None h = grind (arith, ints, i)
        at (Some m) h = let g = h m refl in grind (arith, ints, g)

    high : (f : Bool) → (f ≡ false → ForSome u.at (λ high. x ≤ℤ high)) → (f || int_le x ((interval_of l u).hi)) ≡ true
    high true q = refl
    high false q = at (unwrap_or l.at minus_infinity) u.at (q refl)
      where
        at : (lo : ℤ) (o : Option ℤ) → ForSome o (λ high. x ≤ℤ high) → int_le x (cond (int_lt (unwrap_or o plus_infinity +ℤ pos 1) lo) (lo -ℤ pos 1) (unwrap_or o plus_infinity)) ≡ true
        at lo None h = most (int_lt (plus_infinity +ℤ pos 1) lo) refl
          where
            most : (b : Bool) → int_lt (plus_infinity +ℤ pos 1) lo ≡ b → int_le x (cond b (lo -ℤ pos 1) plus_infinity) ≡ true
            most true c = grind (arith, ints, i, c)
            most false c = grind (arith, ints, i)
        at lo (Some n) h = most (int_lt (n +ℤ pos 1) lo) refl (h n refl)
          where
            most : (b : Bool) → int_lt (n +ℤ pos 1) lo ≡ b → x ≤ℤ n → int_le x (cond b (lo -ℤ pos 1) n) ≡ true
            most true c g = grind (arith, ints, g, c)
            most false c g = grind (arith, ints, g)

index_of : (b : Bounds) (x : ℤ) → is_effective b x ≡ true → is_index x ≡ true
index_of b x e =
    let p = both (is_index x && (b.lo_implicit || int_le b.lo x)) (b.hi_implicit || int_le x b.hi) e in
    (both (is_index x) (b.lo_implicit || int_le b.lo x) p.0).0

-- all dimensions
none_lost : (n : ℕ) (ds outers : List Bounds) (maps : List OutMap) (all index : List ℤ)
    → ((k : ℕ) → k < length index → get_or index k (pos 0) ≡ get_or all (n + k) (pos 0))
    → ((k : ℕ) → AllByRecursion (Stays (get_or all k (pos 0))) (preimages preimage k outers maps))
    → (i : ℕ) → list_all (λ p. is_effective p.0 p.1) (zip ds index) ≡ true
    → position_from (λ p. not (is_effective p.0 p.1)) i (zip (tight_dims n ds outers maps) index) ≡ None
none_lost n [] outers maps all index at h i e = refl
none_lost n (d ∷ ds) outers maps all [] at h i e = refl
none_lost n (d ∷ ds) outers maps all (x ∷ index) at h i e =
    let p = both (is_effective d x) (list_all (λ p. is_effective p.0 p.1) (zip ds index)) e in
    let here : x ≡ get_or all n (pos 0) = at 0 (omega arith) ∙ (let z : n + 0 ≡ n = omega arith in ap (λ (k : ℕ). get_or all k (pos 0)) z) in
    let s = stays-taken d (preimages preimage n outers maps) x p.0 (subst (λ (y : ℤ). AllByRecursion (Stays y) (preimages preimage n outers maps)) (sym here) (h n)) in
    let g : is_effective (interval_of (tight_lower n d outers maps) (tight_upper n d outers maps)) x ≡ true = effective-between (tight_lower n d outers maps) (tight_upper n d outers maps) x (index_of d x p.0) s.0 s.1 in
    rw g (none_lost (n + 1) ds outers maps all index (λ k l. at (suc k) (omega (arith, l)) ∙ (let z : n + suc k ≡ (n + 1) + k = omega arith in ap (λ (j : ℕ). get_or all j (pos 0)) z)) h (i + 1) p.1)

pub KeepsReached-tight : (ds outers : List Bounds) (maps : List OutMap) (index : List ℤ) → list_all is_plain maps ≡ true → first_outside ds index ≡ None
    → first_outside outers (map (map_value ds index) maps) ≡ None → first_outside (tight_dims 0 ds outers maps) index ≡ None
KeepsReached-tight ds outers maps index p e f =
    let inner = list_all-position_from (λ p. is_effective p.0 p.1) 0 (zip ds index) e in
    let outer = list_all-position_from (λ p. is_effective p.0 p.1) 0 (zip outers (map (map_value ds index) maps)) f in
    none_lost 0 ds outers maps index index (λ k l. let z : k ≡ 0 + k = omega arith in ap (λ (j : ℕ). get_or index j (pos 0)) z)
    (λ k. stays-all ds index k outers maps p outer) 0 inner

pub KeepsReached-tightened : (t new : DomainAndMaps) (os ds : List Bounds) → IsTransform t → tightened t.domain.dims os t.maps ≡ Ok ds → new ≡ on_dims t ds
    → KeepsReached t new.domain.dims os
KeepsReached-tightened t new os ds rules e f = λ index l a b.
    let i = IsTightened-of t.domain.dims os t.maps ds e in
    let same : new.domain.dims ≡ tight_dims 0 t.domain.dims os t.maps = ap (λ (u : DomainAndMaps). u.domain.dims) f ∙ i.dims in
    subst (λ (news : List Bounds). first_outside news index ≡ None) (sym same) (KeepsReached-tight t.domain.dims os t.maps index rules.plain a b)

-- bounds made explicit keep what lies between them
effective-closed : (d : Bounds) (x : ℤ) → is_effective d x ≡ true → d.lo ≤ℤ x → x ≤ℤ d.hi → is_effective (closed d) x ≡ true
effective-closed d x e l h =
    let i = index_of d x e in
    let a : int_le d.lo x ≡ true = grind (arith, ints, l) in
    let b : int_le x d.hi ≡ true = grind (arith, ints, h) in
    both_true (is_index x && int_le d.lo x) (int_le x d.hi) (both_true (is_index x) (int_le d.lo x) i a) b

none_closed : (n : ℕ) (ds : List Bounds) (ms : List OutMap) (all : List Bounds) (alls index : List ℤ)
    → ((k : ℕ) → k < length ds → get_or ds k point ≡ get_or all (n + k) point)
    → ((k : ℕ) → get_or index k (pos 0) ≡ get_or alls (n + k) (pos 0))
    → ((k : ℕ) → n ≤ k → k < n + length ds → list_any (has_array_along k) ms ≡ true → ((get_or all k point).lo ≤ℤ get_or alls k (pos 0)) × (get_or alls k (pos 0) ≤ℤ (get_or all k point).hi))
    → (i : ℕ) → list_all (λ p. is_effective p.0 p.1) (zip ds index) ≡ true
    → position_from (λ p. not (is_effective p.0 p.1)) i (zip (closed_dims n ds ms) index) ≡ None
none_closed n [] ms all alls index at here between i e = refl
none_closed n (d ∷ ds) ms all alls [] at here between i e = refl
none_closed n (d ∷ ds) ms all alls (x ∷ index) at here between i e =
    let p = both (is_effective d x) (list_all (λ p. is_effective p.0 p.1) (zip ds index)) e in
    let g : is_effective (closed_along n ms d) x ≡ true = told (list_any (has_array_along n) ms) refl p.0 in
    rw g (none_closed (n + 1) ds ms all alls index
    (λ k l. at (suc k) (omega (arith, l)) ∙ (let z : n + suc k ≡ (n + 1) + k = omega arith in ap (λ (j : ℕ). get_or all j point) z))
    (λ k. here (suc k) ∙ (let z : n + suc k ≡ (n + 1) + k = omega arith in ap (λ (j : ℕ). get_or alls j (pos 0)) z))
    (λ k l m a. between k (omega (arith, l)) (omega (arith, m)) a) (i + 1) p.1)
  where
    told : (b : Bool) → list_any (has_array_along n) ms ≡ b → is_effective d x ≡ true → is_effective (cond b (closed d) d) x ≡ true
    told false f g = g
    told true f g =
        let z : n + 0 ≡ n = omega arith in
        let b = between n (omega arith) (omega arith) f in
        let dim : d ≡ get_or all n point = at 0 (omega arith) ∙ ap (λ (j : ℕ). get_or all j point) z in
        let y : x ≡ get_or alls n (pos 0) = here 0 ∙ ap (λ (j : ℕ). get_or alls j (pos 0)) z in
        let l : d.lo ≤ℤ x = rw (dim, y) b.0 in
        let h : x ≤ℤ d.hi = rw (dim, y) b.1 in
        effective-closed d x g l h

pub KeepsComposed-joined : (outer inner t : DomainAndMaps) (ds : List Bounds) → IsTransform inner → tightened inner.domain.dims outer.domain.dims inner.maps ≡ Ok ds → t ≡ joined outer (on_dims inner ds)
    → KeepsComposed t inner outer.domain.dims
KeepsComposed-joined outer inner t ds rules e f = λ index l under a b.
    let ms : List OutMap = map (composed_map outer.domain.dims ds inner.maps) outer.maps in
    let i = IsTightened-of inner.domain.dims outer.domain.dims inner.maps ds e in
    let tight : first_outside ds index ≡ None = subst (λ (news : List Bounds). first_outside news index ≡ None) (sym i.dims) (KeepsReached-tight inner.domain.dims outer.domain.dims inner.maps index rules.plain a b) in
    let each = list_all-position_from (λ p. is_effective p.0 p.1) 0 (zip ds index) tight in
    let spread : IsUnderArrays (joined outer (on_dims inner ds)) index = subst (λ (u : DomainAndMaps). IsUnderArrays u index) f under in
    subst (λ (u : DomainAndMaps). first_outside u.domain.dims index ≡ None) (sym f)
    (none_closed 0 ds ms ds index index
    (λ k h. let z : k ≡ 0 + k = omega arith in ap (λ (j : ℕ). get_or ds j point) z)
    (λ k. let z : k ≡ 0 + k = omega arith in ap (λ (j : ℕ). get_or index j (pos 0)) z)
    (λ k lo hi array.
    let less : k < length ds = omega (arith, hi) in
    let p = spread k (subst (λ (n : ℕ). k < n) (sym (length-closed_dims 0 ds ms)) less) array in
    (subst (λ (z : ℤ). z ≤ℤ get_or index k (pos 0)) (lo-closed ds ms k less) p.0, subst (λ (z : ℤ). get_or index k (pos 0) ≤ℤ z) (hi-closed ds ms k less) p.1))
    0 each)
