-- Where no output makes a bound overflow, tightened bounds are finite indices or missing.
use Rattle.std.proofs.Common.{◌≡◌, ◌∙◌, ◌⊎◌, inl, inr, map, unwrap_or, pos, ◌-ℤ◌, ℕ, ◌+◌, ◌<◌, ◌==◌, ◌&&◌, ◌||◌, Bool, true, false, not, cond, List, [], ◌∷◌, length, fold, get_or, refl, sym, ap, subst, arith, ℤ, Option, Some, None}
use Rattle.std.proofs.lemmas.Bool.Decides.{nat_tests, Decides-int_eq}
use Rattle.std.specs.Option.{ForSome, option_map}
use Rattle.std.specs.Ordering.{int_eq}
use Rattle.std.specs.Int.RustNames.{int_lt}
use Rattle.std.specs.List.{list_all, zip, position_from}
use Rattle.index_transform.proofs.Laws.{list_all-position_from, get_or-inside}
use Rattle.index_transform.specs.Bounds.{Bounds, IsIndex, is_index}
use Rattle.index_transform.proofs.Laws.{is_index-true}
use Rattle.index_transform.specs.declared.Edge.{Edge}
use Rattle.index_transform.specs.declared.Ends.{Ends}
use Rattle.index_transform.specs.Meet.{bounds_met, cross, below, met_all}
use Rattle.index_transform.specs.declared.map.OutMap.{OutMap}
use Rattle.index_transform.specs.declared.map.OutMap.TheVariants.{Constant, Strided, Indexed}
use Rattle.index_transform.specs.Edges.{finite_part, lower_edge, upper_edge, preimage}
use Rattle.transform_composition.specs.Tightening.{greater_at, greater_edge, lesser_at, lesser_edge, preimages, is_open, met, takes, tight_lower, tight_upper, gathered_from, passes_at, passes_below, upper_passes, overflows_at, overflows_by, first_overflow_by}
use Rattle.index_transform.proofs.Laws.{both, both_true}

-- each of two edges is met by one of them
greater-one : (a b : Edge) → ((greater_edge a b).at ≡ a.at) ⊎ ((greater_edge a b).at ≡ b.at)
greater-one a b = told a.at b.at refl refl
  where
    told : (x y : Option ℤ) → a.at ≡ x → b.at ≡ y → ((greater_at a b x y).at ≡ x) ⊎ ((greater_at a b x y).at ≡ y)
    told None None p q = inl refl
    told None (Some y) p q = inr q
    told (Some x) None p q = inl p
    told (Some x) (Some y) p q = most (int_lt y x)
      where
        most : (b : Bool) → (Some (cond b x y) ≡ Some x) ⊎ (Some (cond b x y) ≡ Some y)
        most true = inl refl
        most false = inr refl

lesser-one : (a b : Edge) → ((lesser_edge a b).at ≡ a.at) ⊎ ((lesser_edge a b).at ≡ b.at)
lesser-one a b = told a.at b.at refl refl
  where
    told : (x y : Option ℤ) → a.at ≡ x → b.at ≡ y → ((lesser_at a b x y).at ≡ x) ⊎ ((lesser_at a b x y).at ≡ y)
    told None None p q = inl refl
    told None (Some y) p q = inr q
    told (Some x) None p q = inl p
    told (Some x) (Some y) p q = least (int_lt y x)
      where
        least : (b : Bool) → (Some (cond b y x) ≡ Some x) ⊎ (Some (cond b y x) ≡ Some y)
        least true = inr refl
        least false = inl refl

-- a bound that is attained and doesn't pass is an index
attained : (x : ℤ) → not (passes_at (Some x) (Some x)) ≡ true → IsIndex x
attained x q = told (is_index x) refl q
  where
    told : (b : Bool) → is_index x ≡ b → not (int_eq x x && not (is_index x)) ≡ true → IsIndex x
    told true r s = is_index-true x r
    told false r s =
        let same : int_eq x x ≡ true = (Decides-int_eq x x).1 refl in
        let f = (rw (same, r) at s) in
        absurd (let no_such : ⊥ = cc in no_such)

attained_below : (x : ℤ) → not (passes_below (Some x) (Some x)) ≡ true → IsIndex (x -ℤ pos 1)
attained_below x q = told (is_index (x -ℤ pos 1)) refl q
  where
    told : (b : Bool) → is_index (x -ℤ pos 1) ≡ b → not (int_eq x x && not (is_index (x -ℤ pos 1))) ≡ true → IsIndex (x -ℤ pos 1)
    told true r s = is_index-true (x -ℤ pos 1) r
    told false r s =
        let same : int_eq x x ≡ true = (Decides-int_eq x x).1 refl in
        let f = (rw (same, r) at s) in
        absurd (let no_such : ⊥ = cc in no_such)

-- what is true of each bound is true of the one that is met
kept : (pass : Option ℤ → Bool) (f : Edge → Edge → Edge) → ((a b : Edge) → ((f a b).at ≡ a.at) ⊎ ((f a b).at ≡ b.at)) → (side : Ends → Edge) (e : Edge) (es : List Ends)
    → pass e.at ≡ true → list_all (λ d. pass (side d).at) es ≡ true → pass (fold f e (map side es)).at ≡ true
kept pass f one side e [] p q = p
kept pass f one side e (d ∷ es) p q =
    let a = both (pass (side d).at) (list_all (λ d. pass (side d).at) es) q in
    kept pass f one side (f e (side d)) es (either (one e (side d)) p a.0) a.1
  where
    either : (((f e (side d)).at ≡ e.at) ⊎ ((f e (side d)).at ≡ (side d).at)) → pass e.at ≡ true → pass (side d).at ≡ true → pass (f e (side d)).at ≡ true
    either (inl s) t u = ap pass s ∙ t
    either (inr s) t u = ap pass s ∙ u

-- no pre-image makes a bound overflow
pub none_passes_over : (inners outers0 : List Bounds) (maps0 : List OutMap) (k : ℕ) (inner : Bounds) → k < length inners → inner ≡ get_or inners k inner
    → (outers : List Bounds) (maps : List OutMap)
    → list_all (λ p. not (overflows_by inners outers0 maps0 p.0 p.1)) (zip outers maps) ≡ true
    → list_all (λ e. not (overflows_at inner (gathered_from None (preimages preimage k outers0 maps0)) e)) (preimages preimage k outers maps) ≡ true
none_passes_over inners os ms k inner h i [] maps e = refl
none_passes_over inners os ms k inner h i (outer ∷ outers) [] e = refl
none_passes_over inners os ms k inner h i (outer ∷ outers) (Constant offset ∷ maps) e = none_passes_over inners os ms k inner h i outers maps e
none_passes_over inners os ms k inner h i (outer ∷ outers) (Indexed offset stride sizes entries ∷ maps) e = none_passes_over inners os ms k inner h i outers maps e
none_passes_over inners os ms k inner h i (outer ∷ outers) (Strided offset stride from ∷ maps) e =
    let p = both (not (overflows_by inners os ms outer (Strided offset stride from))) (list_all (λ q. not (overflows_by inners os ms q.0 q.1)) (zip outers maps)) e in
    told (from == k) refl p.0 (none_passes_over inners os ms k inner h i outers maps p.1)
  where
    more : List Ends
    more = preimages preimage k outers maps

    fine : List Ends → Type 0
    fine es = list_all (λ e. not (overflows_at inner (gathered_from None (preimages preimage k os ms)) e)) es ≡ true

    told : (b : Bool) → (from == k) ≡ b → not (overflows_by inners os ms outer (Strided offset stride from)) ≡ true → fine more
        → fine (cond b (preimage outer offset stride ∷ more) more)
    told false f q m = m
    told true f q m =
        let same : from ≡ k = grind (arith, nat_tests, f) in
        let there : get_or inners k outer ≡ inner = get_or-inside inners k outer inner h ∙ sym i in
        let q2 = (rw (same, there) at q) in
        both_true _ _ q2 m

-- a finite bound is a finite index
finite_index : (b x : ℤ) → finite_part b ≡ Some x → IsIndex x
finite_index b x e = told (is_index b) refl e
  where
    told : (t : Bool) → is_index b ≡ t → cond t (Some b) None ≡ Some x → IsIndex x
    told true f e = let same : b ≡ x = cc in subst IsIndex same (is_index-true b f)
    told false f e = cc

-- where no pre-image overflows, each part of it holds of each
lower_fine : (o u : Bool) (bounds : Ends) (es : List Ends) → o ≡ true
    → list_all (λ e. not ((o && passes_at e.lower.at bounds.lower.at) || (u && upper_passes bounds e))) es ≡ true
    → list_all (λ e. not (passes_at e.lower.at bounds.lower.at)) es ≡ true
lower_fine o u bounds [] p e = refl
lower_fine o u bounds (d ∷ es) p e =
    let q = both (not ((o && passes_at d.lower.at bounds.lower.at) || (u && upper_passes bounds d))) (list_all (λ e. not ((o && passes_at e.lower.at bounds.lower.at) || (u && upper_passes bounds e))) es) e in
    both_true (not (passes_at d.lower.at bounds.lower.at)) (list_all (λ e. not (passes_at e.lower.at bounds.lower.at)) es) (one o (passes_at d.lower.at bounds.lower.at) (u && upper_passes bounds d) p q.0) (lower_fine o u bounds es p q.1)
  where
    one : (o a b : Bool) → o ≡ true → not ((o && a) || b) ≡ true → not a ≡ true
    one true true b p e = cc
    one true false b p e = refl
    one false a b p e = cc

upper_fine : (o u : Bool) (bounds : Ends) (es : List Ends) → u ≡ true
    → list_all (λ e. not ((o && passes_at e.lower.at bounds.lower.at) || (u && upper_passes bounds e))) es ≡ true
    → list_all (λ e. not (upper_passes bounds e)) es ≡ true
upper_fine o u bounds [] p e = refl
upper_fine o u bounds (d ∷ es) p e =
    let q = both (not ((o && passes_at d.lower.at bounds.lower.at) || (u && upper_passes bounds d))) (list_all (λ e. not ((o && passes_at e.lower.at bounds.lower.at) || (u && upper_passes bounds e))) es) e in
    both_true (not (upper_passes bounds d)) (list_all (λ e. not (upper_passes bounds e)) es) (one (o && passes_at d.lower.at bounds.lower.at) u (upper_passes bounds d) p q.0) (upper_fine o u bounds es p q.1)
  where
    one : (b u a : Bool) → u ≡ true → not (b || (u && a)) ≡ true → not a ≡ true
    one true u a p e = cc
    one false true true p e = cc
    one false true false p e = refl
    one false false a p e = cc

-- the bounds that are met are finite indices or missing
lower_index : (e : Ends) (es : List Ends) → list_all (λ d. not (passes_at d.lower.at ((bounds_met e es).lower.at))) (e ∷ es) ≡ true → ForSome ((bounds_met e es).lower.at) IsIndex
lower_index e es q = λ x p.
    let test : Option ℤ → Bool = λ o. not (passes_at o ((bounds_met e es).lower.at)) in
    let a = both (not (passes_at e.lower.at ((bounds_met e es).lower.at))) (list_all (λ d. not (passes_at d.lower.at ((bounds_met e es).lower.at))) es) q in
    let k = kept (λ o. not (passes_at o ((bounds_met e es).lower.at))) greater_edge greater-one (λ d. d.lower) e.lower es a.0 a.1 in
    attained x (subst (λ (o : Option ℤ). not (passes_at o o) ≡ true) p k)

upper_index : (e : Ends) (es : List Ends) → list_all (λ d. not (upper_passes (bounds_met e es) d)) (e ∷ es) ≡ true → ForSome ((met_all e es).upper.at) IsIndex
upper_index e es q = told (cross (bounds_met e es)) refl q
  where
    low : Option ℤ
    low = (bounds_met e es).lower.at

    high : Option ℤ
    high = (bounds_met e es).upper.at

    told : (b : Bool) → cross (bounds_met e es) ≡ b
        → list_all (λ d. not (cond b (passes_below d.lower.at ((bounds_met e es).lower.at)) (passes_at d.upper.at ((bounds_met e es).upper.at)))) (e ∷ es) ≡ true
        → ForSome (cond b (below ((bounds_met e es).lower.at)) ((bounds_met e es).upper.at)) IsIndex
    told false c q = λ x p.
        let a = both (not (passes_at e.upper.at ((bounds_met e es).upper.at))) (list_all (λ d. not (passes_at d.upper.at ((bounds_met e es).upper.at))) es) q in
        let k = kept (λ o. not (passes_at o ((bounds_met e es).upper.at))) lesser_edge lesser-one (λ d. d.upper) e.upper es a.0 a.1 in
        attained x (subst (λ (o : Option ℤ). not (passes_at o o) ≡ true) p k)
    told true c q =
        let a = both (not (passes_below e.lower.at ((bounds_met e es).lower.at))) (list_all (λ d. not (passes_below d.lower.at ((bounds_met e es).lower.at))) es) q in
        let k = kept (λ o. not (passes_below o ((bounds_met e es).lower.at))) greater_edge greater-one (λ d. d.lower) e.lower es a.0 a.1 in
        under ((bounds_met e es).lower.at) k
      where
        under : (o : Option ℤ) → not (passes_below o o) ≡ true → ForSome (below o) IsIndex
        under None k = λ x p. cc
        under (Some m) k = λ x p. let same : m -ℤ pos 1 ≡ x = cc in subst IsIndex same (attained_below m k)

-- the first place at which a test passes is the first at which its double negation does
none_passes : {X : Type 0} (p : X → Bool) (i : ℕ) (xs : List X) → position_from p i xs ≡ None → position_from (λ x. not (not (p x))) i xs ≡ None
none_passes p i [] e = refl
none_passes p i (x ∷ xs) e = told (p x) (λ h. none_passes p (i + 1) xs h) e
  where
    told : (b : Bool) → (position_from p (i + 1) xs ≡ None → position_from (λ y. not (not (p y))) (i + 1) xs ≡ None)
        → cond b (Some i) (position_from p (i + 1) xs) ≡ None → cond (not (not b)) (Some i) (position_from (λ y. not (not (p y))) (i + 1) xs) ≡ None
    told true h e = cc
    told false h e = h e

-- what the tightened edges of a dimension are
taken_lower : (inner : Bounds) (es : List Ends) → list_all (λ e. not (overflows_at inner (gathered_from None es) e)) es ≡ true
    → ForSome ((takes (lower_edge inner) (option_map (λ m. m.lower) (met es))).at) IsIndex
taken_lower inner es q = told (is_open (lower_edge inner)) refl es q
  where
    told : (b : Bool) → is_open (lower_edge inner) ≡ b → (es : List Ends) → list_all (λ e. not (overflows_at inner (gathered_from None es) e)) es ≡ true
        → ForSome ((cond b (unwrap_or (option_map (λ m. m.lower) (met es)) (lower_edge inner)) (lower_edge inner)).at) IsIndex
    told false o es q = λ x p. finite_index inner.lo x p
    told true o [] q = λ x p. finite_index inner.lo x p
    told true o (e ∷ es) q = lower_index e es (lower_fine (is_open (lower_edge inner)) (is_open (upper_edge inner)) (bounds_met e es) (e ∷ es) o q)

taken_upper : (inner : Bounds) (es : List Ends) → list_all (λ e. not (overflows_at inner (gathered_from None es) e)) es ≡ true
    → ForSome ((takes (upper_edge inner) (option_map (λ m. m.upper) (met es))).at) IsIndex
taken_upper inner es q = told (is_open (upper_edge inner)) refl es q
  where
    told : (b : Bool) → is_open (upper_edge inner) ≡ b → (es : List Ends) → list_all (λ e. not (overflows_at inner (gathered_from None es) e)) es ≡ true
        → ForSome ((cond b (unwrap_or (option_map (λ m. m.upper) (met es)) (upper_edge inner)) (upper_edge inner)).at) IsIndex
    told false o es q = λ x p. finite_index inner.hi x p
    told true o [] q = λ x p. finite_index inner.hi x p
    told true o (e ∷ es) q = upper_index e es (upper_fine (is_open (lower_edge inner)) (is_open (upper_edge inner)) (bounds_met e es) (e ∷ es) o q)

none_over : (inners outers : List Bounds) (maps : List OutMap) (k : ℕ) (inner : Bounds) → k < length inners → inner ≡ get_or inners k inner
    → first_overflow_by inners outers maps ≡ None → list_all (λ e. not (overflows_at inner (gathered_from None (preimages preimage k outers maps)) e)) (preimages preimage k outers maps) ≡ true
none_over inners outers maps k inner h i n =
    none_passes_over inners outers maps k inner h i outers maps
    (list_all-position_from (λ q. not (overflows_by inners outers maps q.0 q.1)) 0 (zip outers maps) (none_passes (λ q. overflows_by inners outers maps q.0 q.1) 0 (zip outers maps) n))

pub tight_lower-index : (inners outers : List Bounds) (maps : List OutMap) (k : ℕ) (inner : Bounds) → k < length inners → inner ≡ get_or inners k inner
    → first_overflow_by inners outers maps ≡ None → ForSome ((tight_lower k inner outers maps).at) IsIndex
tight_lower-index inners outers maps k inner h i n = taken_lower inner (preimages preimage k outers maps) (none_over inners outers maps k inner h i n)

pub tight_upper-index : (inners outers : List Bounds) (maps : List OutMap) (k : ℕ) (inner : Bounds) → k < length inners → inner ≡ get_or inners k inner
    → first_overflow_by inners outers maps ≡ None → ForSome ((tight_upper k inner outers maps).at) IsIndex
tight_upper-index inners outers maps k inner h i n = taken_upper inner (preimages preimage k outers maps) (none_over inners outers maps k inner h i n)
